-- When a chunk is turned down, under which number, and for which channel or rule.
use Rattle.std.specs.Prelude.{◌≡◌, ℕ, ◌+◌, ◌%◌, ◌<◌, ◌⊎◌, List, [], length, slice_index_or, ℤ, Some, None, Ok, Err, Option, Result, MatchOption, unsigned_abs}
use Rattle.channel_rules.specs.declared.records.Part.{Part}
use Rattle.channel_rules.specs.declared.records.ChannelDescription.{ChannelDescription}
use Rattle.channel_rules.specs.declared.records.IntegerBounds.{IntegerBounds}
use Rattle.channel_rules.specs.declared.records.Rule.{Rule}
use Rattle.channel_rules.specs.declared.records.Triplet.{Triplet}
use Rattle.roll.specs.declared.refusal.Concerned.{Concerned}
use Rattle.roll.specs.declared.refusal.Concerned.TheVariants.{Channel as OfChannel, Rule as OfRule}
use Rattle.roll.specs.declared.refusal.Refusal.{Refusal}
use Rattle.roll.specs.declared.refusal.Refusal.TheVariants.{TooMany, ChunkTooLarge, OutsideText, StepTooLarge, NoSuchSlot, OffStep, HeldTwice}
use Rattle.channel_rules.specs.Sides.{effective}
use Rattle.channel_rules.specs.Triplets.{no_channel, no_rule, no_triplet, triplets_in}

-- the number of each refusal
abbrev pub number : Refusal → ℕ
number TooMany = 1
number ChunkTooLarge = 2
number (OutsideText whom) = 3
number (StepTooLarge channel) = 4
number (NoSuchSlot rule) = 5
number (OffStep channel) = 6
number (HeldTwice channel) = 7

-- the channel or rule that it is about; None where that is the chunk
abbrev pub concerned : Refusal → Option Concerned
concerned TooMany = None
concerned ChunkTooLarge = None
concerned (OutsideText whom) = whom
concerned (StepTooLarge channel) = Some (OfChannel channel)
concerned (NoSuchSlot rule) = Some (OfRule rule)
concerned (OffStep channel) = Some (OfChannel channel)
concerned (HeldTwice channel) = Some (OfChannel channel)

-- no part of the text, or longer than 255 bytes
abbrev pub Outside : List ℕ → Part → Type 0
Outside text p = (length text < p.start + p.len) ⊎ (255 < p.len)

-- a step above 8,192
abbrev pub LongStep : ChannelDescription → Type 0
LongStep c = (8192 < c.x_sampling) ⊎ (8192 < c.y_sampling)

-- a slot that is neither none nor 0, 1 or 2
abbrev pub OddSlot : Rule → Type 0
OddSlot r = MatchOption r.csc_index ⊥ (λ slot. 2 < slot)

-- a coordinate that is a multiple of the step
abbrev pub Multiple : ℤ → ℕ → Type 0
Multiple place step = unsigned_abs place % effective step ≡ 0

-- a left or top coordinate that is no multiple of the channel's step
abbrev pub Astray : IntegerBounds → ChannelDescription → Type 0
Astray bounds c = (Multiple bounds.left c.x_sampling → ⊥) ⊎ (Multiple bounds.top c.y_sampling → ⊥)

-- two slots of the triplet hold the channel
abbrev pub Twice : Triplet → ℕ → Type 0
Twice t i = ((t.r ≡ i) × (t.g ≡ i)) ⊎ (((t.r ≡ i) × (t.b ≡ i)) ⊎ ((t.g ≡ i) × (t.b ≡ i)))

-- one of the triplets holds the channel twice
abbrev pub Doubled : List Triplet → ℕ → Type 0
Doubled ts i = (k : ℕ) × (k < length ts) × Twice (slice_index_or ts k no_triplet) i

-- what has to be true for each refusal
abbrev pub Stands : List ℕ → List ChannelDescription → List Rule → IntegerBounds → Refusal → Type 0
Stands text channels rules bounds TooMany = (64 < length channels) ⊎ (64 < length rules)
Stands text channels rules bounds ChunkTooLarge = (8192 < bounds.width) ⊎ (8192 < bounds.height)
Stands text channels rules bounds (OutsideText None) = ⊥
Stands text channels rules bounds (OutsideText (Some (OfChannel i))) = (i < length channels) × Outside text (slice_index_or channels i no_channel).name
Stands text channels rules bounds (OutsideText (Some (OfRule j))) = (j < length rules) × Outside text (slice_index_or rules j no_rule).suffix
Stands text channels rules bounds (StepTooLarge i) = (i < length channels) × LongStep (slice_index_or channels i no_channel)
Stands text channels rules bounds (NoSuchSlot j) = (j < length rules) × OddSlot (slice_index_or rules j no_rule)
Stands text channels rules bounds (OffStep i) = (i < length channels) × Astray bounds (slice_index_or channels i no_channel)
Stands text channels rules bounds (HeldTwice i) = (i < length channels) × Doubled (triplets_in text channels rules) i

-- channels come before rules, and each in the order of its list
abbrev pub Nearer : Option Concerned → Option Concerned → Type 0
Nearer None whom = ⊥
Nearer (Some (OfChannel i)) None = ⊥
Nearer (Some (OfChannel i)) (Some (OfChannel j)) = i < j
Nearer (Some (OfChannel i)) (Some (OfRule j)) = Unit {0}
Nearer (Some (OfRule i)) None = ⊥
Nearer (Some (OfRule i)) (Some (OfChannel j)) = ⊥
Nearer (Some (OfRule i)) (Some (OfRule j)) = i < j

-- a smaller number, or an equal one for a nearer channel or rule
abbrev pub Earlier : Refusal → Refusal → Type 0
Earlier e f = (number e < number f) ⊎ ((number e ≡ number f) × Nearer (concerned e) (concerned f))

-- The answer: accepted where nothing stands against the chunk, else the refusal that stands with no earlier one.
abbrev pub Judged : {A : Type 0} → List ℕ → List ChannelDescription → List Rule → IntegerBounds → Result A Refusal → Type 0
Judged text channels rules bounds (Ok a) = (f : Refusal) → Stands text channels rules bounds f → ⊥
Judged text channels rules bounds (Err f) =
    Stands text channels rules bounds f × ((e : Refusal) → Earlier e f → Stands text channels rules bounds e → ⊥)

-- the answer as far as refusals below 7 go, which need no triplets
abbrev pub JudgedRecords : {A : Type 0} → List ℕ → List ChannelDescription → List Rule → IntegerBounds → Result A Refusal → Type 0
JudgedRecords text channels rules bounds (Ok a) = (f : Refusal) → number f < 7 → Stands text channels rules bounds f → ⊥
JudgedRecords {A = A} text channels rules bounds (Err f) = Judged {A = A} text channels rules bounds (Err f)

-- what a roll then holds: all of it, or nothing after a refusal
abbrev pub unless_refused : {X : Type 0} → Result (Unit {0}) Refusal → List X → List X
unless_refused (Ok done) xs = xs
unless_refused (Err f) xs = []
