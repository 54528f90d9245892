-- The prefixes met midway through the channels, with the holders of their slots. Only inner contracts cite this.
use Rattle.std.specs.Prelude.{◌≡◌, ℕ, ◌<◌, Bool, true, false, cond, ◌&&◌, List, map, length, slice_index_or, take, IfSome, Some, None, Option, ◌==◌}
use Rattle.std.specs.Option.{option_to_list}
use Rattle.std.specs.List.{flat_map}
use Rattle.channel_rules.specs.declared.records.ChannelDescription.{ChannelDescription}
use Rattle.channel_rules.specs.declared.records.ChannelInfo.{ChannelInfo}
use Rattle.channel_rules.specs.declared.records.Rule.{Rule}
use Rattle.channel_rules.specs.declared.records.Triplet.{Triplet}
use Rattle.channel_rules.specs.declared.prefix_map.Slots.{Slots}
use Rattle.channel_rules.specs.declared.prefix_map.KnownPrefix.{KnownPrefix}
use Rattle.channel_rules.specs.Names.{prefix_in}
use Rattle.channel_rules.specs.Triplets.{no_channel, no_info, writes, holder, prefixes_in, is_lossy, same_steps, three}

-- slots that nothing holds
abbrev pub no_slots : Slots
no_slots = record { r = None; g = None; b = None }

-- a record of zeros, for a place that is past the end
abbrev pub no_known : KnownPrefix
no_known = record { first = 0; slots = no_slots }

-- the channel written into one slot
abbrev pub put_at : ℕ → ℕ → Slots → Slots
put_at slot index s = record {
  r = cond (slot == 0) (Some index) s.r;
  g = cond (slot == 1) (Some index) s.g;
  b = cond (slot == 2) (Some index) s.b;
}

-- the channel written into the slot of a rule that matches and has one
abbrev pub ruled : Bool → Option ℕ → ℕ → Slots → Slots
ruled false slot index s = s
ruled true None index s = s
ruled true (Some slot) index s = put_at slot index s

-- the channel written into those slots that are marked
abbrev pub stamp : Bool → Bool → Bool → ℕ → Slots → Slots
stamp x y z index s = record { r = cond x (Some index) s.r; g = cond y (Some index) s.g; b = cond z (Some index) s.b }

-- the channel written into the slots that a rule for it has
abbrev pub stamped : List ℕ → List Rule → ChannelDescription → ℕ → Slots → Slots
stamped text rules c index s = stamp (writes text rules 0 c) (writes text rules 1 c) (writes text rules 2 c) index s

-- the holders of a prefix's slots
abbrev pub slots_of : List ℕ → List ChannelDescription → List Rule → List ℕ → Slots
slots_of text channels rules p = record {
  r = holder text channels rules p 0;
  g = holder text channels rules p 1;
  b = holder text channels rules p 2;
}

-- the bytes of a known prefix: those of the channel that it came with
abbrev pub known_bytes : List ℕ → List ChannelDescription → KnownPrefix → List ℕ
known_bytes text channels k = prefix_in text (slice_index_or channels k.first no_channel)

-- each prefix of the channels with its slots
abbrev pub map_in : List ℕ → List ChannelDescription → List Rule → List (List ℕ × Slots)
map_in text channels rules = map (λ p. (p, slots_of text channels rules p)) (prefixes_in text channels)

-- the map once the first n channels are met
pub record Met (text : List ℕ) (channels : List ChannelDescription) (rules : List Rule) (n : ℕ) (ks : List KnownPrefix) : Type 0 where
  pub firsts : (k : ℕ) → k < length ks → (slice_index_or ks k no_known).first < length channels
  pub views : map (λ k. (known_bytes text channels k, k.slots)) ks ≡ map_in text (take n channels) rules

-- the holders are channels
abbrev pub Bounded : ℕ → Slots → Type 0
Bounded n s = IfSome s.r (λ i. i < n) × IfSome s.g (λ i. i < n) × IfSome s.b (λ i. i < n)

-- three lossy channels with equal steps, by what is kept of them
abbrev pub together_in : List ChannelDescription → List ChannelInfo → ℕ → ℕ → ℕ → Bool
together_in channels infos i j k =
    is_lossy (slice_index_or infos i no_info).scheme && is_lossy (slice_index_or infos j no_info).scheme && is_lossy (slice_index_or infos k no_info).scheme
    && same_steps (slice_index_or channels i no_channel) (slice_index_or channels j no_channel)
    && same_steps (slice_index_or channels i no_channel) (slice_index_or channels k no_channel)

-- the triplet of these slots, where one forms
abbrev pub formed_by : List ChannelDescription → List ChannelInfo → Slots → Option Triplet
formed_by channels infos s = three (together_in channels infos) s.r s.g s.b

-- the triplets of the known prefixes
abbrev pub formed_of : List ChannelDescription → List ChannelInfo → List KnownPrefix → List Triplet
formed_of channels infos ks = flat_map (λ k. option_to_list (formed_by channels infos k.slots)) ks
