-- The slots of a colour triplet, and their numbers.
use Rattle.std.specs.Prelude.{◌≡◌, ℕ, ◌<◌, Result, MatchResult}
use Rattle.channel_rules.specs.declared.slot.Slot.{Slot}
use Rattle.channel_rules.specs.declared.slot.Slot.TheVariants.{R, G, B}
use Rattle.channel_rules.specs.declared.slot.NotASlot.{NotASlot}

-- the number of each slot
abbrev pub slot_number : Slot → ℕ
slot_number R = 0
slot_number G = 1
slot_number B = 2

-- the slot that has the number, or an error with a number that no slot has
abbrev pub Decodes : ℕ → Result Slot NotASlot → Type 0
Decodes number r = MatchResult r (λ slot. slot_number slot ≡ number) (λ e. (e.0 ≡ number) × (2 < number))
