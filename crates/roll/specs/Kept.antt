-- What every roll keeps.
use Rattle.std.specs.Prelude.{◌≡◌, ℕ, zero, suc, ◌<◌, ◌≤◌, true, List, length, slice_index_or}
use Rattle.channel_rules.specs.declared.records.ChannelInfo.{ChannelInfo}
use Rattle.channel_rules.specs.declared.records.Triplet.{Triplet}
use Rattle.channel_rules.specs.Triplets.{no_info, no_triplet, is_lossy}

-- the channel that a triplet holds in slot 0, 1 or 2
abbrev pub held : Triplet → ℕ → ℕ
held t zero = t.r
held t (suc zero) = t.g
held t (suc (suc slot)) = t.b

-- no side exceeds 8,192
abbrev pub Sides : List ChannelInfo → Type 0
Sides es = (i : ℕ) → i < length es → ((slice_index_or es i no_info).width ≤ 8192) × ((slice_index_or es i no_info).height ≤ 8192)

-- a lossy channel of the size of the triplet's first
abbrev pub Alike : List ChannelInfo → Triplet → ℕ → Type 0
Alike es t i =
    (i < length es) × (is_lossy (slice_index_or es i no_info).scheme ≡ true)
    × ((slice_index_or es i no_info).width ≡ (slice_index_or es t.r no_info).width)
    × ((slice_index_or es i no_info).height ≡ (slice_index_or es t.r no_info).height)

-- a slot of a triplet of the list
pub record SlotIn (ts : List Triplet) : Type 0 where
  pub triplet : ℕ
  pub slot : ℕ
  pub listed : triplet < length ts
  pub small : slot < 3

-- the channel in it
abbrev pub in_slot : (ts : List Triplet) → SlotIn ts → ℕ
in_slot ts p = held (slice_index_or ts p.triplet no_triplet) p.slot

-- each triplet holds lossy channels of equal size
abbrev pub Members : List ChannelInfo → List Triplet → Type 0
Members es ts = (p : SlotIn ts) → Alike es (slice_index_or ts p.triplet no_triplet) (in_slot ts p)

-- two slots that hold one channel
pub record Shared (ts : List Triplet) : Type 0 where
  pub here : SlotIn ts
  pub there : SlotIn ts
  pub same : in_slot ts here ≡ in_slot ts there

-- no channel stands in two slots, of one triplet or of two
abbrev pub Apart : List Triplet → Type 0
Apart ts = (p : Shared ts) → (p.here.triplet ≡ p.there.triplet) × (p.here.slot ≡ p.there.slot)
