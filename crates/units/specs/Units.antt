-- The units of a roll, and where the planes of its lossy channels lie.
use Rattle.std.specs.Prelude.{◌≡◌, ℕ, ◌+◌, ◌*◌, ◌<◌, ◌≤◌, Bool, true, cond, not, ◌&&◌, ◌||◌, List, ◌++◌, map, length, slice_index_or, take, Some, None, sum_by, filter, Option, ◌==◌, codes}
use Rattle.std.specs.Fmt.{decimal}
use Rattle.std.specs.List.{list_any, range_with_len}
use Rattle.channel_rules.specs.declared.records.ChannelInfo.{ChannelInfo}
use Rattle.channel_rules.specs.declared.records.Triplet.{Triplet}
use Rattle.units.specs.declared.unit.Unit.{Unit}
use Rattle.units.specs.declared.unit.UnitChannels.{UnitChannels}
use Rattle.units.specs.declared.unit.UnitChannels.TheVariants.{Triplet as OfTriplet, Lone}
use Rattle.channel_rules.specs.Triplets.{is_lossy, no_info}
use Rattle.channel_rules.specs.Shown.{triplet_text}

-- one of the triplet's slots holds the channel
abbrev pub holds : ℕ → Triplet → Bool
holds i t = t.r == i || t.g == i || t.b == i

-- a lossy channel that no triplet holds
abbrev pub is_lone : List ChannelInfo → List Triplet → ℕ → Bool
is_lone es ts i = is_lossy (slice_index_or es i no_info).scheme && not (list_any (holds i) ts)

-- those channels, in channel order
abbrev pub lones_in : List ChannelInfo → List Triplet → List ℕ
lones_in es ts = filter (is_lone es ts) (range_with_len 0 (length es))

-- the units: the triplets, then the lone channels
abbrev pub units_in : List ChannelInfo → List Triplet → List UnitChannels
units_in es ts = map OfTriplet ts ++ map Lone (lones_in es ts)

-- for a place that is past the end
abbrev pub no_unit : UnitChannels
no_unit = Lone 0

-- the channel whose size is the unit's
abbrev pub leading : UnitChannels → ℕ
leading (OfTriplet t) = t.r
leading (Lone i) = i

-- its channels in words: the triplet's in slot order, or the lone one
abbrev pub shown : UnitChannels → List ℕ
shown (OfTriplet t) = codes "triplet " ++ triplet_text t
shown (Lone i) = codes "lone " ++ decimal i

-- how many samples the plane of a channel has: none where it is not lossy
abbrev pub plane_area : ChannelInfo → ℕ
plane_area e = cond (is_lossy e.scheme) (e.width * e.height) 0

-- planes lie end to end in channel order: each begins after all before it
abbrev pub plane_start : List ChannelInfo → ℕ → ℕ
plane_start es i = sum_by plane_area (take i es)

-- the samples of all planes
abbrev pub total_samples : List ChannelInfo → ℕ
total_samples es = sum_by plane_area es

-- a lossy channel of the roll
abbrev pub LossyIn : List ChannelInfo → ℕ → Type 0
LossyIn es i = (i < length es) × (is_lossy (slice_index_or es i no_info).scheme ≡ true)

-- the unit that stands at a place of the order, with its size; None past the last
abbrev pub UnitAt : List ChannelInfo → List Triplet → ℕ → Option Unit → Type 0
UnitAt es ts k None = length (units_in es ts) ≤ k
UnitAt es ts k (Some u) =
    (k < length (units_in es ts)) × (u.channels ≡ slice_index_or (units_in es ts) k no_unit)
    × (u.width ≡ (slice_index_or es (leading u.channels) no_info).width) × (u.height ≡ (slice_index_or es (leading u.channels) no_info).height)

-- where a plane begins: it ends within the total, and before each later plane begins
abbrev pub PlaneAt : List ChannelInfo → ℕ → Option ℕ → Type 0
PlaneAt es i None = LossyIn es i → ⊥
PlaneAt es i (Some start) =
    LossyIn es i × (start ≡ plane_start es i) × (start + plane_area (slice_index_or es i no_info) ≤ total_samples es)
    × ((j : ℕ) → i < j → start + plane_area (slice_index_or es i no_info) ≤ plane_start es j)
