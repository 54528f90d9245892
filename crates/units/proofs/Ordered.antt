-- Which channels a unit holds.
use Rattle.std.proofs.Common.{◌≡◌, ℕ, ◌<◌, List, length, get_or, sym, subst, arith}
use Rattle.channel_rules.specs.declared.records.ChannelInfo.{ChannelInfo}
use Rattle.channel_rules.specs.declared.records.Triplet.{Triplet}
use Rattle.channel_rules.specs.Triplets.{no_triplet}
use Rattle.roll.specs.Kept.{Members}

-- a triplet's first channel is one of the roll's
pub first_within : (es : List ChannelInfo) (ts : List Triplet) → Members es ts → (k : ℕ) (t : Triplet) → k < length ts → t ≡ get_or ts k no_triplet → t.r < length es
first_within es ts m k t h e = subst (λ (x : Triplet). x.r < length es) (sym e) (m (record { triplet = k; slot = 0; listed = h; small = omega arith })).0
