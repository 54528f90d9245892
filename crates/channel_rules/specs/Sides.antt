-- The size of a channel's plane, and what a roll keeps of a channel.
use Rattle.std.specs.Prelude.{ℕ, ◌+◌, ◌*◌, ◌/◌, ◌%◌, ◌≤◌, min, max, List}
use Rattle.channel_rules.specs.declared.records.ChannelDescription.{ChannelDescription}
use Rattle.channel_rules.specs.declared.records.ChannelInfo.{ChannelInfo}
use Rattle.channel_rules.specs.declared.records.IntegerBounds.{IntegerBounds}
use Rattle.channel_rules.specs.declared.records.Rule.{Rule}
use Rattle.channel_rules.specs.Triplets.{scheme_in}

-- a step as it works: 0 is taken as 1
abbrev pub effective : ℕ → ℕ
effective step = max step 1

-- the chunk's side divided by the step, rounded up
abbrev pub side : ℕ → ℕ → ℕ
side n step = n / effective step + min 1 (n % effective step)

-- that is the least number of steps that cover the chunk's side
pub record LeastCover (n step r : ℕ) : Type 0 where
  pub covers : n ≤ r * effective step
  pub least : (m : ℕ) → n ≤ m * effective step → r ≤ m

-- what is kept of a channel
abbrev pub info_in : List ℕ → List Rule → IntegerBounds → ChannelDescription → ChannelInfo
info_in text rules bounds c = record {
  scheme = scheme_in text rules c;
  width = side bounds.width c.x_sampling;
  height = side bounds.height c.y_sampling;
  sample_type = c.sample_type;
  quantize_linearly = c.quantize_linearly;
}
