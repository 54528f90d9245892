-- Two cards from the bench.
use Rattle.std.specs.Prelude.{◌≡◌, ℕ, false, List, [], ◌∷◌, map, pos, Some, codes}
use Rattle.channel_rules.specs.declared.records.ChannelDescription.{ChannelDescription}
use Rattle.channel_rules.specs.declared.records.CompressorScheme.TheVariants.{LossyDct}
use Rattle.channel_rules.specs.declared.records.IntegerBounds.{IntegerBounds}
use Rattle.channel_rules.specs.declared.records.Rule.{Rule}
use Rattle.channel_rules.specs.declared.records.SampleType.TheVariants.{F16}
use Rattle.channel_rules.specs.Triplets.{triplets_in}
use Rattle.channel_rules.specs.Sides.{info_in}

-- all names and suffixes
abbrev pub text : List ℕ
text = codes "BGR"

-- the channel that is named by the byte at a place of the text
abbrev pub channel : ℕ → ℕ → ChannelDescription
channel at step = record { name = record { start = at; len = 1 }; sample_type = F16; x_sampling = step; y_sampling = 1; quantize_linearly = false }

-- a rule for that name and a slot
abbrev pub rule : ℕ → ℕ → Rule
rule at slot = record { suffix = record { start = at; len = 1 }; scheme = LossyDct; sample_type = F16; csc_index = Some slot; case_insensitive = false }

-- R, G and B for slots 0, 1 and 2
abbrev pub rules : List Rule
rules = rule 2 0 ∷ rule 1 1 ∷ rule 0 2 ∷ []

-- B, G and R with equal x steps
abbrev pub equal_steps : List ChannelDescription
equal_steps = channel 0 1 ∷ channel 1 1 ∷ channel 2 1 ∷ []

-- the same names with x steps 0, 1, 1
abbrev pub unequal_steps : List ChannelDescription
unequal_steps = channel 0 0 ∷ channel 1 1 ∷ channel 2 1 ∷ []

-- a chunk of 9 by 3 pixels
abbrev pub chunk : IntegerBounds
chunk = record { left = pos 0; top = pos 0; width = 9; height = 3 }

-- the cards
pub record Cards : Type 0 where
  -- channels B, G, R form the triplet [2, 1, 0]
  pub forms : triplets_in text equal_steps rules ≡ record { r = 2; g = 1; b = 0 } ∷ []
  -- x steps 0, 1, 1 give equal sizes and no triplet
  pub widths : map (λ c. (info_in text rules chunk c).width) unequal_steps ≡ 9 ∷ 9 ∷ 9 ∷ []
  pub heights : map (λ c. (info_in text rules chunk c).height) unequal_steps ≡ 3 ∷ 3 ∷ 3 ∷ []
  pub apart : triplets_in text unequal_steps rules ≡ []
