-- What the definitions that compute say, in the subject's words.
use Rattle.std.specs.Prelude.{◌≡◌, ℕ, ◌<◌, ◌≤◌, true, cond, List, [], map, length, slice_index_or, Some, Decides, Option, ◌≢◌}
use Rattle.std.specs.Char.{to_ascii_lowercase}
use Rattle.std.specs.Str.{bytes_eq}
use Rattle.channel_rules.specs.declared.records.ChannelDescription.{ChannelDescription}
use Rattle.channel_rules.specs.declared.records.Rule.{Rule}
use Rattle.channel_rules.specs.declared.records.SampleType.{SampleType}
use Rattle.channel_rules.specs.Names.{bytes, Splits, cut, prefix_in}
use Rattle.channel_rules.specs.Rules.{matched, is_for}
use Rattle.channel_rules.specs.Picks.{LastAt, distinct}
use Rattle.channel_rules.specs.Triplets.{no_channel, no_rule, scheme_at, scheme_in, holder}
use Rattle.channel_rules.specs.Sides.{side, LeastCover}

-- equal sample type, and equal suffix with ASCII case ignored where the rule says so
abbrev pub Equal : List ℕ → List ℕ → SampleType → Rule → Type 0
Equal text suffix type r =
    (r.sample_type ≡ type) × cond r.case_insensitive (map to_ascii_lowercase suffix ≡ map to_ascii_lowercase (bytes text r.suffix)) (suffix ≡ bytes text r.suffix)

-- the channel has the prefix, and a rule for it has the slot
abbrev pub Fills : List ℕ → List Rule → List ℕ → ℕ → ChannelDescription → Type 0
Fills text rules prefix slot c =
    (prefix_in text c ≡ prefix)
    × ((j : ℕ) × (j < length rules) × (is_for text c (slice_index_or rules j no_rule) ≡ true) × ((slice_index_or rules j no_rule).csc_index ≡ Some slot))

-- y stands in the list at a place up to which z does not
abbrev pub Before : List (List ℕ) → List ℕ → List ℕ → Type 0
Before names y z = (i : ℕ) × (i < length names) × (slice_index_or names i [] ≡ y) × ((j : ℕ) → j ≤ i → slice_index_or names j [] ≢ z)

-- ps has just the elements of the list, each once, in the order of their first appearance
pub record FirstAppearances (names ps : List (List ℕ)) : Type 0 where
  pub whole : (i : ℕ) → i < length names → (k : ℕ) × (k < length ps) × (slice_index_or ps k [] ≡ slice_index_or names i [])
  pub only : (k : ℕ) → k < length ps → (i : ℕ) × (i < length names) × (slice_index_or names i [] ≡ slice_index_or ps k [])
  pub ordered : (j k : ℕ) → j < k → k < length ps → Before names (slice_index_or ps j []) (slice_index_or ps k [])

-- the laws
pub record Laws : Type 0 where
  -- a name's prefix and suffix split it at its last dot
  pub splits : (name : List ℕ) → Splits name (cut name)
  -- a rule matches just where sample type and suffix are equal
  pub matches : (text suffix : List ℕ) (type : SampleType) (r : Rule) → Decides (matched text suffix type r) (Equal text suffix type r)
  -- the scheme is that of a rule after which none matches
  pub schemes : (text : List ℕ) (rules : List Rule) (c : ChannelDescription)
      → (o : Option ℕ) × LastAt (length rules) (λ j. is_for text c (slice_index_or rules j no_rule) ≡ true) o × (scheme_in text rules c ≡ scheme_at rules o)
  -- a slot's holder is a channel that fills it, and after which none does
  pub holders : (text : List ℕ) (channels : List ChannelDescription) (rules : List Rule) (prefix : List ℕ) (slot : ℕ)
      → LastAt (length channels) (λ i. Fills text rules prefix slot (slice_index_or channels i no_channel)) (holder text channels rules prefix slot)
  -- prefixes are taken in the order of their first appearance
  pub order : (names : List (List ℕ)) → FirstAppearances names (distinct bytes_eq names)
  -- a side is the least number of steps that cover the chunk's
  pub sides : (n step : ℕ) → LeastCover n step (side n step)
