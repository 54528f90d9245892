-- Which scheme a channel has, which channels hold the slots of a prefix, and which triplets form.
use Rattle.std.specs.Prelude.{ℕ, ◌<◌, Bool, true, false, cond, ◌&&◌, List, map, length, slice_index_or, Some, None, Option, ◌==◌}
use Rattle.std.specs.Option.{option_to_list}
use Rattle.std.specs.Str.{bytes_eq}
use Rattle.std.specs.List.{flat_map, list_any}
use Rattle.channel_rules.specs.declared.records.ChannelDescription.{ChannelDescription}
use Rattle.channel_rules.specs.declared.records.ChannelInfo.{ChannelInfo}
use Rattle.channel_rules.specs.declared.records.Rule.{Rule}
use Rattle.channel_rules.specs.declared.records.Triplet.{Triplet}
use Rattle.channel_rules.specs.declared.records.CompressorScheme.{CompressorScheme}
use Rattle.channel_rules.specs.declared.records.CompressorScheme.TheVariants.{Unknown, LossyDct, Rle}
use Rattle.channel_rules.specs.declared.records.SampleType.TheVariants.{U32}
use Rattle.channel_rules.specs.Names.{Inside, prefix_in}
use Rattle.channel_rules.specs.Rules.{is_for}
use Rattle.channel_rules.specs.Picks.{last_place, distinct}

-- a rule of zeros, for a place that is past the end
abbrev pub no_rule : Rule
no_rule = record { suffix = record { start = 0; len = 0 }; scheme = Unknown; sample_type = U32; csc_index = None; case_insensitive = false }

-- the same of a channel
abbrev pub no_channel : ChannelDescription
no_channel = record { name = record { start = 0; len = 0 }; sample_type = U32; x_sampling = 0; y_sampling = 0; quantize_linearly = false }

-- of what is kept of a channel
abbrev pub no_info : ChannelInfo
no_info = record { scheme = Unknown; width = 0; height = 0; sample_type = U32; quantize_linearly = false }

-- of a triplet
abbrev pub no_triplet : Triplet
no_triplet = record { r = 0; g = 0; b = 0 }

-- each name lies in the text
abbrev pub Named : List ℕ → List ChannelDescription → Type 0
Named text channels = (i : ℕ) → i < length channels → Inside text (slice_index_or channels i no_channel).name

-- each suffix lies in the text
abbrev pub Suffixed : List ℕ → List Rule → Type 0
Suffixed text rules = (j : ℕ) → j < length rules → Inside text (slice_index_or rules j no_rule).suffix

-- the scheme of the rule at a place; Unknown where there is none
abbrev pub scheme_at : List Rule → Option ℕ → CompressorScheme
scheme_at rules None = Unknown
scheme_at rules (Some j) = (slice_index_or rules j no_rule).scheme

-- the scheme of the last rule for the channel
abbrev pub scheme_in : List ℕ → List Rule → ChannelDescription → CompressorScheme
scheme_in text rules c = scheme_at rules (last_place (is_for text c) rules)

-- whether the scheme is the lossy one
abbrev pub is_lossy : CompressorScheme → Bool
is_lossy Unknown = false
is_lossy LossyDct = true
is_lossy Rle = false

-- whether a rule's slot is this one
abbrev pub is_slot : ℕ → Option ℕ → Bool
is_slot slot None = false
is_slot slot (Some own) = own == slot

-- some rule for the channel has the slot
abbrev pub writes : List ℕ → List Rule → ℕ → ChannelDescription → Bool
writes text rules slot c = list_any (λ r. is_for text c r && is_slot slot r.csc_index) rules

-- the channel has the prefix, and is written into the slot
abbrev pub filled_by : List ℕ → List Rule → List ℕ → ℕ → ChannelDescription → Bool
filled_by text rules prefix slot c = bytes_eq (prefix_in text c) prefix && writes text rules slot c

-- the last channel of the prefix that is written into the slot
abbrev pub holder : List ℕ → List ChannelDescription → List Rule → List ℕ → ℕ → Option ℕ
holder text channels rules prefix slot = last_place (filled_by text rules prefix slot) channels

-- whether the channel at a place is lossy
abbrev pub lossy_at : List ℕ → List ChannelDescription → List Rule → ℕ → Bool
lossy_at text channels rules i = is_lossy (scheme_in text rules (slice_index_or channels i no_channel))

-- equal sampling steps, as written
abbrev pub same_steps : ChannelDescription → ChannelDescription → Bool
same_steps c e = c.x_sampling == e.x_sampling && c.y_sampling == e.y_sampling

-- three lossy channels with equal steps
abbrev pub go_together : List ℕ → List ChannelDescription → List Rule → ℕ → ℕ → ℕ → Bool
go_together text channels rules i j k =
    lossy_at text channels rules i && lossy_at text channels rules j && lossy_at text channels rules k
    && same_steps (slice_index_or channels i no_channel) (slice_index_or channels j no_channel)
    && same_steps (slice_index_or channels i no_channel) (slice_index_or channels k no_channel)

-- a triplet of three holders, where all are there and pass the test
abbrev pub three : (ℕ → ℕ → ℕ → Bool) → Option ℕ → Option ℕ → Option ℕ → Option Triplet
three test None second third = None
three test (Some i) None third = None
three test (Some i) (Some j) None = None
three test (Some i) (Some j) (Some k) = cond (test i j k) (Some (record { r = i; g = j; b = k })) None

-- the triplet of a prefix, where its slots are held so that one forms
abbrev pub triplet_of : List ℕ → List ChannelDescription → List Rule → List ℕ → Option Triplet
triplet_of text channels rules prefix =
    three (go_together text channels rules)
    (holder text channels rules prefix 0) (holder text channels rules prefix 1) (holder text channels rules prefix 2)

-- the prefixes, in the order of their first appearance
abbrev pub prefixes_in : List ℕ → List ChannelDescription → List (List ℕ)
prefixes_in text channels = distinct bytes_eq (map (prefix_in text) channels)

-- the triplets that form, in the order of their prefixes
abbrev pub triplets_in : List ℕ → List ChannelDescription → List Rule → List Triplet
triplets_in text channels rules = flat_map (λ p. option_to_list (triplet_of text channels rules p)) (prefixes_in text channels)
