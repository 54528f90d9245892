-- When a rule matches a channel.
use Rattle.std.specs.Prelude.{ℕ, Bool, true, false, cond, ◌&&◌, List, map}
use Rattle.std.specs.Char.{to_ascii_lowercase}
use Rattle.std.specs.Str.{bytes_eq}
use Rattle.channel_rules.specs.declared.records.ChannelDescription.{ChannelDescription}
use Rattle.channel_rules.specs.declared.records.Rule.{Rule}
use Rattle.channel_rules.specs.declared.records.SampleType.{SampleType}
use Rattle.channel_rules.specs.declared.records.SampleType.TheVariants.{U32, F16, F32}
use Rattle.channel_rules.specs.Names.{bytes, suffix_in}

-- whether two sample types are one
abbrev pub same_type : SampleType → SampleType → Bool
same_type U32 U32 = true
same_type U32 F16 = false
same_type U32 F32 = false
same_type F16 U32 = false
same_type F16 F16 = true
same_type F16 F32 = false
same_type F32 U32 = false
same_type F32 F16 = false
same_type F32 F32 = true

-- equal bytes, or bytes that are equal once ASCII capitals are made small
abbrev pub same_name : Bool → List ℕ → List ℕ → Bool
same_name ignore a b = cond ignore (bytes_eq (map to_ascii_lowercase a) (map to_ascii_lowercase b)) (bytes_eq a b)

-- a rule matches equal sample type and equal suffix
abbrev pub matched : List ℕ → List ℕ → SampleType → Rule → Bool
matched text suffix type r =
    same_type r.sample_type type && same_name r.case_insensitive suffix (bytes text r.suffix)

-- the rule is one for the channel
abbrev pub is_for : List ℕ → ChannelDescription → Rule → Bool
is_for text c r = matched text (suffix_in text c) c.sample_type r
