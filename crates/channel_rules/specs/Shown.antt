-- The words that plate files and answers use.
use Rattle.std.specs.Prelude.{ℕ, List, ◌++◌, codes}
use Rattle.std.specs.Fmt.{decimal}
use Rattle.channel_rules.specs.declared.records.SampleType.{SampleType}
use Rattle.channel_rules.specs.declared.records.SampleType.TheVariants.{U32, F16, F32}
use Rattle.channel_rules.specs.declared.records.CompressorScheme.{CompressorScheme}
use Rattle.channel_rules.specs.declared.records.CompressorScheme.TheVariants.{Unknown, LossyDct, Rle}
use Rattle.channel_rules.specs.declared.records.Triplet.{Triplet}

-- the word for a sample type
abbrev pub type_word : SampleType → List ℕ
type_word U32 = codes "u32"
type_word F16 = codes "f16"
type_word F32 = codes "f32"

-- the word for a scheme
abbrev pub scheme_word : CompressorScheme → List ℕ
scheme_word Unknown = codes "unknown"
scheme_word LossyDct = codes "lossy"
scheme_word Rle = codes "rle"

-- the channels of a triplet, in slot order
abbrev pub triplet_text : Triplet → List ℕ
triplet_text t = decimal t.r ++ codes " " ++ decimal t.g ++ codes " " ++ decimal t.b
