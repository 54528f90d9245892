-- Which word stands for what. No other word stands for anything.
use Rattle.std.specs.Prelude.{◌≡◌, ℕ, cond, List, [], ◌∷◌, map, Some, None, codes, Option, ◌≢◌}
use Rattle.std.specs.Borrow.{Bor}
use Rattle.std.specs.Str.{bytes_eq}
use Rattle.channel_rules.specs.declared.records.SampleType.{SampleType}
use Rattle.channel_rules.specs.declared.records.SampleType.TheVariants.{U32, F16, F32}
use Rattle.channel_rules.specs.declared.records.CompressorScheme.{CompressorScheme}
use Rattle.channel_rules.specs.declared.records.CompressorScheme.TheVariants.{Unknown, LossyDct, Rle}
use Rattle.plate_file.specs.declared.keywords.Keyword.{Keyword}
use Rattle.plate_file.specs.declared.keywords.Keyword.TheVariants.{Rectangle, Channel, Rule, Dc, Ac}

-- the word that a line begins with
abbrev pub LineWord : List ℕ → Option Keyword → Type 0
LineWord bs (Some Rectangle) = bs ≡ codes "rectangle"
LineWord bs (Some Channel) = bs ≡ codes "channel"
LineWord bs (Some Rule) = bs ≡ codes "rule"
LineWord bs (Some Dc) = bs ≡ codes "dc"
LineWord bs (Some Ac) = bs ≡ codes "ac"
LineWord bs None =
    (bs ≢ codes "rectangle") × (bs ≢ codes "channel") × (bs ≢ codes "rule") × (bs ≢ codes "dc") × (bs ≢ codes "ac")

-- the word for a sample type
abbrev pub TypeWord : List ℕ → Option SampleType → Type 0
TypeWord bs (Some U32) = bs ≡ codes "u32"
TypeWord bs (Some F16) = bs ≡ codes "f16"
TypeWord bs (Some F32) = bs ≡ codes "f32"
TypeWord bs None = (bs ≢ codes "u32") × (bs ≢ codes "f16") × (bs ≢ codes "f32")

-- the word for a scheme
abbrev pub SchemeWord : List ℕ → Option CompressorScheme → Type 0
SchemeWord bs (Some Unknown) = bs ≡ codes "unknown"
SchemeWord bs (Some LossyDct) = bs ≡ codes "lossy"
SchemeWord bs (Some Rle) = bs ≡ codes "rle"
SchemeWord bs None = (bs ≢ codes "unknown") × (bs ≢ codes "lossy") × (bs ≢ codes "rle")

-- a word, and what it stands for
pub record Entry (A : Type 0) : Type 0 where
  pub word : List ℕ
  pub means : A

-- the words of a table of the program
abbrev pub entries : {A : Type 0} → List (Bor (List ℕ) × A) → List (Entry A)
entries table = map (λ e. record { word = e.0.now; means = e.1 }) table

-- what a word stands for by a table
abbrev pub meant : {A : Type 0} → List (Entry A) → List ℕ → Option A
meant [] bs = None
meant (entry ∷ table) bs = cond (bytes_eq bs entry.word) (Some entry.means) (meant table bs)

-- the words that lines begin with
abbrev pub keywords : List (Entry Keyword)
keywords =
    record { word = codes "rectangle"; means = Rectangle }
    ∷ record { word = codes "channel"; means = Channel }
    ∷ record { word = codes "rule"; means = Rule }
    ∷ record { word = codes "dc"; means = Dc }
    ∷ record { word = codes "ac"; means = Ac }
    ∷ []

-- the words for sample types
abbrev pub types : List (Entry SampleType)
types =
    record { word = codes "u32"; means = U32 }
    ∷ record { word = codes "f16"; means = F16 }
    ∷ record { word = codes "f32"; means = F32 }
    ∷ []

-- the words for schemes
abbrev pub schemes : List (Entry CompressorScheme)
schemes =
    record { word = codes "unknown"; means = Unknown }
    ∷ record { word = codes "lossy"; means = LossyDct }
    ∷ record { word = codes "rle"; means = Rle }
    ∷ []
