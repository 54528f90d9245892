-- The lines of a file, and what those before the streams say behind their first word.
use Rattle.std.specs.Prelude.{◌≡◌, ℕ, Bool, true, false, cond, List, length, ℤ, Some, None, Ok, Err, codes, count_by, Option, Result, ◌==◌, nat_eq}
use Rattle.std.specs.Str.{bytes_eq}
use Rattle.channel_rules.specs.declared.records.Part.{Part}
use Rattle.channel_rules.specs.declared.records.IntegerBounds.{IntegerBounds}
use Rattle.channel_rules.specs.declared.records.ChannelDescription.{ChannelDescription}
use Rattle.channel_rules.specs.declared.records.CompressorScheme.{CompressorScheme}
use Rattle.channel_rules.specs.declared.records.SampleType.{SampleType}
use Rattle.channel_rules.specs.declared.records.Rule.{Rule}
use Rattle.plate_file.specs.declared.problem.Problem.{Problem}
use Rattle.plate_file.specs.declared.problem.Problem.TheVariants.{ExtraField, UnknownSampleType, UnknownScheme}
use Rattle.plate_file.specs.Reading.{field_in, after_field}
use Rattle.plate_file.specs.Decimal.{Unsigned, Signed, unsigned_in, signed_in}
use Rattle.plate_file.specs.Words.{TypeWord, SchemeWord, meant, types, schemes}
use Rattle.plate_file.specs.Steps.{and_then, present, found, numbered, ended}

-- how many lines end in these bytes
abbrev pub line_ends : List ℕ → ℕ
line_ends bs = count_by (λ byte. nat_eq byte 10) bs

-- the next four fields are left, top, width and height
pub record RectangleIn (bs : List ℕ) (bounds : IntegerBounds) : Type 0 where
  pub left : Signed (field_in bs) (Ok bounds.left)
  pub top : Signed (field_in (after_field bs)) (Ok bounds.top)
  pub width : Unsigned (field_in (after_field (after_field bs))) (Ok bounds.width)
  pub height : Unsigned (field_in (after_field (after_field (after_field bs)))) (Ok bounds.height)

-- a slot is a number, or `-` for none
abbrev pub SlotIn : List ℕ → Option ℕ → Type 0
SlotIn bs None = bs ≡ codes "-"
SlotIn bs (Some slot) = Unsigned bs (Ok slot)

-- an optional last field is the word, or is not there
abbrev pub FlagIn : List ℕ → List ℕ → Bool → Type 0
FlagIn bs word true = bs ≡ word
FlagIn bs word false = length bs ≡ 0

-- the fields behind a channel's name
pub record ChannelIn (bs : List ℕ) (channel : ChannelDescription) : Type 0 where
  pub type : TypeWord (field_in bs) (Some channel.sample_type)
  pub x : Unsigned (field_in (after_field bs)) (Ok channel.x_sampling)
  pub y : Unsigned (field_in (after_field (after_field bs))) (Ok channel.y_sampling)
  pub linear : FlagIn (field_in (after_field (after_field (after_field bs)))) (codes "linear") channel.quantize_linearly

-- the fields behind a rule's suffix
pub record RuleIn (bs : List ℕ) (rule : Rule) : Type 0 where
  pub scheme : SchemeWord (field_in bs) (Some rule.scheme)
  pub type : TypeWord (field_in (after_field bs)) (Some rule.sample_type)
  pub slot : SlotIn (field_in (after_field (after_field bs))) rule.csc_index
  pub case : FlagIn (field_in (after_field (after_field (after_field bs)))) (codes "ignore-case") rule.case_insensitive

-- the next field is a number
abbrev pub number_next : List ℕ → Result ℕ Problem
number_next bs = present (λ field. numbered (unsigned_in field)) (field_in bs)

-- it is a number with a sign
abbrev pub signed_next : List ℕ → Result ℤ Problem
signed_next bs = present (λ field. numbered (signed_in field)) (field_in bs)

-- it is a word for a sample type
abbrev pub type_next : List ℕ → Result SampleType Problem
type_next bs = present (λ field. found UnknownSampleType (meant types field)) (field_in bs)

-- it is a word for a scheme
abbrev pub scheme_next : List ℕ → Result CompressorScheme Problem
scheme_next bs = present (λ field. found UnknownScheme (meant schemes field)) (field_in bs)

-- a slot is a number, or `-` for none
abbrev pub slot_in : List ℕ → Result (Option ℕ) Problem
slot_in field = cond (bytes_eq field (codes "-")) (Ok None) (and_then (numbered (unsigned_in field)) (λ slot. Ok (Some slot)))

-- the next field is a slot
abbrev pub slot_next : List ℕ → Result (Option ℕ) Problem
slot_next bs = present slot_in (field_in bs)

-- the line ends here, or with the word
abbrev pub flag_next : List ℕ → List ℕ → Result Bool Problem
flag_next word bs =
    cond (length (field_in bs) == 0) (Ok false)
    (cond (bytes_eq (field_in bs) word) (and_then (ended ExtraField (field_in (after_field bs))) (λ _. Ok true)) (Err ExtraField))

-- left, top, width and height
abbrev pub rectangle_in : List ℕ → Result IntegerBounds Problem
rectangle_in bs =
    let top_on = after_field bs in
    let width_on = after_field top_on in
    let height_on = after_field width_on in
    and_then (signed_next bs) (λ left.
    and_then (signed_next top_on) (λ top.
    and_then (number_next width_on) (λ width.
    and_then (number_next height_on) (λ height.
    and_then (ended ExtraField (field_in (after_field height_on))) (λ _.
    Ok (record { left = left; top = top; width = width; height = height }))))))

-- the fields behind a channel's name: type, steps, and `linear`
abbrev pub channel_in : Part → List ℕ → Result ChannelDescription Problem
channel_in name bs =
    let x_on = after_field bs in
    let y_on = after_field x_on in
    and_then (type_next bs) (λ type.
    and_then (number_next x_on) (λ x.
    and_then (number_next y_on) (λ y.
    and_then (flag_next (codes "linear") (after_field y_on)) (λ linear.
    Ok (record { name = name; sample_type = type; x_sampling = x; y_sampling = y; quantize_linearly = linear })))))

-- the fields behind a rule's suffix: scheme, type, slot, and `ignore-case`
abbrev pub rule_in : Part → List ℕ → Result Rule Problem
rule_in suffix bs =
    let type_on = after_field bs in
    let slot_on = after_field type_on in
    and_then (scheme_next bs) (λ scheme.
    and_then (type_next type_on) (λ type.
    and_then (slot_next slot_on) (λ slot.
    and_then (flag_next (codes "ignore-case") (after_field slot_on)) (λ ignore.
    Ok (record { suffix = suffix; scheme = scheme; sample_type = type; csc_index = slot; case_insensitive = ignore })))))
