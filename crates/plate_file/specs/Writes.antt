-- Which file writes which plate: the form of a file as a whole.
use Rattle.std.specs.Prelude.{◌≡◌, ℕ, false, cond, ◌⊎◌, List, [], ◌∷◌, ◌++◌, map, length, Some, None, Ok, Err, MatchBool, Option, Result}
use Rattle.std.specs.List.{flat_map}
use Rattle.plate_file.specs.declared.keywords.Keyword.{Keyword}
use Rattle.plate_file.specs.declared.keywords.Keyword.TheVariants.{Rectangle, Channel, Rule, Dc, Ac}
use Rattle.plate_file.specs.declared.plate.Plate.{Plate}
use Rattle.plate_file.specs.declared.problem.Malformed.{Malformed}
use Rattle.plate_file.specs.declared.problem.Problem.TheVariants.{OutOfMemory}
use Rattle.plate_file.specs.Reading.{field_in, after_field}
use Rattle.plate_file.specs.Fields.{lines_of, fields_of}
use Rattle.plate_file.specs.Hex.{hex_word}
use Rattle.plate_file.specs.Words.{meant, keywords}
use Rattle.plate_file.specs.Headings.{Heading, no_heading, with_rectangle, with_channel, with_rule}
use Rattle.plate_file.specs.Streams.{count_in}
use Rattle.plate_file.specs.File.{Contents, contents, first_in, is_idle}

-- what a line with this first word makes of what was said before
abbrev pub AddsBy : Heading → Option Keyword → List ℕ → Heading → Type 0
AddsBy h (Some Rectangle) bs next = with_rectangle h bs ≡ Ok next
AddsBy h (Some Channel) bs next = with_channel h bs ≡ Ok next
AddsBy h (Some Rule) bs next = with_rule h bs ≡ Ok next
AddsBy h (Some Dc) bs next = ⊥
AddsBy h (Some Ac) bs next = ⊥
AddsBy h None bs next = ⊥

-- what a line before the streams makes of it; an idle line changes nothing
abbrev pub Adds : Heading → List ℕ → Heading → Type 0
Adds h line next = MatchBool (is_idle line) (h ≡ next) (AddsBy h (meant keywords (field_in line)) (after_field line) next)

-- what lines before the streams make of it, one after another
abbrev pub AllAdd : Heading → List (List ℕ) → Heading → Type 0
AllAdd h [] next = h ≡ next
AllAdd h (line ∷ lines) next = (between : Heading) × Adds h line between × AllAdd between lines next

-- the fields of a line, of which an idle one has none
abbrev pub fields_said : List ℕ → List (List ℕ)
fields_said line = cond (is_idle line) [] (fields_of line)

-- a line with the stream's keyword and the count of its words, and lines with just these words
pub record StreamWritten (keyword : Keyword) (line : List ℕ) (lines : List (List ℕ)) (words : List ℕ) : Type 0 where
  pub says : is_idle line ≡ false
  pub begins : meant keywords (field_in line) ≡ Some keyword
  pub count : count_in (after_field line) ≡ Ok (length words)
  pub each : map hex_word (flat_map fields_said lines) ≡ map Some words

-- what a plate says before its streams
abbrev pub heading_of : Contents → Heading
heading_of c = record { text = c.text; channels = c.channels; rules = c.rules; rectangle = Some c.rectangle }

-- the first line, the lines before the streams, the dc stream and the ac stream
pub record Writes (file : List ℕ) (said : Contents) : Type 0 where
  pub first : List ℕ
  pub head : List (List ℕ)
  pub dc_line : List ℕ
  pub dc_lines : List (List ℕ)
  pub ac_line : List ℕ
  pub ac_lines : List (List ℕ)
  pub cut : lines_of file ≡ first ∷ (head ++ dc_line ∷ (dc_lines ++ ac_line ∷ ac_lines))
  pub opens : first_in first ≡ Ok tt
  pub heads : AllAdd no_heading head (heading_of said)
  pub dc : StreamWritten Dc dc_line dc_lines said.dc
  pub ac : StreamWritten Ac ac_line ac_lines said.ac

-- a plate that is answered is the one that the file writes; where there is a fault it writes none
abbrev pub Faithful : List ℕ → Result Plate Malformed → Type 0
Faithful file (Ok plate) = Writes file (contents plate) × ((said : Contents) → Writes file said → said ≡ contents plate)
Faithful file (Err fault) = (fault.problem ≡ OutOfMemory) ⊎ ((said : Contents) → Writes file said → ⊥)
