-- What a whole file says, line by line, or its first fault.
use Rattle.std.specs.Prelude.{◌≡◌, ℕ, ◌+◌, Bool, cond, ◌||◌, ◌⊎◌, List, [], ◌∷◌, length, take, drop, Some, None, Ok, Err, vec_items, codes, Option, Result, ◌==◌, slice_index}
use Rattle.std.specs.Str.{bytes_eq}
use Rattle.channel_rules.specs.declared.records.IntegerBounds.{IntegerBounds}
use Rattle.channel_rules.specs.declared.records.ChannelDescription.{ChannelDescription}
use Rattle.channel_rules.specs.declared.records.Rule.{Rule as RuleRecord}
use Rattle.plate_file.specs.declared.keywords.Keyword.{Keyword}
use Rattle.plate_file.specs.declared.keywords.Keyword.TheVariants.{Rectangle, Channel, Rule, Dc, Ac}
use Rattle.plate_file.specs.declared.plate.Plate.{Plate}
use Rattle.plate_file.specs.declared.draft.Draft.{Draft}
use Rattle.plate_file.specs.declared.draft.Draft.TheVariants.{Opening, Heading as InHeading, Words as InWords}
use Rattle.plate_file.specs.declared.draft.StreamKind.{StreamKind}
use Rattle.plate_file.specs.declared.draft.StreamKind.TheVariants.{Dc as DcStream, Ac as AcStream}
use Rattle.plate_file.specs.declared.problem.Malformed.{Malformed}
use Rattle.plate_file.specs.declared.problem.Problem.{Problem}
use Rattle.plate_file.specs.declared.problem.Problem.TheVariants.{NotAPlate, UnknownWord, MissingRectangle, MissingStream, TooFewWords, TooManyWords, OutOfPlace, OutOfMemory}
use Rattle.plate_file.specs.Reading.{field_in, after_field}
use Rattle.plate_file.specs.Fields.{lines_of, fields_of}
use Rattle.plate_file.specs.Words.{meant, keywords}
use Rattle.plate_file.specs.Steps.{and_then, ended, Fault}
use Rattle.plate_file.specs.Headings.{Heading, heading, no_heading, with_rectangle, with_channel, with_rule}
use Rattle.plate_file.specs.Streams.{count_in, longer}

-- what a plate says
pub record Contents : Type 0 where
  pub text : List ℕ
  pub channels : List ChannelDescription
  pub rules : List RuleRecord
  pub rectangle : IntegerBounds
  pub dc : List ℕ
  pub ac : List ℕ

-- the contents of a plate
abbrev pub contents : Plate → Contents
contents p =
    record { text = vec_items p.records.text; channels = vec_items p.records.channels; rules = vec_items p.records.rules; rectangle = p.rectangle; dc = vec_items p.dc; ac = vec_items p.ac }

-- the words of a stream
abbrev pub words_of : StreamKind → Contents → List ℕ
words_of DcStream c = c.dc
words_of AcStream c = c.ac

-- the same with other words in a stream
abbrev pub with_words : StreamKind → Contents → List ℕ → Contents
with_words DcStream c words = record { text = c.text; channels = c.channels; rules = c.rules; rectangle = c.rectangle; dc = words; ac = c.ac }
with_words AcStream c words = record { text = c.text; channels = c.channels; rules = c.rules; rectangle = c.rectangle; dc = c.dc; ac = words }

-- what was said before the streams, with a rectangle and no word yet
abbrev pub started : Heading → IntegerBounds → Contents
started h bounds = record { text = h.text; channels = h.channels; rules = h.rules; rectangle = bounds; dc = []; ac = [] }

-- how far a file has been read: not at all, to a line before the streams, or to one of a stream of which so many words are to come
pub data Progress : Type 0 where
  opening : Progress
  headed : Heading → Progress
  in_stream : StreamKind → Contents → ℕ → Progress

-- how far a draft is
abbrev pub progress : Draft → Progress
progress Opening = opening
progress (InHeading h) = headed (heading h)
progress (InWords stream p n) = in_stream stream (contents p) n

-- the first line is `plate 1`
abbrev pub first_in : List ℕ → Result (Unit {0}) Problem
first_in line = cond (bytes_eq (take 7 line) (codes "plate 1")) (ended NotAPlate (field_in (drop 7 line))) (Err NotAPlate)

-- a comment, which begins with `#` (byte 35), or a line without a field
abbrev pub is_idle : List ℕ → Bool
is_idle line = slice_index line 0 == 35 || length (field_in line) == 0

-- behind the word `dc`: the streams begin, if there was a rectangle
abbrev pub begun : Heading → Option IntegerBounds → List ℕ → Result Progress Problem
begun h None bs = Err MissingRectangle
begun h (Some bounds) bs = and_then (count_in bs) (λ count. Ok (in_stream DcStream (started h bounds) count))

-- a line before the streams, by its first word
abbrev pub after_heading : Heading → Option Keyword → List ℕ → Result Progress Problem
after_heading h (Some Rectangle) bs = and_then (with_rectangle h bs) (λ h. Ok (headed h))
after_heading h (Some Channel) bs = and_then (with_channel h bs) (λ h. Ok (headed h))
after_heading h (Some Rule) bs = and_then (with_rule h bs) (λ h. Ok (headed h))
after_heading h (Some Dc) bs = begun h h.rectangle bs
after_heading h (Some Ac) bs = Err MissingStream
after_heading h None bs = Err UnknownWord

-- a line behind the whole dc stream, by its first word
abbrev pub after_dc : Contents → Option Keyword → List ℕ → Result Progress Problem
after_dc said (Some Rectangle) bs = Err OutOfPlace
after_dc said (Some Channel) bs = Err OutOfPlace
after_dc said (Some Rule) bs = Err OutOfPlace
after_dc said (Some Dc) bs = Err OutOfPlace
after_dc said (Some Ac) bs = and_then (count_in bs) (λ count. Ok (in_stream AcStream said count))
after_dc said None bs = Err TooManyWords

-- what is wrong with a line behind both streams
abbrev pub after_ac : Option Keyword → Problem
after_ac (Some keyword) = OutOfPlace
after_ac None = TooManyWords

-- a line behind a whole stream, by its first word
abbrev pub behind : StreamKind → Contents → Option Keyword → List ℕ → Result Progress Problem
behind DcStream said keyword bs = after_dc said keyword bs
behind AcStream said keyword bs = Err (after_ac keyword)

-- a line with words of a stream
abbrev pub more_words : StreamKind → Contents → ℕ → List ℕ → Result Progress Problem
more_words stream said n line =
    and_then (longer (words_of stream said) n (fields_of line)) (λ now. Ok (in_stream stream (with_words stream said now.words) now.left))

-- how far a file has been read after one line more
abbrev pub line_after : Progress → List ℕ → Result Progress Problem
line_after opening line = and_then (first_in line) (λ _. Ok (headed no_heading))
line_after (headed h) line = cond (is_idle line) (Ok (headed h)) (after_heading h (meant keywords (field_in line)) (after_field line))
line_after (in_stream stream said n) line =
    cond (is_idle line) (Ok (in_stream stream said n))
    (cond (n == 0) (behind stream said (meant keywords (field_in line)) (after_field line)) (more_words stream said n line))

-- a draft is as far as the line leads, or the fault is the right one
abbrev pub Leads : Result Progress Problem → Result Draft Problem → Type 0
Leads right (Ok next) = right ≡ Ok (progress next)
Leads right (Err problem) = Fault right problem

-- where the file ends both streams have to be whole
abbrev pub finished : Progress → Result Contents Problem
finished opening = Err MissingStream
finished (headed h) = Err MissingStream
finished (in_stream DcStream said n) = Err (cond (n == 0) MissingStream TooFewWords)
finished (in_stream AcStream said n) = cond (n == 0) (Ok said) (Err TooFewWords)

-- a fault on a line
abbrev pub on_line : {A : Type 0} → ℕ → Result A Problem → Result A Malformed
on_line n (Ok a) = Ok a
on_line n (Err problem) = Err (record { line = n; problem = problem })

-- what the lines behind the n-th make of it
abbrev pub lines_after : ℕ → Progress → List (List ℕ) → Result Contents Malformed
lines_after n so [] = on_line n (finished so)
lines_after n so (line ∷ lines) =
    elim (line_after so line) [ Ok next ↦ lines_after (n + 1) next lines | Err problem ↦ Err (record { line = n + 1; problem = problem }) ]

-- what the file says, or its first fault and the line that it stands on, counted from 1
abbrev pub file_in : List ℕ → Result Contents Malformed
file_in file = lines_after 0 opening (lines_of file)

-- the answer is what the file says, unless there was no memory to go on
abbrev pub Answered : List ℕ → Result Plate Malformed → Type 0
Answered file (Ok plate) = file_in file ≡ Ok (contents plate)
Answered file (Err fault) = (fault.problem ≡ OutOfMemory) ⊎ (file_in file ≡ Err fault)
