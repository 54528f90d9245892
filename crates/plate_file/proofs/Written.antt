-- A file is read as what it writes, and only as that.
use Rattle.std.proofs.Common.{◌≡◌, ℕ, ◌-◌, Bool, true, false, cond, ◌⊎◌, List, [], ◌∷◌, ◌++◌, map, length, Some, None, Ok, Err, MatchBool, Option, Result, sym, refl, ap, ◌∙◌, subst, inl, inr, arith}
use Rattle.std.specs.List.{flat_map}
use Rattle.channel_rules.specs.declared.records.IntegerBounds.{IntegerBounds}
use Rattle.plate_file.specs.declared.keywords.Keyword.{Keyword}
use Rattle.plate_file.specs.declared.keywords.Keyword.TheVariants.{Rectangle, Channel, Rule, Dc, Ac}
use Rattle.plate_file.specs.declared.draft.StreamKind.TheVariants.{Dc as DcStream, Ac as AcStream}
use Rattle.plate_file.specs.declared.plate.Plate.{Plate}
use Rattle.plate_file.specs.declared.problem.Malformed.{Malformed}
use Rattle.plate_file.specs.declared.problem.Problem.{Problem}
use Rattle.plate_file.specs.Reading.{field_in, after_field}
use Rattle.plate_file.specs.Fields.{lines_of}
use Rattle.plate_file.specs.Words.{meant, keywords}
use Rattle.plate_file.specs.Steps.{and_then}
use Rattle.plate_file.specs.Headings.{Heading, no_heading, with_rectangle, with_channel, with_rule}
use Rattle.plate_file.specs.Streams.{count_in}
use Rattle.plate_file.specs.File.{Contents, Progress, opening, headed, in_stream, with_words, first_in, is_idle, begun, after_heading, after_dc, contents, started, line_after, lines_after, file_in, Answered}
use Rattle.plate_file.specs.Hex.{hex_word}
use Rattle.plate_file.specs.Writes.{AddsBy, AllAdd, fields_said, heading_of, Writes, Faithful}
use Rattle.plate_file.proofs.Runs.{Reads, joined_runs, run_answers, answer_runs, ends_in_ac}
use Rattle.plate_file.proofs.StreamLines.{stream_read, stream_written, Ends, Leaves}

-- a line before the streams, idle or not, by its first word
abbrev head_step : Heading → Bool → Option Keyword → List ℕ → Result Progress Problem
head_step h idle word bs = cond idle (Ok (headed h)) (after_heading h word bs)

adds_by : (h next : Heading) (idle : Bool) (word : Option Keyword) (bs : List ℕ) → MatchBool idle (h ≡ next) (AddsBy h word bs next) → head_step h idle word bs ≡ Ok (headed next)
adds_by h next true word bs e = ap (λ h. Ok (headed h)) e
adds_by h next false (Some Rectangle) bs e = ap (λ r. and_then r (λ h. Ok (headed h))) e
adds_by h next false (Some Channel) bs e = ap (λ r. and_then r (λ h. Ok (headed h))) e
adds_by h next false (Some Rule) bs e = ap (λ r. and_then r (λ h. Ok (headed h))) e
adds_by h next false (Some Dc) bs e = absurd e
adds_by h next false (Some Ac) bs e = absurd e
adds_by h next false None bs e = absurd e

all_read : (h next : Heading) (lines : List (List ℕ)) → AllAdd h lines next → Reads (headed h) lines (headed next)
all_read h next [] e = ap headed e
all_read h next (line ∷ lines) e =
    (headed e.0, adds_by h e.0 (is_idle line) (meant keywords (field_in line)) (after_field line) e.1, all_read e.0 next lines e.2)

-- what a line before the streams leads to: more of the same, or the dc stream
data HeadNext (h : Heading) (idle : Bool) (word : Option Keyword) (bs : List ℕ) (m : Progress) : Type 0 where
  adds : (next : Heading) → MatchBool idle (h ≡ next) (AddsBy h word bs next) → headed next ≡ m → HeadNext h idle word bs m
  begins : idle ≡ false → word ≡ Some Dc → begun h h.rectangle bs ≡ Ok m → HeadNext h idle word bs m

added : (r : Result Heading Problem) (m : Progress) → and_then r (λ h. Ok (headed h)) ≡ Ok m → (next : Heading) × (r ≡ Ok next) × (headed next ≡ m)
added (Ok next) m e = (next, refl, (cc))
added (Err p) m e = cc

head_next : (h : Heading) (idle : Bool) (word : Option Keyword) (bs : List ℕ) (m : Progress) → head_step h idle word bs ≡ Ok m → HeadNext h idle word bs m
head_next h true word bs m e = adds h refl (let same : headed h ≡ m = cc in same)
head_next h false (Some Rectangle) bs m e = let a = added (with_rectangle h bs) m e in adds a.0 a.1 a.2
head_next h false (Some Channel) bs m e = let a = added (with_channel h bs) m e in adds a.0 a.1 a.2
head_next h false (Some Rule) bs m e = let a = added (with_rule h bs) m e in adds a.0 a.1 a.2
head_next h false (Some Dc) bs m e = begins refl refl e
head_next h false (Some Ac) bs m e = cc
head_next h false None bs m e = cc

-- the lines before the streams, and the line that begins the dc stream
record Headed (h : Heading) (lines : List (List ℕ)) (said : Contents) : Type 0 where
  head : List (List ℕ)
  dc_line : List ℕ
  rest : List (List ℕ)
  next : Heading
  m : Progress
  cut : lines ≡ head ++ dc_line ∷ rest
  heads : AllAdd h head next
  says : is_idle dc_line ≡ false
  begins : meant keywords (field_in dc_line) ≡ Some Dc
  goes : begun next next.rectangle (after_field dc_line) ≡ Ok m
  then : Reads m rest (in_stream AcStream said 0)

head_written : (h : Heading) (lines : List (List ℕ)) (said : Contents) → Reads (headed h) lines (in_stream AcStream said 0) → Headed h lines said
head_written h [] said r = cc
head_written h (line ∷ lines) said r = by (head_next h (is_idle line) (meant keywords (field_in line)) (after_field line) r.0 r.1) (λ next. head_written next lines said)
  where
    by : HeadNext h (is_idle line) (meant keywords (field_in line)) (after_field line) r.0 → ((next : Heading) → Reads (headed next) lines (in_stream AcStream said 0) → Headed next lines said) → Headed h (line ∷ lines) said
    by (adds next e leads) more =
        let rest = more next (subst (λ m. Reads m lines (in_stream AcStream said 0)) (sym leads) r.2) in
        record {
          head = line ∷ rest.head;
          dc_line = rest.dc_line;
          rest = rest.rest;
          next = rest.next;
          m = rest.m;
          cut = ap (λ ls. line ∷ ls) rest.cut;
          heads = (next, e, rest.heads);
          says = rest.says;
          begins = rest.begins;
          goes = rest.goes;
          then = rest.then;
        }
    by (begins says word goes) more =
        record { head = []; dc_line = line; rest = lines; next = h; m = r.0; cut = refl; heads = refl; says = says; begins = word; goes = goes; then = r.2 }

-- the line that begins the dc stream, and the one that begins the ac stream
dc_begins : (h : Heading) (bounds : Option IntegerBounds) (bs : List ℕ) (m : Progress) → begun h bounds bs ≡ Ok m
    → (b : IntegerBounds) × (n : ℕ) × (bounds ≡ Some b) × (count_in bs ≡ Ok n) × (m ≡ in_stream DcStream (started h b) n)
dc_begins h None bs m e = cc
dc_begins h (Some b) bs m e = at (count_in bs) refl e
  where
    at : (r : Result ℕ Problem) → count_in bs ≡ r → and_then r (λ n. Ok (in_stream DcStream (started h b) n)) ≡ Ok m → (c : IntegerBounds) × (n : ℕ) × (Some b ≡ Some c) × (count_in bs ≡ Ok n) × (m ≡ in_stream DcStream (started h c) n)
    at (Err p) is e = cc
    at (Ok n) is e = (b, n, refl, is, (cc))

ac_begins : (c : Contents) (word : Option Keyword) (bs : List ℕ) (m : Progress) → after_dc c word bs ≡ Ok m → (n : ℕ) × (word ≡ Some Ac) × (count_in bs ≡ Ok n) × (m ≡ in_stream AcStream c n)
ac_begins c (Some Rectangle) bs m e = cc
ac_begins c (Some Channel) bs m e = cc
ac_begins c (Some Rule) bs m e = cc
ac_begins c (Some Dc) bs m e = cc
ac_begins c None bs m e = cc
ac_begins c (Some Ac) bs m e = at (count_in bs) refl e
  where
    at : (r : Result ℕ Problem) → count_in bs ≡ r → and_then r (λ n. Ok (in_stream AcStream c n)) ≡ Ok m → (n : ℕ) × (Some Ac ≡ Some Ac) × (count_in bs ≡ Ok n) × (m ≡ in_stream AcStream c n)
    at (Err p) is e = cc
    at (Ok n) is e = (n, refl, is, (cc))

-- the lines of the ac stream are the last
record LastStream (c : Contents) (n : ℕ) (lines : List (List ℕ)) (said : Contents) : Type 0 where
  ws : List ℕ
  long : n ≡ length ws
  each : map hex_word (flat_map fields_said lines) ≡ map Some ws
  whole : said ≡ with_words AcStream c (c.ac ++ ws)

ac_written : (c : Contents) (n : ℕ) (lines : List (List ℕ)) (said : Contents) → Reads (in_stream AcStream c n) lines (in_stream AcStream said 0) → LastStream c n lines said
ac_written c n lines said r = by (stream_written AcStream c lines c.ac n (in_stream AcStream said 0) r)
  where
    by : Ends AcStream c c.ac n lines (in_stream AcStream said 0) ⊎ Leaves AcStream c c.ac n lines (in_stream AcStream said 0) → LastStream c n lines said
    by (inl e) =
        let state = e.state in
        let left : 0 ≡ n - length e.ws = cc in
        let same : said ≡ with_words AcStream c (c.ac ++ e.ws) = cc in
        record { ws = e.ws; long = omega (arith, e.few); each = e.each; whole = same }
    by (inr e) = cc

-- behind the lines of the dc stream comes the line that begins the ac stream
record FirstStream (c : Contents) (n : ℕ) (lines : List (List ℕ)) (said : Contents) : Type 0 where
  own : List (List ℕ)
  ac_line : List ℕ
  rest : List (List ℕ)
  ws : List ℕ
  more : ℕ
  cut : lines ≡ own ++ ac_line ∷ rest
  long : n ≡ length ws
  each : map hex_word (flat_map fields_said own) ≡ map Some ws
  says : is_idle ac_line ≡ false
  begins : meant keywords (field_in ac_line) ≡ Some Ac
  count : count_in (after_field ac_line) ≡ Ok more
  last : LastStream (with_words DcStream c (c.dc ++ ws)) more rest said

dc_written : (c : Contents) (n : ℕ) (lines : List (List ℕ)) (said : Contents) → Reads (in_stream DcStream c n) lines (in_stream AcStream said 0) → FirstStream c n lines said
dc_written c n lines said r = by (stream_written DcStream c lines c.dc n (in_stream AcStream said 0) r)
  where
    by : Ends DcStream c c.dc n lines (in_stream AcStream said 0) ⊎ Leaves DcStream c c.dc n lines (in_stream AcStream said 0) → FirstStream c n lines said
    by (inl e) = let state = e.state in cc
    by (inr e) =
        let begin = ac_begins (with_words DcStream c (c.dc ++ e.ws)) (meant keywords (field_in e.next)) (after_field e.next) e.m e.goes in
        record {
          own = e.own;
          ac_line = e.next;
          rest = e.rest;
          ws = e.ws;
          more = begin.0;
          cut = e.cut;
          long = e.full;
          each = e.each;
          says = e.says;
          begins = begin.1;
          count = begin.2;
          last = ac_written (with_words DcStream c (c.dc ++ e.ws)) begin.0 e.rest said (subst (λ m. Reads m e.rest (in_stream AcStream said 0)) begin.3 e.then);
        }

-- what a file is read as, it writes
lines_written : (file : List ℕ) (said : Contents) (lines : List (List ℕ)) → lines_of file ≡ lines → Reads opening lines (in_stream AcStream said 0) → Writes file said
lines_written file said [] is r = cc
lines_written file said (first ∷ lines) is r = by (first_in first) refl r.1
  where
    by : (o : Result (Unit {0}) Problem) → first_in first ≡ o → and_then o (λ _. Ok (headed no_heading)) ≡ Ok r.0 → Writes file said
    by (Err p) opens e = cc
    by (Ok u) opens e =
        let starts : headed no_heading ≡ r.0 = cc in
        let top = head_written no_heading lines said (subst (λ m. Reads m lines (in_stream AcStream said 0)) (sym starts) r.2) in
        let h = top.next in
        let begin = dc_begins h h.rectangle (after_field top.dc_line) top.m top.goes in
        let base = started h begin.0 in
        let dc = dc_written base begin.1 top.rest said (subst (λ m. Reads m top.rest (in_stream AcStream said 0)) begin.4 top.then) in
        let ac = dc.last in
        subst (Writes file) (sym ac.whole)
        (record {
          first = first;
          head = top.head;
          dc_line = top.dc_line;
          dc_lines = dc.own;
          ac_line = dc.ac_line;
          ac_lines = dc.rest;
          cut = is ∙ ap (λ ls. first ∷ ls) (top.cut ∙ ap (λ ls. top.head ++ top.dc_line ∷ ls) dc.cut);
          opens = opens;
          heads = subst (AllAdd no_heading top.head) (λ i. record { text = h.text; channels = h.channels; rules = h.rules; rectangle = begin.2 i }) top.heads;
          dc = record { says = top.says; begins = top.begins; count = begin.3 ∙ ap Ok dc.long; each = dc.each };
          ac = record { says = dc.says; begins = dc.begins; count = dc.count ∙ ap Ok ac.long; each = ac.each };
        })

pub read_is_written : (file : List ℕ) (said : Contents) → file_in file ≡ Ok said → Writes file said
read_is_written file said e =
    let run = answer_runs 0 opening (lines_of file) said e in
    lines_written file said (lines_of file) refl (subst (Reads opening (lines_of file)) (ends_in_ac run.0 said run.2) run.1)

-- the line that begins the dc stream leads into it, and so does that of the ac stream
into_dc : (h : Heading) (b : IntegerBounds) (line : List ℕ) (n : ℕ) → h.rectangle ≡ Some b → is_idle line ≡ false → meant keywords (field_in line) ≡ Some Dc → count_in (after_field line) ≡ Ok n
    → line_after (headed h) line ≡ Ok (in_stream DcStream (started h b) n)
into_dc h b line n bounds says word count =
    (λ i. head_step h (says i) (word i) (after_field line)) ∙ ap (λ o. begun h o (after_field line)) bounds
    ∙ ap (λ r. and_then r (λ n. Ok (in_stream DcStream (started h b) n))) count

into_ac : (c : Contents) (line : List ℕ) (n : ℕ) → is_idle line ≡ false → meant keywords (field_in line) ≡ Some Ac → count_in (after_field line) ≡ Ok n → line_after (in_stream DcStream c 0) line ≡ Ok (in_stream AcStream c n)
into_ac c line n says word count = (λ i. cond (says i) (Ok (in_stream DcStream c 0)) (after_dc c (word i) (after_field line))) ∙ ap (λ r. and_then r (λ n. Ok (in_stream AcStream c n))) count

-- what a file writes, it is read as
pub written_is_read : (file : List ℕ) (said : Contents) → Writes file said → file_in file ≡ Ok said
written_is_read file said w =
    let top = heading_of said in
    let base = started top said.rectangle in
    let half : Contents = with_words DcStream base said.dc in
    let ac_run : Reads (in_stream DcStream half 0) (w.ac_line ∷ w.ac_lines) (in_stream AcStream said 0) = (
      in_stream AcStream half (length said.ac),
      into_ac half w.ac_line (length said.ac) w.ac.says w.ac.begins w.ac.count,
      stream_read AcStream half w.ac_lines [] said.ac (length said.ac) refl w.ac.each,
    )
    in
    let dc_run : Reads (headed top) (w.dc_line ∷ (w.dc_lines ++ w.ac_line ∷ w.ac_lines)) (in_stream AcStream said 0) = (
      in_stream DcStream base (length said.dc),
      into_dc top said.rectangle w.dc_line (length said.dc) refl w.dc.says w.dc.begins w.dc.count,
      joined_runs (in_stream DcStream base (length said.dc)) (in_stream DcStream half 0) (in_stream AcStream said 0) w.dc_lines (w.ac_line ∷ w.ac_lines)
          (stream_read DcStream base w.dc_lines [] said.dc (length said.dc) refl w.dc.each) ac_run,
    )
    in
    let lines = w.first ∷ (w.head ++ w.dc_line ∷ (w.dc_lines ++ w.ac_line ∷ w.ac_lines)) in
    let run : Reads opening lines (in_stream AcStream said 0) = (
      headed no_heading,
      ap (λ r. and_then r (λ _. Ok (headed no_heading))) w.opens,
      joined_runs (headed no_heading) (headed top) (in_stream AcStream said 0) w.head (w.dc_line ∷ (w.dc_lines ++ w.ac_line ∷ w.ac_lines)) (all_read no_heading top w.head w.heads) dc_run,
    )
    in
    ap (lines_after 0 opening) w.cut ∙ run_answers 0 opening (in_stream AcStream said 0) lines said run refl

-- an answer that is right is faithful
pub faithful : (file : List ℕ) (answer : Result Plate Malformed) → Answered file answer → Faithful file answer
faithful file (Ok plate) e = (read_is_written file (contents plate) e, λ said w. let read = written_is_read file said w in let same : said ≡ contents plate = cc in same)
faithful file (Err fault) (inl none) = inl none
faithful file (Err fault) (inr e) = inr (λ said w. let read = written_is_read file said w in cc)
