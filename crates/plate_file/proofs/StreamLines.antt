-- The lines of a stream, and the words that they write.
use Rattle.std.proofs.Common.{◌≡◌, ℕ, zero, suc, ◌-◌, ◌≤◌, Bool, true, false, cond, eqb, ◌⊎◌, List, [], ◌∷◌, ◌++◌, map, length, get_or, Some, None, Ok, Err, Option, Result, sym, refl, ap, ◌∙◌, subst, inl, inr, arith}
use Rattle.std.specs.List.{flat_map}
use Rattle.std.proofs.lemmas.List.{append_assoc, append-nil, length-append, length-map, map-append}
use Rattle.std.proofs.lemmas.Bool.{or_parts, eqb-false, eqb-true, ne_eqb}
use Rattle.plate_file.specs.declared.draft.StreamKind.{StreamKind}
use Rattle.plate_file.specs.declared.draft.StreamKind.TheVariants.{Dc as DcStream, Ac as AcStream}
use Rattle.plate_file.specs.declared.problem.Problem.{Problem}
use Rattle.plate_file.specs.Reading.{field_in, after_field}
use Rattle.plate_file.specs.Fields.{fields_of}
use Rattle.plate_file.specs.Hex.{hex_word}
use Rattle.plate_file.specs.Words.{meant, keywords}
use Rattle.plate_file.specs.Steps.{and_then, found}
use Rattle.plate_file.specs.Streams.{no_word, words_in, Stream, longer}
use Rattle.plate_file.specs.File.{Contents, Progress, in_stream, with_words, behind, is_idle, line_after}
use Rattle.plate_file.specs.Writes.{fields_said}
use Rattle.plate_file.proofs.Cutting.{first_field}
use Rattle.plate_file.proofs.Runs.{Reads}

-- a list of words that is written by two lists of fields has two parts
split : (xs ys : List (List ℕ)) (ws : List ℕ) → map hex_word (xs ++ ys) ≡ map Some ws → (us : List ℕ) × (vs : List ℕ) × (ws ≡ us ++ vs) × (map hex_word xs ≡ map Some us) × (map hex_word ys ≡ map Some vs)
split [] ys ws e = ([], ws, refl, refl, e)
split (x ∷ xs) ys [] e = cc
split (x ∷ xs) ys (w ∷ ws) e =
    let here : hex_word x ≡ Some w = cc in
    let more : map hex_word (xs ++ ys) ≡ map Some ws = cc in
    let rest = split xs ys ws more in
    (w ∷ rest.0, rest.1, ap (λ l. w ∷ l) rest.2, (λ i. here i ∷ rest.3 i), rest.4)

-- fields that write words are read as these
pub words_read : (n : ℕ) (fs : List (List ℕ)) (ws : List ℕ) → map hex_word fs ≡ map Some ws → length ws ≤ n → words_in n fs ≡ Ok ws
words_read n [] [] e h = refl
words_read n [] (w ∷ ws) e h = cc
words_read n (f ∷ fs) [] e h = cc
words_read zero (f ∷ fs) (w ∷ ws) e h = absurd (omega arith)
words_read (suc n) (f ∷ fs) (w ∷ ws) e h =
    let here : hex_word f ≡ Some w = cc in
    let more : map hex_word fs ≡ map Some ws = cc in
    ap (λ o. and_then (found (no_word (meant keywords f)) o) (λ word. and_then (words_in n fs) (λ words. Ok (word ∷ words)))) here
    ∙ ap (λ r. and_then r (λ words. Ok (w ∷ words))) (words_read n fs ws more (omega arith))

-- what is read are words that the fields write
pub words_written : (n : ℕ) (fs : List (List ℕ)) (ws : List ℕ) → words_in n fs ≡ Ok ws → (map hex_word fs ≡ map Some ws) × (length ws ≤ n)
words_written n [] ws e = let none : [] ≡ ws = cc in (ap (map Some) none, omega (arith, ap length none))
words_written zero (f ∷ fs) ws e = cc
words_written (suc n) (f ∷ fs) ws e = at (hex_word f) refl (words_in n fs) refl e (words_written n fs)
  where
    at : (o : Option ℕ) → hex_word f ≡ o → (r : Result (List ℕ) Problem) → words_in n fs ≡ r → and_then (found (no_word (meant keywords f)) o) (λ word. and_then r (λ words. Ok (word ∷ words))) ≡ Ok ws → ((vs : List ℕ) → words_in n fs ≡ Ok vs → (map hex_word fs ≡ map Some vs) × (length vs ≤ n)) → (map hex_word (f ∷ fs) ≡ map Some ws) × (length ws ≤ suc n)
    at None is r was e more = cc
    at (Some w) is (Err p) was e more = cc
    at (Some w) is (Ok vs) was e more =
        let whole : w ∷ vs ≡ ws = cc in
        let rest = more vs was in
        ((λ i. is i ∷ rest.0 i) ∙ ap (map Some) whole, omega (arith, rest.1, ap length whole))

-- a line that is not idle has a field
some_field : (line : List ℕ) → is_idle line ≡ false → fields_of line ≡ field_in line ∷ fields_of (after_field line)
some_field line e = first_field line (let some = eqb-false (length (field_in line)) 0 (or_parts (eqb (get_or line 0 0) 35) (eqb (length (field_in line)) 0) e).1 in omega arith)

-- what a line makes of a stream `at` its words so far and how many are to come; `past` is what one behind its last word makes of it
abbrev pub stream_step : (List ℕ → ℕ → Progress) → (List ℕ → List ℕ → Result Progress Problem) → Bool → Bool → List ℕ → ℕ → List ℕ → Result Progress Problem
stream_step at past idle full old n line =
    cond idle (Ok (at old n)) (cond full (past old line) (and_then (longer old n (fields_of line)) (λ stream. Ok (at stream.words stream.left))))

module _ (kind : StreamKind) (c : Contents) where
  abbrev at : List ℕ → ℕ → Progress
  at ws n = in_stream kind (with_words kind c ws) n

  -- what a line behind its last word makes of it
  abbrev past : List ℕ → List ℕ → Result Progress Problem
  past ws line = behind kind (with_words kind c ws) (meant keywords (field_in line)) (after_field line)

  steps : (old : List ℕ) (n : ℕ) (line : List ℕ) → line_after (at old n) line ≡ stream_step at past (is_idle line) (eqb n 0) old n line
  steps old n line = elim kind as (λ kind. line_after (in_stream kind (with_words kind c old) n) line ≡ stream_step (λ ws n. in_stream kind (with_words kind c ws) n) (λ ws line. behind kind (with_words kind c ws) (meant keywords (field_in line)) (after_field line)) (is_idle line) (eqb n 0) old n line) [ DcStream ↦ refl | AcStream ↦ refl ]

  saying : (line : List ℕ) (lines : List (List ℕ)) (b : Bool) → is_idle line ≡ b → map hex_word (flat_map fields_said (line ∷ lines)) ≡ map hex_word (cond b [] (fields_of line) ++ flat_map fields_said lines)
  saying line lines b is = ap (λ b. map hex_word (cond b [] (fields_of line) ++ flat_map fields_said lines)) is

  -- lines that write as many words as are to come
  pub stream_read : (lines : List (List ℕ)) (old ws : List ℕ) (n : ℕ) → n ≡ length ws → map hex_word (flat_map fields_said lines) ≡ map Some ws → Reads (at old n) lines (at (old ++ ws) 0)
  stream_read [] old [] n long e = λ i. at (sym (append-nil old) i) (long i)
  stream_read [] old (w ∷ ws) n long e = cc
  stream_read (line ∷ lines) old ws n long e = by (is_idle line) refl (stream_read lines)
    where
      by : (b : Bool) → is_idle line ≡ b → ((old ws : List ℕ) (n : ℕ) → n ≡ length ws → map hex_word (flat_map fields_said lines) ≡ map Some ws → Reads (at old n) lines (at (old ++ ws) 0)) → Reads (at old n) (line ∷ lines) (at (old ++ ws) 0)
      by true idle more = (at old n, steps old n line ∙ ap (λ b. stream_step at past b (eqb n 0) old n line) idle, more old ws n long (sym (saying line lines true idle) ∙ e))
      by false idle more =
          let parts = split (fields_of line) (flat_map fields_said lines) ws (sym (saying line lines false idle) ∙ e) in
          let us = parts.0 in
          let vs = parts.1 in
          let long_us : length (fields_of line) ≡ length us = sym (length-map (fields_of line) hex_word) ∙ ap length parts.3 ∙ length-map us (λ w. Some w) in
          let some : n ≡ 0 → ⊥ = λ z. omega (arith, length-append us vs, ap length parts.2, ap length (some_field line idle)) in
          let read = words_read n (fields_of line) us parts.3 (omega (arith, length-append us vs, ap length parts.2)) in (
            at (old ++ us) (n - length us),
            steps old n line ∙ (λ i. stream_step at past (idle i) (ne_eqb n 0 some i) old n line)
                ∙ ap (λ r. and_then (and_then {B = Stream} r (λ words. Ok (record { words = old ++ words; left = n - length words }))) (λ stream. Ok (at stream.words stream.left))) read,
            subst (λ end. Reads (at (old ++ us) (n - length us)) lines (at end 0)) (append_assoc old us vs ∙ ap (λ l. old ++ l) (sym parts.2))
                (more (old ++ us) vs (n - length us) (omega (arith, length-append us vs, ap length parts.2)) parts.4),
          )

  -- the lines end inside the stream or at its end
  pub record Ends (old : List ℕ) (n : ℕ) (lines : List (List ℕ)) (t : Progress) : Type 0 where
    pub ws : List ℕ
    pub few : length ws ≤ n
    pub each : map hex_word (flat_map fields_said lines) ≡ map Some ws
    pub state : t ≡ at (old ++ ws) (n - length ws)

  -- a line goes on behind the stream
  pub record Leaves (old : List ℕ) (n : ℕ) (lines : List (List ℕ)) (t : Progress) : Type 0 where
    pub own : List (List ℕ)
    pub next : List ℕ
    pub rest : List (List ℕ)
    pub ws : List ℕ
    pub m : Progress
    pub cut : lines ≡ own ++ next ∷ rest
    pub full : n ≡ length ws
    pub each : map hex_word (flat_map fields_said own) ≡ map Some ws
    pub says : is_idle next ≡ false
    pub goes : past (old ++ ws) next ≡ Ok m
    pub then : Reads m rest t

  -- words in front of those that the further lines write
  ends_more : (line : List ℕ) (lines : List (List ℕ)) (old us : List ℕ) (n : ℕ) (t : Progress) → length us ≤ n → map hex_word (fields_said line) ≡ map Some us → Ends (old ++ us) (n - length us) lines t → Ends old n (line ∷ lines) t
  ends_more line lines old us n t few here e =
      let total = length-append us e.ws in
      record {
        ws = us ++ e.ws;
        few = omega (arith, e.few);
        each = map-append hex_word (fields_said line) (flat_map fields_said lines) ∙ (λ i. here i ++ e.each i) ∙ sym (map-append (λ w. Some w) us e.ws);
        state = e.state ∙ (λ i. at (append_assoc old us e.ws i) ((let less : n - length us - length e.ws ≡ n - length (us ++ e.ws) = omega arith in less) i));
      }

  leaves_more : (line : List ℕ) (lines : List (List ℕ)) (old us : List ℕ) (n : ℕ) (t : Progress) → length us ≤ n → map hex_word (fields_said line) ≡ map Some us → Leaves (old ++ us) (n - length us) lines t → Leaves old n (line ∷ lines) t
  leaves_more line lines old us n t few here e =
      let total = length-append us e.ws in
      record {
        own = line ∷ e.own;
        next = e.next;
        rest = e.rest;
        ws = us ++ e.ws;
        m = e.m;
        cut = ap (λ ls. line ∷ ls) e.cut;
        full = omega (arith, e.full);
        each = map-append hex_word (fields_said line) (flat_map fields_said e.own) ∙ (λ i. here i ++ e.each i) ∙ sym (map-append (λ w. Some w) us e.ws);
        says = e.says;
        goes = ap (λ ws. past ws e.next) (sym (append_assoc old us e.ws)) ∙ e.goes;
        then = e.then;
      }

  -- the words us of one line, and what follows from the further lines
  both_more : (line : List ℕ) (lines : List (List ℕ)) (old us : List ℕ) (n : ℕ) (m t : Progress) → length us ≤ n → map hex_word (fields_said line) ≡ map Some us → at (old ++ us) (n - length us) ≡ m → Reads m lines t
      → (Reads (at (old ++ us) (n - length us)) lines t → Ends (old ++ us) (n - length us) lines t ⊎ Leaves (old ++ us) (n - length us) lines t) → Ends old n (line ∷ lines) t ⊎ Leaves old n (line ∷ lines) t
  both_more line lines old us n m t few here leads r more =
      elim (more (subst (λ m. Reads m lines t) (sym leads) r)) [ inl e ↦ inl (ends_more line lines old us n t few here e) | inr e ↦ inr (leaves_more line lines old us n t few here e) ]

  -- what has been read was written
  pub stream_written : (lines : List (List ℕ)) (old : List ℕ) (n : ℕ) (t : Progress) → Reads (at old n) lines t → Ends old n lines t ⊎ Leaves old n lines t
  stream_written [] old n t r =
      inl (record { ws = []; few = omega arith; each = refl; state = sym r ∙ (λ i. at (sym (append-nil old) i) ((let same : n ≡ n - 0 = omega arith in same) i)) })
  stream_written (line ∷ lines) old n t r = by (is_idle line) refl (eqb n 0) refl (words_in n (fields_of line)) refl (sym (steps old n line) ∙ r.1) (λ old n. stream_written lines old n t)
    where
      by : (b : Bool) → is_idle line ≡ b → (full : Bool) → eqb n 0 ≡ full → (o : Result (List ℕ) Problem) → words_in n (fields_of line) ≡ o → stream_step at past (is_idle line) (eqb n 0) old n line ≡ Ok r.0 → ((old : List ℕ) (n : ℕ) → Reads (at old n) lines t → Ends old n lines t ⊎ Leaves old n lines t) → Ends old n (line ∷ lines) t ⊎ Leaves old n (line ∷ lines) t
      by true idle full is o was e more =
          let stays : at old n ≡ r.0 = cc (sym (ap (λ b. stream_step at past b (eqb n 0) old n line) idle)) in
          both_more line lines old [] n r.0 t (omega arith) (ap (λ b. map hex_word (cond b [] (fields_of line))) idle)
          ((λ i. at (append-nil old i) ((let same : n - 0 ≡ n = omega arith in same) i)) ∙ stays) r.2 (more (old ++ []) (n - 0))
      by false idle true is o was e more =
          let none = eqb-true n 0 is in
          inr
          (record {
            own = [];
            next = line;
            rest = lines;
            ws = [];
            m = r.0;
            cut = refl;
            full = none;
            each = refl;
            says = idle;
            goes = ap (λ ws. past ws line) (append-nil old) ∙ sym (λ i. stream_step at past (idle i) (is i) old n line) ∙ e;
            then = r.2;
          })
      by false idle false is (Err p) was e more =
          let faulty : ◌≡◌ {A = Result Progress Problem} (Err p) (Ok r.0) =
          sym ((λ i. stream_step at past (idle i) (is i) old n line)
          ∙ ap (λ r. and_then (and_then {B = Stream} r (λ words. Ok (record { words = old ++ words; left = n - length words }))) (λ stream. Ok (at stream.words stream.left))) was) ∙ e
          in
          cc
      by false idle false is (Ok us) was e more =
          let goes : ◌≡◌ {A = Result Progress Problem} (Ok (at (old ++ us) (n - length us))) (Ok r.0) =
          sym ((λ i. stream_step at past (idle i) (is i) old n line)
          ∙ ap (λ r. and_then (and_then {B = Stream} r (λ words. Ok (record { words = old ++ words; left = n - length words }))) (λ stream. Ok (at stream.words stream.left))) was) ∙ e
          in
          let wrote = words_written n (fields_of line) us was in
          both_more line lines old us n r.0 t wrote.1 (ap (λ b. map hex_word (cond b [] (fields_of line))) idle ∙ wrote.0) (let leads : at (old ++ us) (n - length us) ≡ r.0 = cc in leads) r.2 (more (old ++ us) (n - length us))
