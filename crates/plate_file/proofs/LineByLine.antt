-- A file that is read line by line: what the lines that are left make of the draft.
use Rattle.std.proofs.Common.{◌≡◌, ℕ, ◌+◌, ◌≤◌, cond, eqb, List, [], ◌∷◌, length, Some, None, Ok, Err, Option, Result, sym, refl, ap, ◌∙◌, subst, inl, inr, ⊎_elim, IfErr, MatchResult, arith, Bor}
use Rattle.std.specs.List.{slice_split, onto_first}
use Rattle.std.proofs.lemmas.List.Splits.{length-slice_split}
use Rattle.std.proofs.lemmas.List.Sums.{count_by-le-length}
use Rattle.std.proofs.lemmas.Iterator.{YieldsList}
use Rattle.plate_file.specs.declared.draft.Draft.{Draft}
use Rattle.plate_file.specs.declared.plate.Plate.{Plate}
use Rattle.plate_file.specs.declared.problem.Malformed.{Malformed}
use Rattle.plate_file.specs.declared.problem.Problem.{Problem}
use Rattle.plate_file.specs.Fields.{on_first, lines_of}
use Rattle.plate_file.specs.Lines.{line_ends}
use Rattle.plate_file.specs.File.{Progress, opening, contents, progress, line_after, Leads, finished, on_line, lines_after, file_in, Answered}

-- std cuts a file into the same lines
split_lines : (bs : List ℕ) → slice_split (λ b. eqb b 10) bs ≡ lines_of bs
split_lines [] = refl
split_lines (b ∷ bs) = ap (λ ls. cond (eqb b 10) ([] ∷ ls) (onto_first b ls)) (split_lines bs) ∙ ap (λ ls. cond (eqb b 10) ([] ∷ lines_of bs) ls) (same b (lines_of bs))
  where
    same : (b : ℕ) (ls : List (List ℕ)) → onto_first b ls ≡ on_first b ls
    same b [] = refl
    same b (l ∷ ls) = refl

-- a file has one line more than line feeds
pub lines_counted : (bs : List ℕ) → length (lines_of bs) ≡ line_ends bs + 1
lines_counted bs = ap length (sym (split_lines bs)) ∙ length-slice_split (λ b. eqb b 10) bs

module _ {S : Type 0} (steps : S → Option (Bor (List ℕ)) → S → Type 0) (file : List ℕ) where
  -- the lines that are left make of it what the file says
  pub record Left (s : S) (line : ℕ) (so : Progress) : Type 0 where
    pub lines : List (List ℕ)
    pub gives : YieldsList steps (λ line. line.now) s lines
    pub says : lines_after line so lines ≡ file_in file
    pub count : line + length lines ≡ length (lines_of file)

  pub all_left : (s : S) → YieldsList steps (λ line. line.now) s (slice_split (λ b. eqb b 10) file) → Left s 0 opening
  all_left s gives = record { lines = lines_of file; gives = subst (YieldsList steps (λ line. line.now) s) (split_lines file) gives; says = refl; count = omega arith }

  -- the fault's line is one of the file
  abbrev pub OnLine : Malformed → Type 0
  OnLine fault = (1 ≤ fault.line) × (fault.line ≤ line_ends file + 1)

  next_line : (s t : S) (x : Bor (List ℕ)) (lines : List (List ℕ)) → YieldsList steps (λ line. line.now) s lines → steps s (Some x) t → (rest : List (List ℕ)) × (lines ≡ x.now ∷ rest) × YieldsList steps (λ line. line.now) t rest
  next_line s t x [] gives k = absurd (gives.runs x t k)
  next_line s t x (line ∷ lines) gives k = let next = gives.runs.1 x t k in (lines, (λ i. sym next.0 i ∷ lines), record { runs = next.1 })

  no_line : (s t : S) (lines : List (List ℕ)) → YieldsList steps (λ line. line.now) s lines → steps s None t → lines ≡ []
  no_line s t [] gives k = refl
  no_line s t (line ∷ lines) gives k = absurd (gives.runs.0 t k)

  module _ (s t : S) (line : ℕ) (so : Progress) (left : Left s line so) where
    module _ (x : Bor (List ℕ)) (k : steps s (Some x) t) where
      within : line + 1 ≤ line_ends file + 1
      within = let next = next_line s t x left.lines left.gives k in omega (arith, left.count, ap length next.1, lines_counted file)

      pub not_past : line ≤ length file
      not_past = omega (arith, within, count_by-le-length (λ byte. eqb byte 10) file)

      -- by what the next line makes of it
      says_next : (o : Result Progress Problem) → line_after so x.now ≡ o → elim o [ Ok next ↦ lines_after (line + 1) next (next_line s t x left.lines left.gives k).0 | Err problem ↦ Err (record { line = line + 1; problem = problem }) ] ≡ file_in file
      says_next o e =
          let next = next_line s t x left.lines left.gives k in
          sym (ap (lines_after line so) next.1 ∙ ap (λ o. elim o [ Ok so ↦ lines_after (line + 1) so next.0 | Err problem ↦ Err (record { line = line + 1; problem = problem }) ]) e) ∙ left.says

      pub one_less : (r : Result Draft Problem) (draft : Draft) → Leads (line_after so x.now) r → Ok draft ≡ on_line (line + 1) r → Left t (line + 1) (progress draft)
      one_less (Err problem) draft leads e = cc
      one_less (Ok read) draft leads e =
          let next = next_line s t x left.lines left.gives k in
          let same : read ≡ draft = cc in
          subst (λ draft. Left t (line + 1) (progress draft)) same
          (record { lines = next.0; gives = next.2; says = says_next (Ok (progress read)) leads; count = omega (arith, left.count, ap length next.1) })

      pub stopped : (r : Result Draft Problem) (fault : Malformed) → Leads (line_after so x.now) r → Err fault ≡ on_line (line + 1) r → OnLine fault × Answered file (Err fault)
      stopped (Ok draft) fault leads e = cc
      stopped (Err problem) fault leads e =
          let same : fault ≡ record { line = line + 1; problem = problem } = cc in
          let on : fault.line ≡ line + 1 = ap (λ fault. fault.line) same in
          ((omega arith, omega (arith, within)), ⊎_elim (λ none. inl (ap (λ fault. fault.problem) same ∙ none)) (λ is. inr (sym (says_next (Err problem) is) ∙ ap Err (sym same))) leads)

    module _ (k : steps s None t) where
      last : line ≡ line_ends file + 1
      last = omega (arith, left.count, ap length (no_line s t left.lines left.gives k), lines_counted file)

      says_end : on_line line (finished so) ≡ file_in file
      says_end = sym (ap (lines_after line so) (no_line s t left.lines left.gives k)) ∙ left.says

      pub ended : (r : Result Plate Problem) → MatchResult r (λ plate. finished so ≡ Ok (contents plate)) (λ problem. finished so ≡ Err problem) → IfErr (on_line line r) OnLine × Answered file (on_line line r)
      ended (Ok plate) e = (tt, sym says_end ∙ ap (on_line line) e)
      ended (Err problem) e = ((omega (arith, last), omega (arith, last)), inr (sym says_end ∙ ap (on_line line) e))
