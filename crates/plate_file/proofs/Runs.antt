-- A file without a fault, read line by line.
use Rattle.std.proofs.Common.{◌≡◌, ℕ, ◌+◌, Bool, true, false, cond, eqb, List, [], ◌∷◌, ◌++◌, Ok, Err, Result, sym, refl, ap, ◌∙◌, subst}
use Rattle.std.proofs.lemmas.Bool.{eqb-true}
use Rattle.plate_file.specs.declared.draft.StreamKind.TheVariants.{Dc as DcStream, Ac as AcStream}
use Rattle.plate_file.specs.declared.problem.Malformed.{Malformed}
use Rattle.plate_file.specs.declared.problem.Problem.{Problem}
use Rattle.plate_file.specs.declared.problem.Problem.TheVariants.{TooFewWords}
use Rattle.plate_file.specs.File.{Contents, Progress, opening, headed, in_stream, line_after, finished, on_line, lines_after}

-- each line is well, and together they lead from s to t
abbrev pub Reads : Progress → List (List ℕ) → Progress → Type 0
Reads s [] t = s ≡ t
Reads s (line ∷ lines) t = (m : Progress) × (line_after s line ≡ Ok m) × Reads m lines t

pub joined_runs : (s m t : Progress) (xs ys : List (List ℕ)) → Reads s xs m → Reads m ys t → Reads s (xs ++ ys) t
joined_runs s m t [] ys r q = subst (λ u. Reads u ys t) (sym r) q
joined_runs s m t (x ∷ xs) ys r q = (r.0, r.1, joined_runs r.0 m t xs ys r.2 q)

pub run_answers : (n : ℕ) (s t : Progress) (lines : List (List ℕ)) (said : Contents) → Reads s lines t → finished t ≡ Ok said → lines_after n s lines ≡ Ok said
run_answers n s t [] said r e = ap (λ u. on_line n (finished u)) r ∙ ap (on_line n) e
run_answers n s t (line ∷ lines) said r e =
    ap (λ o. elim o [ Ok next ↦ lines_after (n + 1) next lines | Err problem ↦ Err (record { line = n + 1; problem = problem }) ]) r.1
    ∙ run_answers (n + 1) r.0 t lines said r.2 e

no_fault : {A : Type 0} (n : ℕ) (r : Result A Problem) (a : A) → on_line n r ≡ Ok a → r ≡ Ok a
no_fault n (Ok b) a e = let same : b ≡ a = cc in ap Ok same
no_fault n (Err problem) a e = cc

pub answer_runs : (n : ℕ) (s : Progress) (lines : List (List ℕ)) (said : Contents) → lines_after n s lines ≡ Ok said → (t : Progress) × Reads s lines t × (finished t ≡ Ok said)
answer_runs n s [] said e = (s, refl, no_fault n (finished s) said e)
answer_runs n s (line ∷ lines) said e = at (line_after s line) refl e (λ m. answer_runs (n + 1) m lines said)
  where
    at : (o : Result Progress Problem) → line_after s line ≡ o → ◌≡◌ {A = Result Contents Malformed} (elim o [ Ok next ↦ lines_after (n + 1) next lines | Err problem ↦ Err (record { line = n + 1; problem = problem }) ]) (Ok said) → ((m : Progress) → lines_after (n + 1) m lines ≡ Ok said → (t : Progress) × Reads m lines t × (finished t ≡ Ok said)) → (t : Progress) × Reads s (line ∷ lines) t × (finished t ≡ Ok said)
    at (Ok m) is e more = let rest = more m e in (rest.0, (m, is, rest.1), rest.2)
    at (Err problem) is e more = cc

-- a file ends well only behind a whole ac stream
pub ends_in_ac : (t : Progress) (said : Contents) → finished t ≡ Ok said → t ≡ in_stream AcStream said 0
ends_in_ac opening said e = cc
ends_in_ac (headed h) said e = cc
ends_in_ac (in_stream DcStream c n) said e = cc
ends_in_ac (in_stream AcStream c n) said e = at (eqb n 0) refl e
  where
    at : (b : Bool) → eqb n 0 ≡ b → cond b (Ok c) (Err TooFewWords) ≡ Ok said → in_stream AcStream c n ≡ in_stream AcStream said 0
    at true is e = let same : c ≡ said = cc in (λ i. in_stream AcStream (same i) (eqb-true n 0 is i))
    at false is e = cc
