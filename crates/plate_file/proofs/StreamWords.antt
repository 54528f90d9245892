-- One word more of a stream.
use Rattle.std.proofs.Common.{◌≡◌, ℕ, zero, suc, ◌-◌, ◌<◌, List, [], ◌∷◌, ◌++◌, length, Ok, Err, Result, sym, refl, ap, ◌∙◌, arith}
use native.Mathlib.Nat.{sub-zero}
use Rattle.std.proofs.lemmas.List.{append_assoc, append-nil}
use Rattle.plate_file.specs.declared.problem.Problem.{Problem}
use Rattle.plate_file.specs.declared.problem.Problem.TheVariants.{TooManyWords}
use Rattle.plate_file.specs.Reading.{field_in, after_field}
use Rattle.plate_file.specs.Fields.{fields_of}
use Rattle.plate_file.specs.Steps.{and_then}
use Rattle.plate_file.specs.Streams.{word_in, words_in, Stream, longer}
use Rattle.plate_file.proofs.Cutting.{no_fields, first_field}

pub no_word : (old : List ℕ) (n : ℕ) (bs : List ℕ) → length (field_in bs) ≡ 0 → longer old n (fields_of bs) ≡ Ok (record { words = old; left = n })
no_word old n bs e = ap (longer old n) (no_fields bs e) ∙ (λ i. Ok (record { words = append-nil old i; left = sub-zero n i }))

module _ (old bs : List ℕ) (some : 0 < length (field_in bs)) where
  pub too_many : (n : ℕ) → n ≡ 0 → longer old n (fields_of bs) ≡ Err TooManyWords
  too_many n z = λ i. longer old (z i) (first_field bs some i)

  -- the words of a line by what its first field is
  abbrev by_first : ℕ → Result ℕ Problem → Result Stream Problem
  by_first n r =
      and_then (and_then r (λ word. and_then (words_in n (fields_of (after_field bs))) (λ words. Ok (word ∷ words)))) (λ words. Ok (record { words = old ++ words; left = suc n - length words }))

  pub bad_word : (n : ℕ) (p : Problem) → 0 < n → Err p ≡ word_in (field_in bs) → longer old n (fields_of bs) ≡ Err p
  bad_word zero p h bad = absurd (omega arith)
  bad_word (suc n) p h bad =
      ap (longer old (suc n)) (first_field bs some)
      ∙ ap (by_first n) (sym bad)

  pub good_word : (n word : ℕ) → 0 < n → Ok word ≡ word_in (field_in bs) → longer old n (fields_of bs) ≡ longer (old ++ word ∷ []) (n - 1) (fields_of (after_field bs))
  good_word zero word h good = absurd (omega arith)
  good_word (suc n) word h good =
      ap (longer old (suc n)) (first_field bs some)
      ∙ ap (by_first n) (sym good)
      ∙ at (words_in n (fields_of (after_field bs))) ∙ ap (λ m. longer (old ++ word ∷ []) m (fields_of (after_field bs))) (let less : n ≡ suc n - 1 = omega arith in less)
    where
      at : (r : Result (List ℕ) Problem) → and_then {B = Stream} (and_then r (λ words. Ok (word ∷ words))) (λ words. Ok (record { words = old ++ words; left = suc n - length words })) ≡ and_then {B = Stream} r (λ words. Ok (record { words = (old ++ word ∷ []) ++ words; left = n - length words }))
      at (Err p) = refl
      at (Ok words) = λ i. Ok (record { words = sym (append_assoc old (word ∷ []) words) i; left = (let less : suc n - suc (length words) ≡ n - length words = omega arith in less) i })

-- what `add_words` does with a line's next field, or without one
pub ruleset next_words = (no_word, too_many, bad_word, good_word)
