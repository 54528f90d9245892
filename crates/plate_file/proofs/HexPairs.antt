-- A word of four digits is two pairs.
use Rattle.std.proofs.Common.{◌≡◌, ℕ, ◌+◌, ◌*◌, List, [], ◌∷◌, length, get_or, Some, None, Option, sym, refl, ap, ◌∙◌, arith}
use Rattle.std.specs.Option.{option_map}
use Rattle.std.specs.Int.Digits.{number_from_digits}
use Rattle.plate_file.specs.Hex.{hex_digit, hex_pair, hex_word, before}

abbrev pairs : Option ℕ → Option ℕ → Option ℕ
pairs None q = None
pairs (Some h) None = None
pairs (Some h) (Some l) = Some (h * 256 + l)

abbrev two : Option ℕ → Option ℕ → Option ℕ
two p q = option_map (number_from_digits 16) (before p (before q (Some [])))

abbrev four : Option ℕ → Option ℕ → Option ℕ → Option ℕ → Option ℕ
four p q r s = option_map (number_from_digits 16) (before p (before q (before r (before s (Some [])))))

four_pairs : (p q r s : Option ℕ) → four p q r s ≡ pairs (two p q) (two r s)
four_pairs None q r s = refl
four_pairs (Some a) None r s = refl
four_pairs (Some a) (Some b) None s = refl
four_pairs (Some a) (Some b) (Some c) None = refl
four_pairs (Some a) (Some b) (Some c) (Some d) = ap Some (omega arith)

word_pairs : (bs : List ℕ) → length bs ≡ 4 → hex_word bs ≡ pairs (hex_pair (get_or bs 0 0 ∷ get_or bs 1 0 ∷ [])) (hex_pair (get_or bs 2 0 ∷ get_or bs 3 0 ∷ []))
word_pairs (a ∷ b ∷ c ∷ d ∷ []) e = four_pairs (hex_digit a) (hex_digit b) (hex_digit c) (hex_digit d)
word_pairs [] e = absurd (omega arith)
word_pairs (a ∷ []) e = absurd (omega arith)
word_pairs (a ∷ b ∷ []) e = absurd (omega arith)
word_pairs (a ∷ b ∷ c ∷ []) e = absurd (omega arith)
word_pairs (a ∷ b ∷ c ∷ d ∷ x ∷ bs) e = absurd (omega arith)

pub no_low : (bs : List ℕ) (h : ℕ) → length bs ≡ 4 → Some h ≡ hex_pair (get_or bs 0 0 ∷ get_or bs 1 0 ∷ []) → None ≡ hex_pair (get_or bs 2 0 ∷ get_or bs 3 0 ∷ []) → None ≡ hex_word bs
no_low bs h long p q = (λ i. pairs (p i) (q i)) ∙ sym (word_pairs bs long)
