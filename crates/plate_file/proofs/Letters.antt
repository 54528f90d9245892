-- One letter more of a name.
use Rattle.std.proofs.Common.{◌≡◌, ℕ, zero, suc, ◌-◌, ◌<◌, true, false, cond, List, [], ◌∷◌, ◌++◌, length, drop, Some, None, Option, sym, refl, ap, ◌∙◌, arith}
use Rattle.std.specs.Option.{option_map}
use Rattle.std.proofs.lemmas.List.{append_assoc}
use Rattle.plate_file.specs.Hex.{before}
use Rattle.plate_file.specs.Quoted.{is_plain, letter_in, letter_size, letters_behind, letters_in}

behind : (n : ℕ) (bs : List ℕ) → letters_behind n bs ≡ letters_in (drop n bs)
behind zero [] = refl
behind (suc n) [] = refl
behind zero (b ∷ bs) = refl
behind (suc n) (b ∷ bs) = behind n bs

pub first_letter : (bs : List ℕ) → 0 < length bs → letters_in bs ≡ before (letter_in bs) (letters_in (drop (letter_size bs) bs))
first_letter [] h = absurd (omega arith)
first_letter (b ∷ bs) h =
    ap (before (letter_in (b ∷ bs)))
    (elim (is_plain b) as (λ t. letters_behind (cond t 1 4 - 1) bs ≡ letters_in (drop (cond t 1 4) (b ∷ bs))) [ true ↦ behind 0 bs | false ↦ behind 3 bs ])

-- what a text becomes by letters
abbrev pub grown : List ℕ → List ℕ → Option (List ℕ)
grown text bs = option_map (λ name. text ++ name) (letters_in bs)

onto : (text : List ℕ) (b : ℕ) (o : Option (List ℕ)) → option_map (λ name. text ++ name) (before (Some b) o) ≡ option_map (λ name. (text ++ b ∷ []) ++ name) o
onto text b None = refl
onto text b (Some name) = ap Some (sym (append_assoc text (b ∷ []) name))

pub grown-more : (text bs rest : List ℕ) (b : ℕ) → 0 < length bs → Some b ≡ letter_in bs → rest ≡ drop (letter_size bs) bs → grown text bs ≡ grown (text ++ b ∷ []) rest
grown-more text bs rest b h is follows =
    ap (option_map (λ name. text ++ name)) (first_letter bs h ∙ (λ i. before (sym is i) (letters_in (sym follows i)))) ∙ onto text b (letters_in rest)
