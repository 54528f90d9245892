-- A name splits in one way only.
use Rattle.std.proofs.Common.{◌≡◌, ℕ, zero, suc, ◌⊎◌, List, [], ◌∷◌, refl, inl, inr, arith}
use Rattle.std.proofs.lemmas.Bool.Decides.{nat_tests}
use Rattle.channel_rules.specs.Names.{Splits, cut}

tail_splits : (b : ℕ) (bs : List ℕ) (n m : ℕ) → (n ≡ suc m) ⊎ ((n ≡ 0) × (m ≡ 0)) → Splits (b ∷ bs) n → Splits bs m
tail_splits b bs n m e h = record {
  within = elim e [ inl p ↦ omega (arith, h.within) | inr p ↦ omega arith ];
  plain = λ k l u d. h.plain (suc k) (elim e [ inl p ↦ omega arith | inr p ↦ omega arith ]) (omega arith) d;
  dotted = λ k s. elim e [ inl p ↦ h.dotted (suc k) (omega arith) | inr p ↦ absurd (omega arith) ];
}

pub splits_cut : (name : List ℕ) (n : ℕ) → Splits name n → n ≡ cut name
splits_cut [] n h = omega (arith, h.within)
splits_cut (b ∷ bs) zero h =
    let i = splits_cut bs zero (tail_splits b bs 0 0 (inr (refl, refl)) h) in
    let p : b ≡ 46 → ⊥ = h.plain 0 (omega arith) (omega arith) in
    grind (arith, nat_tests)
splits_cut (b ∷ bs) (suc zero) h =
    let i = splits_cut bs zero (tail_splits b bs 1 0 (inl refl) h) in
    let p : b ≡ 46 = h.dotted 0 (omega arith) in
    grind (arith, nat_tests)
splits_cut (b ∷ bs) (suc (suc m)) h =
    let i = splits_cut bs (suc m) (tail_splits b bs (suc (suc m)) (suc m) (inl refl) h) in
    grind (arith, nat_tests)
