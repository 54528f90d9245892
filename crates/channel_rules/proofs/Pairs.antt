-- What holds of each two elements of a list, the earlier first.
use Rattle.std.proofs.Common.{◌≡◌, ℕ, zero, suc, ◌<◌, Bool, true, false, cond, not, List, [], ◌∷◌, ◌++◌, length, get_or, Some, None, filter, Option, refl, arith}
use Rattle.std.specs.Option.{option_to_list}
use Rattle.std.specs.List.{flat_map, AllByRecursion as All}
use Rattle.std.proofs.ByRecursion.{All-get_or, all_kept_by, kept_by_passes, All-weaker}
use Rattle.std.proofs.lemmas.Bool.{not-true}
use Rattle.channel_rules.specs.Picks.{distinct}

abbrev pub Pairwise : {X : Type 0} → (X → X → Type 0) → List X → Type 0
Pairwise R [] = Unit {0}
Pairwise R (x ∷ xs) = All (R x) xs × Pairwise R xs

pub pairwise_at : {X : Type 0} (R : X → X → Type 0) (xs : List X) (j k : ℕ) (d : X) → j < k → k < length xs → Pairwise R xs → R (get_or xs j d) (get_or xs k d)
pairwise_at R [] j k d l h p = absurd (omega arith)
pairwise_at R (x ∷ xs) j zero d l h p = absurd (omega arith)
pairwise_at R (x ∷ xs) zero (suc k) d l h p = All-get_or (R x) xs k d (omega arith) p.0
pairwise_at R (x ∷ xs) (suc j) (suc k) d l h p = pairwise_at R xs j k d (omega arith) (omega arith) p.1

pub pairwise_kept : {X : Type 0} (R : X → X → Type 0) (test : X → Bool) (xs : List X) → Pairwise R xs → Pairwise R (filter test xs)
pairwise_kept R test [] p = tt
pairwise_kept R test (x ∷ xs) p =
    elim (test x) as (λ b. Pairwise R (cond b (x ∷ filter test xs) (filter test xs)))
    [ true ↦ (all_kept_by test (R x) xs p.0, pairwise_kept R test xs p.1) | false ↦ pairwise_kept R test xs p.1 ]

-- what is kept once is never the same
pub pairwise_distinct : {X : Type 0} (same : X → X → Bool) (xs : List X) → Pairwise (λ x y. same x y ≡ false) (distinct same xs)
pairwise_distinct same [] = tt
pairwise_distinct same (x ∷ xs) = (
  All-weaker (λ y. not (same x y) ≡ true) (λ y. same x y ≡ false) (λ y e. not-true (same x y) e) _ (kept_by_passes (λ y. not (same x y)) (distinct same xs)),
  pairwise_kept (λ y z. same y z ≡ false) (λ y. not (same x y)) (distinct same xs) (pairwise_distinct same xs),
)

module _ {X Y : Type 0} (f : X → Option Y) where
  -- what holds of each that is found holds of all that are gathered
  pub all_found : (P : X → Type 0) (Q : Y → Type 0) → ((x : X) (y : Y) → P x → f x ≡ Some y → Q y) → (xs : List X) → All P xs → All Q (flat_map (λ x. option_to_list (f x)) xs)
  all_found P Q h [] a = tt
  all_found P Q h (x ∷ xs) a = at_head (f x) refl (all_found P Q h xs a.1)
    where
      at_head : (o : Option Y) → f x ≡ o → All Q (flat_map (λ z. option_to_list (f z)) xs) → All Q (option_to_list o ++ flat_map (λ z. option_to_list (f z)) xs)
      at_head None e r = r
      at_head (Some y) e r = (h x y a.0 e, r)

  pub pairwise_found : (P : X → X → Type 0) (Q : Y → Y → Type 0) → ((x z : X) (y w : Y) → P x z → f x ≡ Some y → f z ≡ Some w → Q y w) → (xs : List X) → Pairwise P xs → Pairwise Q (flat_map (λ x. option_to_list (f x)) xs)
  pairwise_found P Q h [] a = tt
  pairwise_found P Q h (x ∷ xs) a = at_head (f x) refl (pairwise_found P Q h xs a.1)
    where
      at_head : (o : Option Y) → f x ≡ o → Pairwise Q (flat_map (λ z. option_to_list (f z)) xs) → Pairwise Q (option_to_list o ++ flat_map (λ z. option_to_list (f z)) xs)
      at_head None e r = r
      at_head (Some y) e r = (all_found (P x) (Q y) (λ z w p g. h x z y w p e g) xs a.0, r)
