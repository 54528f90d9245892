-- The first and the last of a list that pass a test, and a list without its repeats.
use Rattle.std.specs.Prelude.{ℕ, suc, ◌<◌, Bool, cond, not, List, [], ◌∷◌, Some, None, filter, Option}
use Rattle.std.specs.Option.{option_or, option_map}

-- the first place below n at which P holds, or None where it holds at none
abbrev pub FirstAt : ℕ → (ℕ → Type 0) → Option ℕ → Type 0
FirstAt n P None = (i : ℕ) → i < n → P i → ⊥
FirstAt n P (Some k) = (k < n) × P k × ((i : ℕ) → i < k → P i → ⊥)

-- the last place below n at which P holds, or None where it holds at none
abbrev pub LastAt : ℕ → (ℕ → Type 0) → Option ℕ → Type 0
LastAt n P None = (i : ℕ) → i < n → P i → ⊥
LastAt n P (Some k) = (k < n) × P k × ((i : ℕ) → k < i → i < n → P i → ⊥)

-- the place of the last that passes
abbrev pub last_place : {X : Type 0} → (X → Bool) → List X → Option ℕ
last_place test [] = None
last_place test (x ∷ xs) = option_or (option_map suc (last_place test xs)) (cond (test x) (Some 0) None)

-- each where it appears first, by a test of equality
abbrev pub distinct : {X : Type 0} → (X → X → Bool) → List X → List X
distinct same [] = []
distinct same (x ∷ xs) = x ∷ filter (λ y. not (same x y)) (distinct same xs)
