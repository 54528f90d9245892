-- One element more, for `last_place` and `distinct`; and what `last_place` finds.
use Rattle.std.proofs.Common.{◌≡◌, ℕ, zero, suc, ◌+◌, ◌<◌, Bool, true, false, cond, not, ◌||◌, List, [], ◌∷◌, ◌++◌, map, length, get_or, take, Some, None, filter, Option, sym, refl, ap, ◌∙◌, arith}
use Rattle.std.specs.Option.{option_or, option_map}
use Rattle.std.specs.List.{list_any}
use Rattle.std.proofs.lemmas.List.{take_more, length-take-le, append-nil}
use Rattle.std.proofs.lemmas.List.Elements.{filter-append}
use Rattle.channel_rules.specs.Picks.{last_place, distinct, LastAt}

pub nope : (b : Bool) → b ≡ true → b ≡ false → ⊥
nope b e f = cc

module _ {X : Type 0} (test : X → Bool) where
  pub last_place-push : (xs : List X) (x : X) → last_place test (xs ++ x ∷ []) ≡ cond (test x) (Some (length xs)) (last_place test xs)
  last_place-push [] x = elim (test x) as (λ b. option_or None (cond b (Some zero) None) ≡ cond b (Some 0) None) [ true ↦ refl | false ↦ refl ]
  last_place-push (y ∷ xs) x =
      rw (last_place-push xs x)
      (elim (test x) as (λ b. option_or (option_map suc (cond b (Some (length xs)) (last_place test xs))) (cond (test y) (Some 0) None) ≡ cond b (Some (suc (length xs))) (option_or (option_map suc (last_place test xs)) (cond (test y) (Some 0) None)))
      [ true ↦ refl | false ↦ refl ])

  pub last_place-more : (xs : List X) (i : ℕ) (d : X) → i < length xs → last_place test (take (i + 1) xs) ≡ cond (test (get_or xs i d)) (Some i) (last_place test (take i xs))
  last_place-more xs i d h =
      ap (last_place test) (take_more xs i d h) ∙ last_place-push (take i xs) (get_or xs i d)
      ∙ ap (λ n. cond (test (get_or xs i d)) (Some n) (last_place test (take i xs))) (length-take-le i xs (omega arith))

  -- what `last_place` finds is the last that passes
  pub last_place-is : (xs : List X) (d : X) → LastAt (length xs) (λ k. test (get_or xs k d) ≡ true) (last_place test xs)
  last_place-is [] d = λ i h e. absurd (omega arith)
  last_place-is (x ∷ xs) d = at_cons (last_place test xs) (test x) refl (last_place-is xs d)
    where
      after : (k : ℕ) → ((i : ℕ) → k < i → i < length xs → test (get_or xs i d) ≡ true → ⊥) → (i : ℕ) → suc k < i → i < length (x ∷ xs) → test (get_or (x ∷ xs) i d) ≡ true → ⊥
      after k h zero l u = absurd (omega arith)
      after k h (suc i) l u = h i (omega arith) (omega arith)

      none : ((i : ℕ) → i < length xs → test (get_or xs i d) ≡ true → ⊥) → (i : ℕ) → 0 < i → i < length (x ∷ xs) → test (get_or (x ∷ xs) i d) ≡ true → ⊥
      none h zero l u = absurd (omega arith)
      none h (suc i) l u = h i (omega arith)

      never : test x ≡ false → ((i : ℕ) → i < length xs → test (get_or xs i d) ≡ true → ⊥) → (i : ℕ) → i < length (x ∷ xs) → test (get_or (x ∷ xs) i d) ≡ true → ⊥
      never e h zero u = λ p. nope (test x) p e
      never e h (suc i) u = h i (omega arith)

      at_cons : (o : Option ℕ) (b : Bool) → test x ≡ b → LastAt (length xs) (λ k. test (get_or xs k d) ≡ true) o → LastAt (length (x ∷ xs)) (λ k. test (get_or (x ∷ xs) k d) ≡ true) (option_or (option_map suc o) (cond b (Some zero) None))
      at_cons (Some k) b e h = (omega arith, h.1, after k h.2)
      at_cons None true e h = (omega arith, e, none h)
      at_cons None false e h = never e h

pub list_any-map : {X Y : Type 0} (test : Y → Bool) (f : X → Y) (xs : List X) → list_any test (map f xs) ≡ list_any (λ x. test (f x)) xs
list_any-map test f [] = refl
list_any-map test f (x ∷ xs) = ap (λ b. test (f x) || b) (list_any-map test f xs)

module _ {X : Type 0} (same : X → X → Bool) where
  pub distinct_push : (xs : List X) (x : X) → distinct same (xs ++ x ∷ []) ≡ cond (list_any (λ y. same y x) xs) (distinct same xs) (distinct same xs ++ x ∷ [])
  distinct_push [] x = refl
  distinct_push (y ∷ xs) x = ap (λ l. y ∷ filter (λ z. not (same y z)) l) (distinct_push xs x) ∙ at_cons (list_any (λ z. same z x) xs) (same y x) refl
    where
      test : X → Bool
      test z = not (same y z)

      at_cons : (s b : Bool) → same y x ≡ b
          → y ∷ filter (λ z. not (same y z)) (cond s (distinct same xs) (distinct same xs ++ x ∷ []))
          ≡ cond (b || s) (y ∷ filter (λ z. not (same y z)) (distinct same xs)) ((y ∷ filter (λ z. not (same y z)) (distinct same xs)) ++ x ∷ [])
      at_cons true true e = refl
      at_cons true false e = refl
      at_cons false true e = ap (◌∷◌ y) (filter-append (λ z. not (same y z)) (distinct same xs) (x ∷ []) ∙ simp (e, append-nil))
      at_cons false false e = ap (◌∷◌ y) (filter-append (λ z. not (same y z)) (distinct same xs) (x ∷ []) ∙ simp e)

-- a test that goes by the bytes finds the same without the repeats
module _ {X : Type 0} (same : X → X → Bool) (test : X → Bool) (cong : (x y : X) → same x y ≡ true → test x ≡ test y) where
  list_any-kept : (x : X) → test x ≡ false → (ys : List X) → list_any test (filter (λ y. not (same x y)) ys) ≡ list_any test ys
  list_any-kept x e [] = refl
  list_any-kept x e (y ∷ ys) = at (same x y) refl (list_any-kept x e ys)
    where
      at : (b : Bool) → same x y ≡ b → list_any test (filter (λ z. not (same x z)) ys) ≡ list_any test ys
          → list_any test (cond (not b) (y ∷ filter (λ z. not (same x z)) ys) (filter (λ z. not (same x z)) ys)) ≡ (test y || list_any test ys)
      at true p h = h ∙ sym (ap (λ b. b || list_any test ys) (sym (cong x y p) ∙ e))
      at false p h = ap (λ b. test y || b) h

  pub list_any-distinct : (xs : List X) → list_any test (distinct same xs) ≡ list_any test xs
  list_any-distinct [] = refl
  list_any-distinct (x ∷ xs) = at (test x) refl (list_any-distinct xs)
    where
      at : (b : Bool) → test x ≡ b → list_any test (distinct same xs) ≡ list_any test xs → (b || list_any test (filter (λ y. not (same x y)) (distinct same xs))) ≡ (b || list_any test xs)
      at true p h = refl
      at false p h = list_any-kept x p (distinct same xs) ∙ h
