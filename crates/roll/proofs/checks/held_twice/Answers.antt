use Rattle.std.proofs.Common.{◌≡◌, ℕ, ◌<◌, length, get_or, Some, None, MatchOption, Option, rules, sym, ◌∙◌, subst, arith}
use Rattle.std.specs.List.{range_with_len, AllWithin, HoldsAt}
use Rattle.std.proofs.lemmas.Iterator.{first_from_find, YieldsList-from_range}
use Rattle.std.proofs.lemmas.List.FromFn.{get_or-range_with_len, length-range_with_len}
use Rattle.channel_rules.specs.Picks.{FirstAt}
use Rattle.roll.specs.Refusals.{Doubled}
use Rattle.roll.proofs.checks.held_twice.Goals as goal

at_place : (n i : ℕ) → i < n → get_or (range_with_len 0 n) i 0 ≡ i
at_place n i l = get_or-range_with_len 0 n i 0 l ∙ omega arith

-- the first that is found in a range that begins at 0
first : (n : ℕ) (P : ℕ → Type 0) (o : Option ℕ)
    → MatchOption o (AllWithin (λ i. P i → ⊥) (range_with_len 0 n) 0 (length (range_with_len 0 n)))
    (λ x. P x × (i : ℕ) × (i < length (range_with_len 0 n)) × HoldsAt (λ y. y ≡ x) (range_with_len 0 n) i × AllWithin (λ y. P y → ⊥) (range_with_len 0 n) 0 i)
    → FirstAt n P o
first n P None a = λ i l p. a i 0 (omega arith) (omega (arith, length-range_with_len 0 n)) (subst P (sym (at_place n i l)) p)
first n P (Some x) h =
    let i = h.1 in
    let l : i < n = omega (arith, h.2, length-range_with_len 0 n) in
    let e : x ≡ i = sym (h.3 0) ∙ at_place n i l in (
      omega (arith, e, l),
      h.0,
      λ k m p. h.4 k 0 (omega arith) (omega (arith, e, m)) (subst P (sym (at_place n k (omega (arith, e, l, m)))) p),
    )

pub returns : goal.returns
returns c =
    first c.args.count (Doubled c.args.triplets.now) c.find.result
    (first_from_find _ _ c.find.result (Doubled c.args.triplets.now) (λ i. Doubled c.args.triplets.now i → ⊥) c.find.ensures.ran
    (YieldsList-from_range 0 c.args.count c.args.count (search rules) (omega arith)) (λ x q k. search rules) (λ x q k. search rules))
