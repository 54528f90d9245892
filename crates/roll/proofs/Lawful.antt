-- The laws of the definitions.
use Rattle.std.proofs.Common.{◌≡◌, ℕ, zero, suc, ◌+◌, ◌*◌, ◌<◌, ◌≤◌, Bool, true, false, cond, not, ◌&&◌, eqb, List, [], ◌∷◌, map, length, get_or, Some, None, Decides, filter, Option, sym, refl, ap, ◌∙◌, subst, inl, inr, mul-le-mul_right, suc-mul, arith, eq-eqb, true-eqb}
use native.Mathlib.Nat.{le-max_right}
use Rattle.std.specs.Char.{to_ascii_lowercase}
use Rattle.std.specs.List.{AllByRecursion as All, list_any}
use Rattle.std.proofs.lemmas.List.{get_or_default}
use Rattle.std.proofs.lemmas.List.Folds.{Any-from_list_any, list_any_at}
use Rattle.std.specs.Str.{bytes_eq}
use Rattle.std.proofs.ByRecursion.{All-weaker, kept_by_passes}
use Rattle.std.proofs.lemmas.Slice.Eq.{bytes_eq-Decides}
use Rattle.std.proofs.lemmas.Bool.{cases_lt}
use Rattle.std.proofs.lemmas.Bool.Decides.{Decides-and}
use Rattle.std.proofs.lemmas.Grind.{div_ceil_times}
use Rattle.channel_rules.specs.declared.records.ChannelDescription.{ChannelDescription}
use Rattle.channel_rules.specs.declared.records.Rule.{Rule}
use Rattle.channel_rules.specs.declared.records.SampleType.{SampleType}
use Rattle.channel_rules.specs.declared.records.SampleType.TheVariants.{U32, F16, F32}
use Rattle.channel_rules.specs.Names.{bytes, Splits, cut, prefix_in}
use Rattle.channel_rules.specs.Rules.{same_type, same_name, matched, is_for}
use Rattle.channel_rules.specs.Picks.{LastAt, last_place, distinct}
use Rattle.channel_rules.specs.Triplets.{no_channel, no_rule, is_slot, writes, filled_by, holder}
use Rattle.channel_rules.specs.Sides.{effective, side, LeastCover}
use Rattle.roll.specs.Laws.{Equal, Fills, Before, FirstAppearances, Laws}
use Rattle.channel_rules.proofs.Pairs.{Pairwise, pairwise_at, pairwise_kept}
use Rattle.channel_rules.proofs.Picks.{nope, list_any-distinct, last_place-is}

-- splitting
module _ (b : ℕ) (bs : List ℕ) where
  later : (n : ℕ) → ((k : ℕ) → n ≤ k → k < length bs → get_or bs k 0 ≡ 46 → ⊥) → (k : ℕ) → suc n ≤ k → k < length (b ∷ bs) → get_or (b ∷ bs) k 0 ≡ 46 → ⊥
  later n h zero l u e = omega arith
  later n h (suc k) l u e = h k (omega arith) (omega arith) e

  all : (b ≡ 46 → ⊥) → ((k : ℕ) → 0 ≤ k → k < length bs → get_or bs k 0 ≡ 46 → ⊥) → (k : ℕ) → 0 ≤ k → k < length (b ∷ bs) → get_or (b ∷ bs) k 0 ≡ 46 → ⊥
  all n h zero l u e = n e
  all n h (suc k) l u e = h k (omega arith) (omega arith) e

  dots : (n : ℕ) → (n ≡ 0 → b ≡ 46) → ((k : ℕ) → k + 1 ≡ n → get_or bs k 0 ≡ 46) → (k : ℕ) → k + 1 ≡ suc n → get_or (b ∷ bs) k 0 ≡ 46
  dots n h d zero e = h (omega arith)
  dots n h d (suc k) e = d k (omega arith)

  split_more : (n : ℕ) (x y : Bool) → eqb n 0 ≡ x → eqb b 46 ≡ y → Splits bs n → Splits (b ∷ bs) (cond x (cond y 1 0) (suc n))
  split_more n true true p q h =
      let z : n ≡ 0 = true-eqb n 0 (sym p) in
      record {
        within = omega arith;
        plain = later 0 (subst (λ m. (k : ℕ) → m ≤ k → k < length bs → get_or bs k 0 ≡ 46 → ⊥) z h.plain);
        dotted = dots 0 (λ _. true-eqb b 46 (sym q)) (λ k e. absurd (omega arith));
      }
  split_more n true false p q h =
      let z : n ≡ 0 = true-eqb n 0 (sym p) in
      record {
        within = omega arith;
        plain = all (λ e. nope (eqb b 46) (eq-eqb b 46 e) q) (subst (λ m. (k : ℕ) → m ≤ k → k < length bs → get_or bs k 0 ≡ 46 → ⊥) z h.plain);
        dotted = λ k e. absurd (omega arith);
      }
  split_more n false y p q h =
      record { within = omega (arith, h.within); plain = later n h.plain; dotted = dots n (λ z. absurd (nope (eqb n 0) (eq-eqb n 0 z) p)) h.dotted }

splits : (name : List ℕ) → Splits name (cut name)
splits [] = record { within = omega arith; plain = λ k l u e. absurd (omega arith); dotted = λ k e. absurd (omega arith) }
splits (b ∷ bs) = split_more b bs (cut bs) (eqb (cut bs) 0) (eqb b 46) refl refl (splits bs)

-- matching
alike : {P : Type 0} → P → Decides true P
alike p = ((λ e. p), (λ h. refl))

unlike : {P : Type 0} → (P → ⊥) → Decides false P
unlike n = ((λ e. absurd (nope false e refl)), (λ h. absurd (n h)))

same_type-law : (t u : SampleType) → Decides (same_type t u) (t ≡ u)
same_type-law U32 U32 = alike refl
same_type-law U32 F16 = unlike (λ e. cc)
same_type-law U32 F32 = unlike (λ e. cc)
same_type-law F16 U32 = unlike (λ e. cc)
same_type-law F16 F16 = alike refl
same_type-law F16 F32 = unlike (λ e. cc)
same_type-law F32 U32 = unlike (λ e. cc)
same_type-law F32 F16 = unlike (λ e. cc)
same_type-law F32 F32 = alike refl

same_name-law : (ignore : Bool) (a b : List ℕ) → Decides (same_name ignore a b) (cond ignore (map to_ascii_lowercase a ≡ map to_ascii_lowercase b) (a ≡ b))
same_name-law true a b = bytes_eq-Decides (map to_ascii_lowercase a) (map to_ascii_lowercase b)
same_name-law false a b = bytes_eq-Decides a b

matches : (text suffix : List ℕ) (type : SampleType) (r : Rule) → Decides (matched text suffix type r) (Equal text suffix type r)
matches text suffix type r =
    Decides-and (same_type r.sample_type type) (same_name r.case_insensitive suffix (bytes text r.suffix))
    (same_type-law r.sample_type type) (same_name-law r.case_insensitive suffix (bytes text r.suffix))

-- a last place under a test is one under what the test decides
last_decided : (n : ℕ) (P Q : ℕ → Type 0) → ((i : ℕ) → P i → Q i) → ((i : ℕ) → Q i → P i) → (o : Option ℕ) → LastAt n P o → LastAt n Q o
last_decided n P Q f g None l = λ i h q. l i h (g i q)
last_decided n P Q f g (Some k) l = (l.0, f k l.1, λ i h u q. l.2 i h u (g i q))

list_any-index : {X : Type 0} (test : X → Bool) (xs : List X) (d : X) → list_any test xs ≡ true → (k : ℕ) × (k < length xs) × (test (get_or xs k d) ≡ true)
list_any-index test xs d e =
    let m = Any-from_list_any test xs e in
    (m.0, m.2, ap test (get_or_default xs m.0 d m.1 m.2 ∙ m.3) ∙ m.4)

slot_decides : (slot : ℕ) (o : Option ℕ) → Decides (is_slot slot o) (o ≡ Some slot)
slot_decides slot None = unlike (λ e. cc)
slot_decides slot (Some own) = ((λ e. ap Some (true-eqb own slot (sym e))), (λ e. eq-eqb own slot (let z : own ≡ slot = cc in z)))

module _ (text : List ℕ) (rules : List Rule) (prefix : List ℕ) (slot : ℕ) (c : ChannelDescription) where
  abbrev test : Rule → Bool
  test r = is_for text c r && is_slot slot r.csc_index

  rule_decides : (r : Rule) → Decides (test r) ((is_for text c r ≡ true) × (r.csc_index ≡ Some slot))
  rule_decides r = Decides-and (is_for text c r) (is_slot slot r.csc_index) ((λ e. e), (λ e. e)) (slot_decides slot r.csc_index)

  fills : Decides (filled_by text rules prefix slot c) (Fills text rules prefix slot c)
  fills =
      Decides-and (bytes_eq (prefix_in text c) prefix) (writes text rules slot c) (bytes_eq-Decides (prefix_in text c) prefix) (
        (λ e. let r = list_any-index test rules no_rule e in let d = (rule_decides (get_or rules r.0 no_rule)).0 r.2 in (r.0, r.1, d.0, d.1)),
        (λ h. list_any_at test rules h.0 no_rule h.1 ((rule_decides (get_or rules h.0 no_rule)).1 (h.2, h.3))),
      )

-- first appearance
pairwise_weaker : {X : Type 0} (R S : X → X → Type 0) (P : X → Type 0) → ((y z : X) → P z → R y z → S y z) → (xs : List X) → All P xs → Pairwise R xs → Pairwise S xs
pairwise_weaker R S P h [] a p = tt
pairwise_weaker R S P h (x ∷ xs) a p = (both xs a.1 p.0, pairwise_weaker R S P h xs a.1 p.1)
  where
    both : (ys : List _) → All P ys → All (R x) ys → All (S x) ys
    both [] b q = tt
    both (y ∷ ys) b q = (h x y b.0 q.0, both ys b.1 q.1)

differs : (x z : List ℕ) → not (bytes_eq x z) ≡ true → x ≡ z → ⊥
differs x z n e = nope (not (bytes_eq x z)) n (ap not ((bytes_eq-Decides x z).1 e))

in_order : (xs : List (List ℕ)) → Pairwise (Before xs) (distinct bytes_eq xs)
in_order [] = tt
in_order (x ∷ xs) = (All-weaker (λ z. not (bytes_eq x z) ≡ true) (Before (x ∷ xs) x) first kept passes, pairwise_weaker (Before xs) (Before (x ∷ xs)) (λ z. not (bytes_eq x z) ≡ true) later kept passes (pairwise_kept (Before xs) (λ z. not (bytes_eq x z)) (distinct bytes_eq xs) (in_order xs)))
  where
    kept : List (List ℕ)
    kept = filter (λ z. not (bytes_eq x z)) (distinct bytes_eq xs)

    passes : All (λ z. not (bytes_eq x z) ≡ true) kept
    passes = kept_by_passes (λ z. not (bytes_eq x z)) (distinct bytes_eq xs)

    first : (z : List ℕ) → not (bytes_eq x z) ≡ true → Before (x ∷ xs) x z
    first z n = (0, omega arith, refl, up_to_0)
      where
        up_to_0 : (j : ℕ) → j ≤ 0 → get_or (x ∷ xs) j [] ≡ z → ⊥
        up_to_0 zero l e = differs x z n e
        up_to_0 (suc j) l e = omega arith

    later : (y z : List ℕ) → not (bytes_eq x z) ≡ true → Before xs y z → Before (x ∷ xs) y z
    later y z n b = (suc b.0, omega (arith, b.1), b.2, up_to)
      where
        up_to : (j : ℕ) → j ≤ suc b.0 → get_or (x ∷ xs) j [] ≡ z → ⊥
        up_to zero l e = differs x z n e
        up_to (suc j) l e = b.3 j (omega arith) e

first_appearances : (names : List (List ℕ)) → FirstAppearances names (distinct bytes_eq names)
first_appearances names = record {
  whole = λ i h. found (get_or names i []) names (distinct bytes_eq names) (sym (kept (get_or names i []))) (i, h, refl);
  only = λ k h. found (get_or (distinct bytes_eq names) k []) (distinct bytes_eq names) names (kept (get_or (distinct bytes_eq names) k [])) (k, h, refl);
  ordered = λ j k l h. pairwise_at (Before names) (distinct bytes_eq names) j k [] l h (in_order names);
}
  where
    kept : (y : List ℕ) → list_any (λ p. bytes_eq p y) (distinct bytes_eq names) ≡ list_any (λ p. bytes_eq p y) names
    kept y = list_any-distinct bytes_eq (λ p. bytes_eq p y) (λ a b e. ap (λ p. bytes_eq p y) ((bytes_eq-Decides a b).0 e)) names

    -- what stands in one list stands in another that passes the same tests
    found : (y : List ℕ) (xs ys : List (List ℕ)) → list_any (λ p. bytes_eq p y) xs ≡ list_any (λ p. bytes_eq p y) ys
        → (i : ℕ) × (i < length xs) × (get_or xs i [] ≡ y) → (k : ℕ) × (k < length ys) × (get_or ys k [] ≡ y)
    found y xs ys e h =
        let r = list_any-index (λ p. bytes_eq p y) ys [] (sym e ∙ list_any_at (λ p. bytes_eq p y) xs h.0 [] h.1 ((bytes_eq-Decides (get_or xs h.0 []) y).1 h.2)) in
        (r.0, r.1, (bytes_eq-Decides (get_or ys r.0 []) y).0 r.2)

-- sides
least_cover : (n step : ℕ) → LeastCover n step (side n step)
least_cover n step =
    let d = effective step in
    let c = div_ceil_times n d (omega (arith, le-max_right step 1)) in
    record {
      covers = c.0;
      least = λ m h. elim (cases_lt m (side n step)) [
        | inl l ↦ (let more : suc m * d ≤ side n step * d = mul-le-mul_right d (omega arith) in omega (arith, suc-mul m d, c.1))
        | inr g ↦ g
      ];
    }

pub laws : Laws
laws = record {
  splits = splits;
  matches = matches;
  schemes = λ text rules c. (last_place (is_for text c) rules, last_place-is (is_for text c) rules no_rule, refl);
  holders = λ text channels rules prefix slot.
      last_decided (length channels) (λ i. filled_by text rules prefix slot (get_or channels i no_channel) ≡ true) (λ i. Fills text rules prefix slot (get_or channels i no_channel))
      (λ i. (fills text rules prefix slot (get_or channels i no_channel)).0) (λ i. (fills text rules prefix slot (get_or channels i no_channel)).1)
      (holder text channels rules prefix slot) (last_place-is (filled_by text rules prefix slot) channels no_channel);
  order = first_appearances;
  sides = least_cover;
}
