-- One channel more in the prefix map.
use Rattle.std.proofs.Common.{◌≡◌, ℕ, zero, suc, ◌+◌, ◌<◌, Bool, true, false, cond, ◌&&◌, ◌≢◌, List, [], ◌∷◌, ◌++◌, map, length, get_or, take, set, Some, None, Option, sym, refl, ap, ◌∙◌, subst, inl, inr, arith}
use Rattle.std.specs.Option.{option_map, option_or}
use Rattle.std.specs.List.{AllByRecursion as All, list_any}
use Rattle.std.proofs.lemmas.List.Folds.{list_any_at, list_any_none}
use Rattle.std.proofs.lemmas.List.Elements.{All-from_get_or as each-from_get_or}
use Rattle.std.specs.Str.{bytes_eq}
use Rattle.std.proofs.lemmas.List.{get_or_default, map_more, map-append, map-set, get_or-map, length-map, length-set, get_or-set_same, get_or-set_other, ext_get_or}
use Rattle.std.proofs.ByRecursion.{All-get_or, All-from_get_or, All-weaker, All-set, All-push}
use Rattle.std.proofs.lemmas.Slice.Eq.{bytes_eq-Decides}
use Rattle.std.proofs.lemmas.Bool.{cases_order, cases_eq, false_from_ne_true, or_parts}
use Rattle.channel_rules.specs.declared.records.ChannelDescription.{ChannelDescription}
use Rattle.channel_rules.specs.declared.records.Rule.{Rule}
use Rattle.channel_rules.specs.declared.prefix_map.Slots.{Slots}
use Rattle.channel_rules.specs.declared.prefix_map.KnownPrefix.{KnownPrefix}
use Rattle.channel_rules.specs.Names.{prefix_in}
use Rattle.channel_rules.specs.Picks.{last_place, distinct}
use Rattle.channel_rules.specs.Triplets.{no_channel, writes, filled_by, holder, prefixes_in}
use Rattle.channel_rules.specs.PrefixMap.{no_slots, no_known, stamp, stamped, slots_of, known_bytes, map_in}
use Rattle.channel_rules.proofs.Picks.{nope, list_any-map, list_any-distinct, last_place-more, distinct_push}
use Rattle.channel_rules.proofs.Pairs.{pairwise_at, pairwise_distinct}

none_any : {X : Type 0} (test : X → Bool) (xs : List X) → list_any test xs ≡ false → All (λ x. test x ≡ false) xs
none_any test [] e = tt
none_any test (x ∷ xs) e = let p = or_parts (test x) (list_any test xs) e in (p.0, none_any test xs p.1)

map_same : {X Y : Type 0} (f g : X → Y) (xs : List X) → All (λ x. f x ≡ g x) xs → map f xs ≡ map g xs
map_same f g [] a = refl
map_same f g (x ∷ xs) a = ap (λ y. y ∷ map f xs) a.0 ∙ ap (◌∷◌ (g x)) (map_same f g xs a.1)

last_place-none : {X : Type 0} (test : X → Bool) (xs : List X) → All (λ x. test x ≡ false) xs → last_place test xs ≡ None
last_place-none test [] a = refl
last_place-none test (x ∷ xs) a =
    ap (λ o. option_or (option_map suc o) (cond (test x) (Some zero) None)) (last_place-none test xs a.1)
    ∙ ap (λ b. option_or None (cond b (Some zero) None)) a.0

differs : (p q : List ℕ) → (p ≡ q → ⊥) → bytes_eq p q ≡ false
differs p q n = false_from_ne_true (bytes_eq p q) (λ h. n ((bytes_eq-Decides p q).0 h))

turned : (p q : List ℕ) → bytes_eq p q ≡ false → bytes_eq q p ≡ false
turned p q e = differs q p (λ s. nope (bytes_eq p q) ((bytes_eq-Decides p q).1 (sym s)) e)

three-slots : (b u v w : Bool) (i : ℕ) (s t : Slots) → t.r ≡ cond (b && u) (Some i) s.r → t.g ≡ cond (b && v) (Some i) s.g → t.b ≡ cond (b && w) (Some i) s.b
    → t ≡ cond b (stamp u v w i s) s
three-slots true u v w i s t e f g = let x : t ≡ record { r = t.r; g = t.g; b = t.b } = refl in cc
three-slots false u v w i s t e f g = let x : t ≡ record { r = t.r; g = t.g; b = t.b } = refl in let y : record { r = s.r; g = s.g; b = s.b } ≡ s = refl in cc (e, f, g, x, y)

-- the first channels of known prefixes stay below n
abbrev Firsts : ℕ → List KnownPrefix → Type 0
Firsts n ks = (k : ℕ) → k < length ks → (get_or ks k no_known).first < n

to_all : (n : ℕ) (ks : List KnownPrefix) → Firsts n ks → All (λ k. k.first < n) ks
to_all n ks f = All-from_get_or (λ k. k.first < n) ks no_known f

from_all : (n : ℕ) (ks : List KnownPrefix) → All (λ k. k.first < n) ks → Firsts n ks
from_all n ks a k l = All-get_or (λ k. k.first < n) ks k no_known l a

-- of a known prefix by its place
pub first_at : (n : ℕ) (ks : List KnownPrefix) → Firsts n ks → (x : KnownPrefix) (k : ℕ) → k < length ks → x ≡ get_or ks k x → x.first < n
first_at n ks f x k l e = subst (λ (y : KnownPrefix). y.first < n) (sym (e ∙ get_or_default ks k x no_known l)) (f k l)

pub firsts_set : (n : ℕ) (ks : List KnownPrefix) (at : ℕ) (new : KnownPrefix) → Firsts n ks → new.first < n → Firsts n (set ks at new)
firsts_set n ks at new f l = from_all n (set ks at new) (All-set (λ k. k.first < n) ks at new l (to_all n ks f))

pub firsts_push : (n : ℕ) (ks : List KnownPrefix) (new : KnownPrefix) → Firsts n ks → new.first < n → Firsts n (ks ++ new ∷ [])
firsts_push n ks new f l = from_all n (ks ++ new ∷ []) (All-push (λ k. k.first < n) ks new (to_all n ks f) l)

module _ (text : List ℕ) (chs : List ChannelDescription) (rules : List Rule) (i : ℕ) (h : i < length chs) where
  abbrev c : ChannelDescription
  c = get_or chs i no_channel

  abbrev own : List ℕ
  own = prefix_in text (get_or chs i no_channel)

  abbrev D : List (List ℕ)
  D = prefixes_in text (take i chs)

  abbrev slots_by : ℕ → List ℕ → Slots
  slots_by n p = slots_of text (take n chs) rules p

  abbrev g : ℕ → List ℕ → List ℕ × Slots
  g n p = (p, slots_of text (take n chs) rules p)

  abbrev test : List ℕ → Bool
  test p = bytes_eq p own

  abbrev view : KnownPrefix → List ℕ × Slots
  view k = (known_bytes text chs k, k.slots)

  abbrev Views : List KnownPrefix → Type 0
  Views ks = map view ks ≡ map (g i) D

  slots_more : (p : List ℕ) → slots_by (i + 1) p ≡ cond (bytes_eq own p) (stamped text rules c i (slots_by i p)) (slots_by i p)
  slots_more p = three-slots (bytes_eq own p) (writes text rules 0 c) (writes text rules 1 c) (writes text rules 2 c) i (slots_by i p) (slots_by (i + 1) p)
      (last_place-more (filled_by text rules p 0) chs i no_channel h) (last_place-more (filled_by text rules p 1) chs i no_channel h) (last_place-more (filled_by text rules p 2) chs i no_channel h)

  slots_at : (p : List ℕ) (b : Bool) → bytes_eq own p ≡ b → slots_by (i + 1) p ≡ cond b (stamped text rules c i (slots_by i p)) (slots_by i p)
  slots_at p b e = slots_more p ∙ ap (λ x. cond x (stamped text rules c i (slots_by i p)) (slots_by i p)) e

  cong : (x y : List ℕ) → bytes_eq x y ≡ true → test x ≡ test y
  cong x y e = ap test ((bytes_eq-Decides x y).0 e)

  list_more : (b : Bool) → list_any test D ≡ b → prefixes_in text (take (i + 1) chs) ≡ cond b D (D ++ own ∷ [])
  list_more b e =
      ap (distinct bytes_eq) (map_more (prefix_in text) chs i no_channel h)
      ∙ distinct_push bytes_eq (map (prefix_in text) (take i chs)) own
      ∙ ap (λ x. cond x D (D ++ own ∷ [])) (sym (list_any-distinct bytes_eq test cong (map (prefix_in text) (take i chs))) ∙ e)

  long : (ks : List KnownPrefix) → Views ks → length ks ≡ length D
  long ks m = sym (length-map ks view) ∙ ap length m ∙ length-map D (g i)

  view_at : (ks : List KnownPrefix) → Views ks → (k : ℕ) → k < length ks → view (get_or ks k no_known) ≡ g i (get_or D k [])
  view_at ks m k l =
      sym (get_or-map view ks k no_known ([], no_slots) l) ∙ ap (λ x. get_or x k ([], no_slots)) m
      ∙ get_or-map (g i) D k [] ([], no_slots) (omega (arith, long ks m))

  -- a new prefix is put last
  pub met_new : (ks : List KnownPrefix) → Views ks → ((k : ℕ) → k < length ks → known_bytes text chs (get_or ks k no_known) ≡ own → ⊥)
      → map view (ks ++ record { first = i; slots = stamped text rules c i no_slots } ∷ []) ≡ map_in text (take (i + 1) chs) rules
  met_new ks m e =
      let fails : (k : ℕ) → k < length D → test (get_or D k []) ≡ false = λ k l.
      let in' : k < length ks = omega (arith, long ks m) in
      differs (get_or D k []) own (λ s. e k in' (ap (λ v. v.0) (view_at ks m k in') ∙ s)) in
      let none : All (λ p. test p ≡ false) D = All-from_get_or (λ p. test p ≡ false) D [] fails in
      let lone = list_any_none test D (each-from_get_or (λ p. test p ≡ false) D [] fails) in
      let far = none_any (λ x. bytes_eq (prefix_in text x) own) (take i chs) (sym (list_any-map test (prefix_in text) (take i chs)) ∙ sym (list_any-distinct bytes_eq test cong (map (prefix_in text) (take i chs))) ∙ lone) in
      let empty : (k : ℕ) → holder text (take i chs) rules own k ≡ None = λ k. last_place-none (filled_by text rules own k) (take i chs)
      (All-weaker (λ x. bytes_eq (prefix_in text x) own ≡ false) (λ x. filled_by text rules own k x ≡ false) (λ x q. ap (λ b. b && writes text rules k x) q) (take i chs) far) in
      let others : map (g (i + 1)) D ≡ map (g i) D = map_same (g (i + 1)) (g i) D
      (All-weaker (λ p. test p ≡ false) (λ p. g (i + 1) p ≡ g i p) (λ p q. ap (λ s. (p, s)) (slots_at p false (turned p own q))) D none) in
      let last : g (i + 1) own ≡ (own, stamped text rules c i no_slots) =
      ap (λ s. (own, s)) (slots_at own true ((bytes_eq-Decides own own).1 refl) ∙ ap (stamped text rules c i) (all_three (empty 0) (empty 1) (empty 2))) in
      map-append view ks (record { first = i; slots = stamped text rules c i no_slots } ∷ [])
      ∙ ap (λ l. l ++ (own, stamped text rules c i no_slots) ∷ []) (m ∙ sym others)
      ∙ ap (λ v. map (g (i + 1)) D ++ v ∷ []) (sym last)
      ∙ sym (map-append (g (i + 1)) D (own ∷ []))
      ∙ ap (map (g (i + 1))) (sym (list_more false lone))
    where
      all_three : {r s t : Option ℕ} → r ≡ None → s ≡ None → t ≡ None → ◌≡◌ {A = Slots} (record { r = r; g = s; b = t }) no_slots
      all_three x y z = cc

  -- a known one is written at its place
  pub met_old : (ks : List KnownPrefix) → Views ks → (at : ℕ) → at < length ks → known_bytes text chs (get_or ks at no_known) ≡ own
      → map view (set ks at (record { first = (get_or ks at no_known).first; slots = stamped text rules c i (get_or ks at no_known).slots })) ≡ map_in text (take (i + 1) chs) rules
  met_old ks m at a e =
      let inside : at < length D = omega (arith, long ks m) in
      let is_own : get_or D at [] ≡ own = sym (ap (λ v. v.0) (view_at ks m at a)) ∙ e in
      let passes : test (get_or D at []) ≡ true = (bytes_eq-Decides (get_or D at []) own).1 is_own in
      let new : KnownPrefix = record { first = (get_or ks at no_known).first; slots = stamped text rules c i (get_or ks at no_known).slots } in
      let here : view new ≡ g (i + 1) (get_or D at []) =
      ap (λ v. (v.0, stamped text rules c i v.1)) (view_at ks m at a)
      ∙ ap (λ s. (get_or D at [], s)) (sym (slots_at (get_or D at []) true ((bytes_eq-Decides own (get_or D at [])).1 (sym is_own)))) in
      let once = pairwise_distinct bytes_eq (map (prefix_in text) (take i chs)) in
      let apart : (j : ℕ) → j < length D → j ≢ at → bytes_eq own (get_or D j []) ≡ false = λ j l n.
      elim (cases_order j at) [
        | inl q ↦ absurd (n q)
        | inr q ↦ elim q [
          | inl b ↦ turned (get_or D j []) own (subst (λ p. bytes_eq (get_or D j []) p ≡ false) is_own (pairwise_at (λ x y. bytes_eq x y ≡ false) D j at [] b inside once))
          | inr b ↦ subst (λ p. bytes_eq p (get_or D j []) ≡ false) is_own (pairwise_at (λ x y. bytes_eq x y ≡ false) D at j [] b l once)
        ]
      ] in
      let lengths : length (set (map (g i) D) at (view new)) ≡ length (map (g (i + 1)) D) = length-set (map (g i) D) at (view new) ∙ length-map D (g i) ∙ sym (length-map D (g (i + 1))) in
      map-set view ks at new ∙ ap (λ l. set l at (view new)) m
      ∙ ext_get_or ([], no_slots) (set (map (g i) D) at (view new)) (map (g (i + 1)) D) lengths
      (λ j l. let k : j < length D = omega (arith, lengths, length-map D (g (i + 1))) in
      elim (cases_eq j at) [
        | inl q ↦ ap (λ n. get_or (set (map (g i) D) at (view new)) n ([], no_slots)) q
            ∙ get_or-set_same (map (g i) D) at (view new) ([], no_slots) (omega (arith, length-map D (g i)))
            ∙ here ∙ sym (get_or-map (g (i + 1)) D at [] ([], no_slots) inside) ∙ ap (λ n. get_or (map (g (i + 1)) D) n ([], no_slots)) (sym q)
        | inr n ↦ get_or-set_other (map (g i) D) at j (view new) ([], no_slots) n
            ∙ get_or-map (g i) D j [] ([], no_slots) k
            ∙ ap (λ s. (get_or D j [], s)) (sym (slots_at (get_or D j []) false (apart j k n)))
            ∙ sym (get_or-map (g (i + 1)) D j [] ([], no_slots) k)
      ])
      ∙ ap (map (g (i + 1))) (sym (list_more true (list_any_at test D at [] inside passes)))
