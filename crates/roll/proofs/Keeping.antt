-- What classifying lists is what every roll keeps.
use Rattle.std.proofs.Common.{◌≡◌, ℕ, zero, suc, ◌<◌, ◌≤◌, Bool, true, false, cond, ◌&&◌, List, [], ◌∷◌, map, length, get_or, Some, None, Option, sym, refl, ap, ◌∙◌, subst, inl, inr, le-mul_of_pos_right, arith}
use native.Mathlib.Nat.{le-max_right}
use Rattle.std.specs.List.{AllByRecursion as All}
use Rattle.std.specs.Str.{bytes_eq}
use Rattle.std.proofs.lemmas.List.{length-map, get_or-map}
use Rattle.std.proofs.ByRecursion.{All-get_or}
use Rattle.std.proofs.lemmas.Slice.Eq.{bytes_eq-Decides}
use Rattle.std.proofs.lemmas.Bool.Decides.{nat_tests}
use Rattle.std.proofs.lemmas.Bool.{cases_order}
use Rattle.channel_rules.specs.declared.records.ChannelDescription.{ChannelDescription}
use Rattle.channel_rules.specs.declared.records.ChannelInfo.{ChannelInfo}
use Rattle.channel_rules.specs.declared.records.IntegerBounds.{IntegerBounds}
use Rattle.channel_rules.specs.declared.records.Rule.{Rule}
use Rattle.channel_rules.specs.declared.records.Triplet.{Triplet}
use Rattle.channel_rules.specs.Names.{prefix_in}
use Rattle.channel_rules.specs.Triplets.{no_channel, no_info, no_triplet, is_lossy, holder, lossy_at, same_steps, go_together, three, prefixes_in, triplet_of, triplets_in}
use Rattle.channel_rules.specs.Sides.{side, info_in}
use Rattle.roll.specs.Refusals.{Twice, Doubled}
use Rattle.roll.specs.Kept.{held, Sides, Alike, Members, Apart}
use Rattle.channel_rules.specs.Picks.{LastAt}
use Rattle.roll.specs.Laws.{Fills}
use Rattle.roll.proofs.Lawful.{laws}
use Rattle.channel_rules.proofs.Pairs.{Pairwise, pairwise_at, pairwise_distinct, all_found, pairwise_found}
use Rattle.channel_rules.proofs.Picks.{nope}

side-le : (n step : ℕ) → side n step ≤ n
side-le n step =
    (laws.sides n step).least n (le-mul_of_pos_right n (omega (arith, le-max_right step 1)))

five : (a b c d e : Bool) → (a && b && c && d && e) ≡ true → (a ≡ true) × (b ≡ true) × (c ≡ true) × (d ≡ true) × (e ≡ true)
five a b c d e h = (grind arith, grind arith, grind arith, grind arith, grind arith)

-- what a triplet that forms is made of
record Formed (test : ℕ → ℕ → ℕ → Bool) (a b c : Option ℕ) (t : Triplet) : Type 0 where
  first : a ≡ Some t.r
  second : b ≡ Some t.g
  third : c ≡ Some t.b
  passes : test t.r t.g t.b ≡ true

formed : (test : ℕ → ℕ → ℕ → Bool) (a b c : Option ℕ) (t : Triplet) → three test a b c ≡ Some t → Formed test a b c t
formed test None b c t e = absurd cc
formed test (Some i) None c t e = absurd cc
formed test (Some i) (Some j) None t e = absurd cc
formed test (Some i) (Some j) (Some k) t e = at (test i j k) refl e
  where
    at : (b : Bool) → test i j k ≡ b → cond b (Some (record { r = i; g = j; b = k })) None ≡ Some t → Formed test (Some i) (Some j) (Some k) t
    at true p q =
        let s : record { r = i; g = j; b = k } ≡ t = cc in
        subst (Formed test (Some i) (Some j) (Some k)) s (record { first = refl; second = refl; third = refl; passes = p })
    at false p q = absurd cc

module _ (text : List ℕ) (chs : List ChannelDescription) (rules : List Rule) where
  abbrev goes : ℕ → ℕ → ℕ → Bool
  goes = go_together text chs rules

  -- a holder lies in the list, and has the prefix
  record Holds (prefix : List ℕ) (i : ℕ) : Type 0 where
    within : i < length chs
    prefixed : prefix_in text (get_or chs i no_channel) ≡ prefix

  holds : (prefix : List ℕ) (slot i : ℕ) → holder text chs rules prefix slot ≡ Some i → Holds prefix i
  holds prefix slot i e =
      let h = subst (LastAt (length chs) (λ k. Fills text rules prefix slot (get_or chs k no_channel))) e (laws.holders text chs rules prefix slot) in
      record { within = h.0; prefixed = h.1.0 }

  -- what a triplet of a prefix holds
  record Built (prefix : List ℕ) (t : Triplet) : Type 0 where
    in_its_slot : (slot : ℕ) → Holds prefix (held t slot)
    passes : goes t.r t.g t.b ≡ true

  built : (prefix : List ℕ) (t : Triplet) → triplet_of text chs rules prefix ≡ Some t → Built prefix t
  built prefix t e =
      let f = formed goes (holder text chs rules prefix 0) (holder text chs rules prefix 1) (holder text chs rules prefix 2) t e in
      record { in_its_slot = by_slot (holds prefix 0 _ f.first) (holds prefix 1 _ f.second) (holds prefix 2 _ f.third); passes = f.passes }
    where
      by_slot : Holds prefix t.r → Holds prefix t.g → Holds prefix t.b → (slot : ℕ) → Holds prefix (held t slot)
      by_slot x y z zero = x
      by_slot x y z (suc zero) = y
      by_slot x y z (suc (suc slot)) = z

  -- triplets of two prefixes share no channel
  abbrev Strange : Triplet → Triplet → Type 0
  Strange t u = (s v : ℕ) → held t s ≡ held u v → ⊥

  strange : (p q : List ℕ) (t u : Triplet) → bytes_eq p q ≡ false → triplet_of text chs rules p ≡ Some t → triplet_of text chs rules q ≡ Some u → Strange t u
  strange p q t u n e f s v h =
      let same : p ≡ q = sym ((built p t e).in_its_slot s).prefixed ∙ ap (λ i. prefix_in text (get_or chs i no_channel)) h ∙ ((built q u f).in_its_slot v).prefixed in
      nope (bytes_eq p q) ((bytes_eq-Decides p q).1 same) n

  abbrev Differ : Triplet → Type 0
  Differ t = (t.r ≡ t.g → ⊥) × (t.r ≡ t.b → ⊥) × (t.g ≡ t.b → ⊥)

  differ : (t : Triplet) → (Twice t t.r → ⊥) → (Twice t t.g → ⊥) → Differ t
  differ t x y = ((λ e. x (inl (refl, sym e))), (λ e. x (inr (inl (refl, sym e)))), (λ e. y (inr (inr (refl, sym e)))))

  own_slot : (t : Triplet) → Differ t → (s v : ℕ) → s < 3 → v < 3 → held t s ≡ held t v → s ≡ v
  own_slot t d zero zero l m e = refl
  own_slot t d zero (suc zero) l m e = absurd (d.0 e)
  own_slot t d zero (suc (suc v)) l m e = absurd (d.1 e)
  own_slot t d (suc zero) zero l m e = absurd (d.0 (sym e))
  own_slot t d (suc zero) (suc zero) l m e = refl
  own_slot t d (suc zero) (suc (suc v)) l m e = absurd (d.2 e)
  own_slot t d (suc (suc s)) zero l m e = absurd (d.1 (sym e))
  own_slot t d (suc (suc s)) (suc zero) l m e = absurd (d.2 (sym e))
  own_slot t d (suc (suc s)) (suc (suc v)) l m e = omega arith

  abbrev Good : Triplet → Type 0
  Good t = (p : List ℕ) × (triplet_of text chs rules p ≡ Some t)

  all_unit : {X : Type 0} (xs : List X) → All (λ _. Unit {0}) xs
  all_unit [] = tt
  all_unit (x ∷ xs) = (tt, all_unit xs)

  good : All Good (triplets_in text chs rules)
  good = all_found (triplet_of text chs rules) (λ _. Unit {0}) Good (λ p t _ e. (p, e)) (prefixes_in text chs) (all_unit (prefixes_in text chs))

  strangers : Pairwise Strange (triplets_in text chs rules)
  strangers = pairwise_found (triplet_of text chs rules) (λ p q. bytes_eq p q ≡ false) Strange (λ p q t u. strange p q t u) (prefixes_in text chs) (pairwise_distinct bytes_eq (map (prefix_in text) chs))

  pub apart : ((i : ℕ) → i < length chs → Doubled (triplets_in text chs rules) i → ⊥) → Apart (triplets_in text chs rules)
  apart once p =
      let ts = triplets_in text chs rules in
      let j = p.here.triplet in
      let k = p.there.triplet in
      elim (cases_order j k) [
        | inl e ↦
            (let t = get_or ts j no_triplet in
            let g = All-get_or Good ts j no_triplet p.here.listed good in
            let b = built g.0 t g.1 in
            let single : (s : ℕ) → Twice t (held t s) → ⊥ = λ s w. once (held t s) (b.in_its_slot s).within (j, p.here.listed, w) in
            let same : held t p.here.slot ≡ held t p.there.slot = p.same ∙ ap (λ n. held (get_or ts n no_triplet) p.there.slot) (sym e) in
            (e, own_slot t (differ t (single 0) (single 1)) p.here.slot p.there.slot p.here.small p.there.small same))
        | inr e ↦ elim e [
          | inl l ↦ absurd (pairwise_at Strange ts j k no_triplet l p.there.listed strangers p.here.slot p.there.slot p.same)
          | inr l ↦ absurd (pairwise_at Strange ts k j no_triplet l p.here.listed strangers p.there.slot p.here.slot (sym p.same))
        ]
      ]

  module _ (bounds : IntegerBounds) where
    abbrev infos : List ChannelInfo
    infos = map (info_in text rules bounds) chs

    info_at : (i : ℕ) → i < length chs → get_or infos i no_info ≡ info_in text rules bounds (get_or chs i no_channel)
    info_at i h = get_or-map (info_in text rules bounds) chs i no_channel no_info h

    pub sides : bounds.width ≤ 8192 → bounds.height ≤ 8192 → Sides infos
    sides w h i l =
        let e = info_at i (omega (arith, length-map chs (info_in text rules bounds))) in
        let c = get_or chs i no_channel in
        (omega (arith, ap (λ x. x.width) e, side-le bounds.width c.x_sampling), omega (arith, ap (λ x. x.height) e, side-le bounds.height c.y_sampling))

    -- one member beside the first
    alike_at : (t : Triplet) (i : ℕ) → i < length chs → t.r < length chs → lossy_at text chs rules i ≡ true
        → ((get_or chs i no_channel).x_sampling ≡ (get_or chs t.r no_channel).x_sampling) × ((get_or chs i no_channel).y_sampling ≡ (get_or chs t.r no_channel).y_sampling) → Alike infos t i
    alike_at t i h f l s = (
      omega (arith, length-map chs (info_in text rules bounds)),
      ap (λ e. is_lossy e.scheme) (info_at i h) ∙ l,
      ap (λ e. e.width) (info_at i h) ∙ ap (side bounds.width) s.0 ∙ sym (ap (λ e. e.width) (info_at t.r f)),
      ap (λ e. e.height) (info_at i h) ∙ ap (side bounds.height) s.1 ∙ sym (ap (λ e. e.height) (info_at t.r f)),
    )

    steps : (c e : ChannelDescription) → same_steps c e ≡ true → (e.x_sampling ≡ c.x_sampling) × (e.y_sampling ≡ c.y_sampling)
    steps c e h = (grind (arith, nat_tests), grind (arith, nat_tests))

    alike : (p : List ℕ) (t : Triplet) → Built p t → (s : ℕ) → Alike infos t (held t s)
    alike p t b s =
        let a = get_or chs t.r no_channel in
        let v = five (lossy_at text chs rules t.r) (lossy_at text chs rules t.g) (lossy_at text chs rules t.b) (same_steps a (get_or chs t.g no_channel)) (same_steps a (get_or chs t.b no_channel)) b.passes in
        let first = (b.in_its_slot 0).within in
        by_slot s (alike_at t t.r first first v.0 (refl, refl))
        (alike_at t t.g (b.in_its_slot 1).within first v.1 (steps a (get_or chs t.g no_channel) v.3))
        (alike_at t t.b (b.in_its_slot 2).within first v.2 (steps a (get_or chs t.b no_channel) v.4))
      where
        by_slot : (k : ℕ) → Alike infos t t.r → Alike infos t t.g → Alike infos t t.b → Alike infos t (held t k)
        by_slot zero x y z = x
        by_slot (suc zero) x y z = y
        by_slot (suc (suc k)) x y z = z

    pub members : Members infos (triplets_in text chs rules)
    members p =
        let g = All-get_or Good (triplets_in text chs rules) p.triplet no_triplet p.listed good in
        let t = get_or (triplets_in text chs rules) p.triplet no_triplet in
        alike g.0 t (built g.0 t g.1) p.slot
