-- One rule more: what it does to the scheme and to the slots.
use Rattle.std.proofs.Common.{◌≡◌, ℕ, ◌+◌, ◌<◌, Bool, true, false, cond, ◌&&◌, ◌||◌, eqb, List, length, get_or, take, Some, None, Option, sym, refl, ap, ◌∙◌, arith}
use Rattle.std.proofs.lemmas.List.{get_or-take, length-take-le}
use Rattle.channel_rules.specs.declared.records.ChannelDescription.{ChannelDescription}
use Rattle.channel_rules.specs.declared.records.Rule.{Rule}
use Rattle.channel_rules.specs.declared.prefix_map.Slots.{Slots}
use Rattle.channel_rules.specs.Picks.{LastAt, last_place}
use Rattle.channel_rules.specs.Rules.{is_for}
use Rattle.channel_rules.specs.Triplets.{no_rule, is_slot, scheme_at, scheme_in, writes}
use Rattle.channel_rules.specs.PrefixMap.{ruled, stamp, stamped}
use Rattle.channel_rules.proofs.Picks.{last_place-more, last_place-is}
use Rattle.std.proofs.lemmas.List.Folds.{list_any_more}

over : (a w : Bool) (x y : Option ℕ) → cond a x (cond w x y) ≡ cond (w || a) x y
over true true x y = refl
over true false x y = refl
over false true x y = refl
over false false x y = refl

none : (w : Bool) (x y : Option ℕ) → cond w x y ≡ cond (w || false) x y
none w x y = over false w x y

same : (r g b r' g' b' : Option ℕ) → r ≡ r' → g ≡ g' → b ≡ b' → ◌≡◌ {A = Slots} (record { r = r; g = g; b = b }) (record { r = r'; g = g'; b = b' })
same r g b r' g' b' e f h = cc

ruled-more : (m : Bool) (o : Option ℕ) (i : ℕ) (x y z : Bool) (s : Slots)
    → ruled m o i (stamp x y z i s) ≡ stamp (x || (m && is_slot 0 o)) (y || (m && is_slot 1 o)) (z || (m && is_slot 2 o)) i s
ruled-more false o i x y z s = same _ _ _ _ _ _ (none x (Some i) s.r) (none y (Some i) s.g) (none z (Some i) s.b)
ruled-more true None i x y z s = same _ _ _ _ _ _ (none x (Some i) s.r) (none y (Some i) s.g) (none z (Some i) s.b)
ruled-more true (Some k) i x y z s = same _ _ _ _ _ _ (over (eqb k 0) x (Some i) s.r) (over (eqb k 1) y (Some i) s.g) (over (eqb k 2) z (Some i) s.b)

module _ (text : List ℕ) (rules : List Rule) (own : ChannelDescription) (i : ℕ) (h : i < length rules) where
  -- the places below i are those of all rules
  fronts : (o : Option ℕ) → LastAt (length (take i rules)) (λ k. is_for text own (get_or (take i rules) k no_rule) ≡ true) o
      → scheme_at (take (i + 1) rules) o ≡ scheme_at (take i rules) o
  fronts None l = refl
  fronts (Some j) l =
      let less : j < i = omega (arith, l.0, length-take-le i rules (omega arith)) in
      ap (λ (r : Rule). r.scheme) (get_or-take (i + 1) rules j no_rule (omega arith) ∙ sym (get_or-take i rules j no_rule less))

  pub scheme_more : scheme_in text (take (i + 1) rules) own ≡ cond (is_for text own (get_or rules i no_rule)) (get_or rules i no_rule).scheme (scheme_in text (take i rules) own)
  scheme_more =
      ap (scheme_at (take (i + 1) rules)) (last_place-more (is_for text own) rules i no_rule h)
      ∙ elim (is_for text own (get_or rules i no_rule)) as (λ b. scheme_at (take (i + 1) rules) (cond b (Some i) (last_place (is_for text own) (take i rules))) ≡ cond b (get_or rules i no_rule).scheme (scheme_in text (take i rules) own)) [
        | true ↦ ap (λ (r : Rule). r.scheme) (get_or-take (i + 1) rules i no_rule (omega arith))
        | false ↦ fronts (last_place (is_for text own) (take i rules)) (last_place-is (is_for text own) (take i rules) no_rule)
      ]

  written : (k : ℕ) → writes text (take (i + 1) rules) k own ≡ (writes text (take i rules) k own || (is_for text own (get_or rules i no_rule) && is_slot k (get_or rules i no_rule).csc_index))
  written k = list_any_more (λ r. is_for text own r && is_slot k r.csc_index) rules i no_rule h

  pub stamped-more : (n : ℕ) (s : Slots) → stamped text (take (i + 1) rules) own n s ≡ ruled (is_for text own (get_or rules i no_rule)) (get_or rules i no_rule).csc_index n (stamped text (take i rules) own n s)
  stamped-more n s =
      same _ _ _ _ _ _ (ap (λ w. cond w (Some n) s.r) (written 0)) (ap (λ w. cond w (Some n) s.g) (written 1)) (ap (λ w. cond w (Some n) s.b) (written 2))
      ∙ sym (ruled-more (is_for text own (get_or rules i no_rule)) (get_or rules i no_rule).csc_index n (writes text (take i rules) 0 own) (writes text (take i rules) 1 own) (writes text (take i rules) 2 own) s)
