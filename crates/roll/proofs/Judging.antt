-- From the checks of the records to the answer.
use Rattle.std.proofs.Common.{◌≡◌, ℕ, ◌+◌, ◌<◌, ◌≤◌, ◌⊎◌, List, length, get_or, Some, None, Err, refl, subst, inl, inr, arith, lit<}
use Rattle.std.proofs.lemmas.Bool.{cases_lt}
use Rattle.channel_rules.specs.declared.records.Part.{Part}
use Rattle.channel_rules.specs.declared.records.ChannelDescription.{ChannelDescription}
use Rattle.channel_rules.specs.declared.records.IntegerBounds.{IntegerBounds}
use Rattle.channel_rules.specs.declared.records.Rule.{Rule}
use Rattle.roll.specs.declared.refusal.Concerned.TheVariants.{Channel as OfChannel, Rule as OfRule}
use Rattle.roll.specs.declared.refusal.Refusal.{Refusal}
use Rattle.roll.specs.declared.refusal.Refusal.TheVariants.{TooMany, ChunkTooLarge, OutsideText, StepTooLarge, NoSuchSlot, OffStep, HeldTwice}
use Rattle.channel_rules.specs.Names.{Inside}
use Rattle.channel_rules.specs.Picks.{FirstAt}
use Rattle.channel_rules.specs.Triplets.{no_channel, no_rule, Named, Suffixed, triplets_in}
use Rattle.roll.specs.Refusals.{number, Outside, Doubled, Stands, Earlier, Judged}

at_most : (n m : ℕ) → (n < m → ⊥) → m ≤ n
at_most n m h = elim (cases_lt n m) [ inl l ↦ absurd (h l) | inr g ↦ g ]

inside : (text : List ℕ) (p : Part) → (Outside text p → ⊥) → Inside text p
inside text p h = at_most (length text) (p.start + p.len) (λ l. h (inl l))

-- a refusal is one of the records, or of a channel held twice
above : (f : Refusal) → (number f < 7) ⊎ ((i : ℕ) × (f ≡ HeldTwice i))
above TooMany = inl (lit< tt)
above ChunkTooLarge = inl (lit< tt)
above (OutsideText whom) = inl (lit< tt)
above (StepTooLarge i) = inl (lit< tt)
above (NoSuchSlot j) = inl (lit< tt)
above (OffStep i) = inl (lit< tt)
above (HeldTwice i) = inr (i, refl)

module _ (text : List ℕ) (chs : List ChannelDescription) (rules : List Rule) (bounds : IntegerBounds) where
  abbrev S : Refusal → Type 0
  S = Stands text chs rules bounds

  -- what holds once the records have passed
  pub record Passed : Type 0 where
    pub few : length chs ≤ 64
    pub wide : bounds.width ≤ 8192
    pub high : bounds.height ≤ 8192
    pub named : Named text chs
    pub suffixed : Suffixed text rules

  module _ (h : (f : Refusal) → number f < 7 → S f → ⊥) where
    pub passed : Passed
    passed = record {
      few = at_most 64 (length chs) (λ l. h TooMany (lit< tt) (inl l));
      wide = at_most 8192 bounds.width (λ l. h ChunkTooLarge (lit< tt) (inl l));
      high = at_most 8192 bounds.height (λ l. h ChunkTooLarge (lit< tt) (inr l));
      named = λ i l. inside text (get_or chs i no_channel).name (λ o. h (OutsideText (Some (OfChannel i))) (lit< tt) (l, o));
      suffixed = λ j l. inside text (get_or rules j no_rule).suffix (λ o. h (OutsideText (Some (OfRule j))) (lit< tt) (l, o));
    }

    pub accepted : FirstAt (length chs) (Doubled (triplets_in text chs rules)) None → (f : Refusal) → S f → ⊥
    accepted none f s = elim (above f) [
      | inl l ↦ h f l s
      | inr p ↦ (let t = subst S p.1 s in none p.0 t.0 t.1)
    ]

    pub doubled : (k : ℕ) → FirstAt (length chs) (Doubled (triplets_in text chs rules)) (Some k) → Judged {A = Unit {0}} text chs rules bounds (Err (HeldTwice k))
    doubled k d = (
      (d.0, d.1),
      λ e E s. elim (above e) [
        | inl l ↦ h e l s
        | inr p ↦ elim (subst (λ x. Earlier x (HeldTwice k)) p.1 E) [
          | inl l ↦ omega arith
          | inr n ↦ (let t = subst S p.1 s in d.2 p.0 n.1 t.1)
        ]
      ],
    )
