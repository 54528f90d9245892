-- The triplets of the known prefixes are those of the channels.
use Rattle.std.proofs.Common.{◌≡◌, ℕ, ◌<◌, Bool, true, cond, ◌&&◌, List, [], ◌∷◌, ◌++◌, map, length, get_or, IfSome, Some, None, Option, sym, refl, ap, ◌∙◌, subst, arith}
use Rattle.std.specs.Option.{option_to_list}
use Rattle.std.specs.List.{flat_map}
use Rattle.std.proofs.lemmas.List.Folds.{flat_map-map}
use Rattle.std.proofs.lemmas.List.{take_all, get_or-map, length-map}
use Rattle.channel_rules.specs.declared.records.ChannelDescription.{ChannelDescription}
use Rattle.channel_rules.specs.declared.records.ChannelInfo.{ChannelInfo}
use Rattle.channel_rules.specs.declared.records.IntegerBounds.{IntegerBounds}
use Rattle.channel_rules.specs.declared.records.Rule.{Rule}
use Rattle.channel_rules.specs.declared.prefix_map.Slots.{Slots}
use Rattle.channel_rules.specs.declared.prefix_map.KnownPrefix.{KnownPrefix}
use Rattle.channel_rules.specs.Picks.{LastAt}
use Rattle.channel_rules.specs.Triplets.{no_channel, no_info, is_lossy, filled_by, holder, same_steps, lossy_at, go_together, three, prefixes_in, triplet_of, triplets_in}
use Rattle.channel_rules.specs.Sides.{info_in}
use Rattle.channel_rules.specs.PrefixMap.{no_slots, no_known, slots_of, known_bytes, map_in, Met, Bounded, together_in, formed_by, formed_of}
use Rattle.channel_rules.proofs.Picks.{last_place-is}

flat_map_same : {X A : Type 0} (f g : X → List A) → ((x : X) → f x ≡ g x) → (xs : List X) → flat_map f xs ≡ flat_map g xs
flat_map_same f g e [] = refl
flat_map_same f g e (x ∷ xs) = ap (λ l. l ++ flat_map f xs) (e x) ∙ ap (λ l. g x ++ l) (flat_map_same f g e xs)

-- a place that is found lies in the list
abbrev In : ℕ → Option ℕ → Type 0
In n o = IfSome o (λ i. i < n)

last_in : (n : ℕ) (P : ℕ → Type 0) (o : Option ℕ) → LastAt n P o → In n o
last_in n P None l = tt
last_in n P (Some k) l = l.0

-- tests that agree below n form the same triplet
three-same : (n : ℕ) (t u : ℕ → ℕ → ℕ → Bool) → ((i j k : ℕ) → i < n → j < n → k < n → t i j k ≡ u i j k)
    → (a b c : Option ℕ) → In n a → In n b → In n c → three t a b c ≡ three u a b c
three-same n t u e None b c x y z = refl
three-same n t u e (Some i) None c x y z = refl
three-same n t u e (Some i) (Some j) None x y z = refl
three-same n t u e (Some i) (Some j) (Some k) x y z = ap (λ b. cond b (Some (record { r = i; g = j; b = k })) None) (e i j k x y z)

module _ (text : List ℕ) (chs : List ChannelDescription) (rules : List Rule) where
  pub holder_in : (p : List ℕ) (slot : ℕ) → In (length chs) (holder text chs rules p slot)
  holder_in p slot =
      last_in (length chs) (λ k. filled_by text rules p slot (get_or chs k no_channel) ≡ true) (holder text chs rules p slot)
      (last_place-is (filled_by text rules p slot) chs no_channel)

  module _ (ks : List KnownPrefix) (m : Met text chs rules (length chs) ks) where
    abbrev view : KnownPrefix → List ℕ × Slots
    view k = (known_bytes text chs k, k.slots)

    abbrev pair : List ℕ → List ℕ × Slots
    pair p = (p, slots_of text chs rules p)

    views : map view ks ≡ map pair (prefixes_in text chs)
    views = m.views ∙ ap (λ l. map_in text l rules) (take_all (length chs) chs (omega arith))

    pub known_bounded : (k : ℕ) → k < length ks → Bounded (length chs) (get_or ks k no_known).slots
    known_bounded k h =
        let D = prefixes_in text chs in
        let l : length ks ≡ length D = sym (length-map ks view) ∙ ap length views ∙ length-map D pair in
        let e = sym (get_or-map view ks k no_known ([], no_slots) h) ∙ ap (λ v. get_or v k ([], no_slots)) views
        ∙ get_or-map pair D k [] ([], no_slots) (omega (arith, l, h)) in
        let p = get_or D k [] in
        subst (Bounded (length chs)) (sym (ap (λ v. v.1) e)) (holder_in p 0, holder_in p 1, holder_in p 2)

    module _ (bounds : IntegerBounds) where
      abbrev infos : List ChannelInfo
      infos = map (info_in text rules bounds) chs

      lossy_same : (i : ℕ) → i < length chs → is_lossy (get_or infos i no_info).scheme ≡ lossy_at text chs rules i
      lossy_same i h = ap (λ (e : ChannelInfo). is_lossy e.scheme) (get_or-map (info_in text rules bounds) chs i no_channel no_info h)

      together_same : (i j k : ℕ) → i < length chs → j < length chs → k < length chs → together_in chs infos i j k ≡ go_together text chs rules i j k
      together_same i j k x y z =
          let p = lossy_same i x in
          let q = lossy_same j y in
          let r = lossy_same k z in
          let steps : Bool → Bool = λ v. v && same_steps (get_or chs i no_channel) (get_or chs j no_channel) && same_steps (get_or chs i no_channel) (get_or chs k no_channel) in
          λ n. steps (p n && q n && r n)

      pub all_formed : formed_of chs infos ks ≡ triplets_in text chs rules
      all_formed =
          sym (flat_map-map (λ v. option_to_list (formed_by chs infos v.1)) view ks)
          ∙ ap (flat_map (λ v. option_to_list (formed_by chs infos v.1))) views
          ∙ flat_map-map (λ v. option_to_list (formed_by chs infos v.1)) pair (prefixes_in text chs)
          ∙ flat_map_same (λ p. option_to_list (formed_by chs infos (slots_of text chs rules p))) (λ p. option_to_list (triplet_of text chs rules p))
          (λ p. ap option_to_list (three-same (length chs) (together_in chs infos) (go_together text chs rules) together_same _ _ _ (holder_in p 0) (holder_in p 1) (holder_in p 2)))
          (prefixes_in text chs)
