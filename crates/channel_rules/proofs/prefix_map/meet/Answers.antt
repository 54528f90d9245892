use Rattle.std.proofs.Common.{rules as std_rules, ◌≡◌, ℕ, ◌+◌, List, [], ◌∷◌, ◌++◌, length, get_or, set, Some, None, vec_items, Option, sym, ap, ◌∙◌, subst}
use Rattle.std.proofs.lemmas.List.{get_or_read}
use Rattle.channel_rules.specs.Picks.{FirstAt}
use Rattle.channel_rules.specs.Triplets.{no_channel}
use Rattle.channel_rules.specs.declared.records.ChannelDescription.{ChannelDescription}
use Rattle.channel_rules.specs.declared.prefix_map.KnownPrefix.{KnownPrefix}
use Rattle.channel_rules.specs.declared.prefix_map.Slots.{Slots}
use Rattle.channel_rules.specs.PrefixMap.{no_known, no_slots, known_bytes, Met, stamped}
use Rattle.channel_rules.proofs.Growing.{met_old, met_new, firsts_set, firsts_push}
use Rattle.channel_rules.proofs.prefix_map.meet.Goals as goal

-- what `place_of` answered, said of the list and the channel's prefix
said : (text : List ℕ) (chs : List ChannelDescription) (o : Option ℕ) {ks ls : List KnownPrefix} {p q : List ℕ} → ks ≡ ls → p ≡ q
    → FirstAt (length ks) (λ k. known_bytes text chs (get_or ks k no_known) ≡ p) o → FirstAt (length ls) (λ k. known_bytes text chs (get_or ls k no_known) ≡ q) o
said text chs o {ks} {ls} {p} {q} e f h =
    subst (λ x. FirstAt (length ls) (λ k. known_bytes text chs (get_or ls k no_known) ≡ x) o) f
    (subst (λ l. FirstAt (length l) (λ k. known_bytes text chs (get_or l k no_known) ≡ p) o) e h)

pub returns-in-Some-clause-met : goal.returns-in-Some-clause-met
returns-in-Some-clause-met c =
    let text = c.args.sound.now.chunk.text.now in
    let chs = c.args.sound.now.chunk.channels.now in
    let rules = c.args.sound.now.chunk.rules.now in
    let ks = vec_items c.args.known.now in
    let at = c.in-Some.place in
    let own = get_or chs c.args.index no_channel in
    let here = said text chs (Some at) c.as_slice.ensures.value c.split_name.ensures.prefix c.in-Some.ensures in
    let old : c.index_mut.result.now ≡ get_or ks at no_known = get_or_read ks at c.index_mut.result.now here.0 c.index_mut.ensures.value no_known in
    let new : KnownPrefix = record { first = (get_or ks at no_known).first; slots = stamped text rules own c.args.index (get_or ks at no_known).slots } in
    let s : c.apply_rules.new.slots ≡ new.slots =
    c.apply_rules.ensures.slots ∙ ap (λ k. stamped text rules own c.args.index k.slots) old in
    let n : record { first = c.index_mut.result.now.first; slots = c.apply_rules.new.slots } ≡ new =
    ap (λ (k : KnownPrefix). record { first = k.first; slots = c.apply_rules.new.slots }) old ∙ ap (λ (x : Slots). record { first = (get_or ks at no_known).first; slots = x }) s in
    let done : Met text chs rules (c.args.index + 1) (set ks at new) = record {
      firsts = firsts_set (length chs) ks at new c.requires.met.firsts (c.requires.met.firsts at here.0);
      views = met_old text chs rules c.args.index c.requires.within ks c.requires.met.views at here.0 here.1;
    } in
    subst (λ k. Met text chs rules (c.args.index + 1) (set ks at k)) (sym n) done

pub returns-in-None-clause-met : goal.returns-in-None-clause-met
returns-in-None-clause-met c =
    let text = c.args.sound.now.chunk.text.now in
    let chs = c.args.sound.now.chunk.channels.now in
    let rules = c.args.sound.now.chunk.rules.now in
    let ks = vec_items c.args.known.now in
    let own = get_or chs c.args.index no_channel in
    let nowhere = said text chs None c.as_slice.ensures.value c.split_name.ensures.prefix c.in-None.ensures in
    let new : KnownPrefix = record { first = c.args.index; slots = stamped text rules own c.args.index no_slots } in
    let free : c.default-slots.result ≡ no_slots = search std_rules in
    let n : record { first = c.args.index; slots = c.apply_rules-scheme.new.slots } ≡ new =
    ap (λ (x : Slots). record { first = c.args.index; slots = x }) c.apply_rules-scheme.ensures.slots ∙
    ap (λ (x : Slots). record { first = c.args.index; slots = stamped text rules own c.args.index x }) free in
    let done : Met text chs rules (c.args.index + 1) (ks ++ new ∷ []) = record {
      firsts = firsts_push (length chs) ks new c.requires.met.firsts c.requires.within;
      views = met_new text chs rules c.args.index c.requires.within ks c.requires.met.views nowhere;
    } in
    subst (Met text chs rules (c.args.index + 1)) (sym (c.push_reserved.ensures.items ∙ ap (λ k. ks ++ k ∷ []) n)) done
