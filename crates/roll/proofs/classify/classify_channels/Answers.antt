use Rattle.std.proofs.Common.{◌≡◌, ℕ, ◌<◌, ◌≤◌, List, map, length, get_or, None, Some, vec_items, vec_capacity, sym, ap, ◌∙◌, subst, arith}
use Rattle.std.proofs.lemmas.List.{length-map}
use Rattle.channel_rules.specs.declared.records.Triplet.{Triplet}
use Rattle.channel_rules.specs.declared.records.Chunk.{Chunk}
use Rattle.channel_rules.specs.declared.records.ChannelInfo.{ChannelInfo}
use Rattle.channel_rules.specs.declared.prefix_map.KnownPrefix.{KnownPrefix}
use Rattle.channel_rules.specs.Picks.{FirstAt}
use Rattle.channel_rules.specs.Triplets.{triplets_in}
use Rattle.channel_rules.specs.Sides.{info_in}
use Rattle.roll.specs.Refusals.{Doubled}
use Rattle.roll.specs.Kept.{Sides, Members, Apart}
use Rattle.channel_rules.specs.PrefixMap.{no_known, Bounded, Met, formed_of}
use Rattle.channel_rules.proofs.Forming.{known_bounded, all_formed}
use Rattle.roll.proofs.Judging.{Passed, passed, accepted, doubled}
use Rattle.roll.proofs.Keeping.{sides, members, apart}
use Rattle.roll.proofs.classify.classify_channels.Goals as goal
use Rattle.roll.proofs.classify.classify_channels.Goals.{In_ok-sound, In_default, After-list_channels, After-list_triplets}

pass : (c : In_ok-sound) → Passed c.args.chunk.now.text.now c.args.chunk.now.channels.now c.args.chunk.now.rules.now c.args.chunk.now.rectangle
pass c = passed c.args.chunk.now.text.now c.args.chunk.now.channels.now c.args.chunk.now.rules.now c.args.chunk.now.rectangle c.in_ok-sound.ensures.answer

-- what `list_channels` said of the sound chunk, said of the chunk
infos : (c : After-list_channels)
    → vec_items c.list_channels.new.infos ≡ map (info_in c.args.chunk.now.text.now c.args.chunk.now.rules.now c.args.chunk.now.rectangle) c.args.chunk.now.channels.now
infos c = c.list_channels.ensures.items ∙ ap (λ (r : Chunk). map (info_in r.text.now r.rules.now r.rectangle) r.channels.now) c.in_ok-sound.ensures.same

met : (c : After-list_channels)
    → Met c.args.chunk.now.text.now c.args.chunk.now.channels.now c.args.chunk.now.rules.now (length c.args.chunk.now.channels.now) (vec_items c.list_channels.new.known)
met c = subst (λ (r : Chunk). Met r.text.now r.channels.now r.rules.now (length r.channels.now) (vec_items c.list_channels.new.known)) c.in_ok-sound.ensures.same c.list_channels.ensures.met

pub list_triplets-requires-clause-within : goal.list_triplets-requires-clause-within
list_triplets-requires-clause-within c =
    let chs = c.args.chunk.now.channels.now in
    subst (λ (l : List KnownPrefix). (k : ℕ) → k < length l → Bounded (length chs) (get_or l k no_known).slots) (sym c.as_slice-2.ensures.value)
    (known_bounded c.args.chunk.now.text.now chs c.args.chunk.now.rules.now (vec_items c.list_channels.new.known) (met (goal.at.list_triplets-requires-clause-within c).After-list_channels))

listed : (c : After-list_triplets) → vec_items c.list_triplets.new.out ≡ triplets_in c.args.chunk.now.text.now c.args.chunk.now.channels.now c.args.chunk.now.rules.now
listed c =
    let chs = c.args.chunk.now.channels.now in
    let a = (goal.at.After-list_triplets c).After-list_channels in
    c.list_triplets.ensures.items
    ∙ ap (λ (l : List ChannelInfo). formed_of chs l c.as_slice-2.result.now) (c.as_slice.ensures.value ∙ infos a)
    ∙ ap (formed_of chs (map (info_in c.args.chunk.now.text.now c.args.chunk.now.rules.now c.args.chunk.now.rectangle) chs)) c.as_slice-2.ensures.value
    ∙ all_formed c.args.chunk.now.text.now chs c.args.chunk.now.rules.now (vec_items c.list_channels.new.known) (met a) c.args.chunk.now.rectangle

pub returns-in-Some-clause-answer : goal.returns-in-Some-clause-answer
returns-in-Some-clause-answer c =
    let e = c.as_slice-3.ensures.value ∙ listed (goal.at.returns-in-Some-clause-answer c).After-list_triplets in
    let d = subst (λ (l : List Triplet). FirstAt (length c.args.chunk.now.channels.now) (Doubled l) (Some c.in-Some.index)) e c.in-Some.ensures in
    doubled c.args.chunk.now.text.now c.args.chunk.now.channels.now c.args.chunk.now.rules.now c.args.chunk.now.rectangle c.in_ok-sound.ensures.answer c.in-Some.index d

-- no triplet holds a channel twice
once : (c : In_default) → FirstAt (length c.args.chunk.now.channels.now) (Doubled (triplets_in c.args.chunk.now.text.now c.args.chunk.now.channels.now c.args.chunk.now.rules.now)) None
once c =
    let e = c.as_slice-3.ensures.value ∙ listed (goal.at.In_default c).After-list_triplets in
    subst (λ (l : List Triplet). FirstAt (length c.args.chunk.now.channels.now) (Doubled l) None) e c.in_default.ensures

pub returns-clause-answer : goal.returns-clause-answer
returns-clause-answer c =
    accepted c.args.chunk.now.text.now c.args.chunk.now.channels.now c.args.chunk.now.rules.now c.args.chunk.now.rectangle c.in_ok-sound.ensures.answer (once (goal.at.returns-clause-answer c).In_default)

pub returns-clause-triplets : goal.returns-clause-triplets
returns-clause-triplets c = listed (goal.at.returns-clause-triplets c).After-list_triplets

pub invariant_of-roll-in_default : goal.invariant_of-roll-in_default
invariant_of-roll-in_default c =
    let h = pass (goal.at.invariant_of-roll-in_default c).In_ok-sound in
    let text = c.args.chunk.now.text.now in
    let chs = c.args.chunk.now.channels.now in
    let rules = c.args.chunk.now.rules.now in
    let bounds = c.args.chunk.now.rectangle in
    let e = infos (goal.at.invariant_of-roll-in_default c).After-list_channels in
    let t = listed (goal.at.invariant_of-roll-in_default c).After-list_triplets in
    let both : Members (vec_items c.list_channels.new.infos) (vec_items c.list_triplets.new.out) =
    subst (λ es. Members es (vec_items c.list_triplets.new.out)) (sym e) (subst (Members (map (info_in text rules bounds) chs)) (sym t) (members text chs rules bounds)) in
    let room_channels : 64 ≤ vec_capacity c.list_channels.new.infos = omega (arith, c.list_channels.ensures.capacity.0, c.clear.ensures.capacity, c.args.roll.now.room.0) in
    let room_triplets : 64 ≤ vec_capacity c.list_triplets.new.out = omega (arith, c.list_triplets.ensures.capacity, c.clear-2.ensures.capacity, c.args.roll.now.room.1) in
    let room_map : 64 ≤ vec_capacity c.clear-3.new.self = omega (arith, c.clear-3.ensures.capacity, c.list_channels.ensures.capacity.1, c.args.roll.now.room.2) in
    let few : length (vec_items c.list_channels.new.infos) ≤ 64 = omega (arith, ap length e, length-map chs (info_in text rules bounds), h.few) in
    record {
      room = (room_channels, room_triplets, room_map);
      idle = c.clear-3.ensures.items;
      few = few;
      sides = subst Sides (sym e) (sides text chs rules bounds h.wide h.high);
      members = both;
      apart = subst Apart (sym t) (apart text chs rules (once (goal.at.invariant_of-roll-in_default c).In_default));
    }
