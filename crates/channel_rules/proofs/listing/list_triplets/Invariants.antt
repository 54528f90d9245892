use Rattle.std.proofs.Common.{◌≡◌, ◌≤◌, take, vec_items, vec_len, vec_capacity}
use Rattle.channel_rules.specs.PrefixMap.{formed_of}
use Rattle.channel_rules.proofs.listing.list_triplets.Given as goal

abbrev pub invariant-loop-met : goal.invariant-loop-met
invariant-loop-met l =
    (vec_items l.out ≡ formed_of l.listed.channels.now l.listed.infos.now (take l.met-index l.known))
    × (vec_len l.out ≤ l.met-index) × (vec_capacity l.out ≡ vec_capacity l.initial.out)
