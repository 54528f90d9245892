use Rattle.std.proofs.Common.{◌≡◌, ◌≤◌, map, take, vec_items, vec_len, vec_capacity}
use Rattle.channel_rules.specs.Sides.{info_in}
use Rattle.channel_rules.specs.PrefixMap.{Met}
use Rattle.channel_rules.proofs.listing.list_channels.Given as goal

abbrev pub invariant-loop-index : goal.invariant-loop-index
invariant-loop-index l =
    (vec_items l.infos ≡ map (info_in l.sound.chunk.text.now l.sound.chunk.rules.now l.sound.chunk.rectangle) (take l.index l.sound.chunk.channels.now))
    × (vec_len l.infos ≡ l.index) × (vec_capacity l.infos ≡ vec_capacity l.initial.infos)
    × Met l.sound.chunk.text.now l.sound.chunk.channels.now l.sound.chunk.rules.now l.index (vec_items l.known)
    × (vec_len l.known ≤ l.index) × (vec_capacity l.known ≡ vec_capacity l.initial.known) × (l.rectangle ≡ l.sound.chunk.rectangle)
