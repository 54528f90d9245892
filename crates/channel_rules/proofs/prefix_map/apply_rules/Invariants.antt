use Rattle.std.proofs.Common.{◌≡◌, get_or, take}
use Rattle.channel_rules.specs.Triplets.{no_channel, scheme_in}
use Rattle.channel_rules.specs.PrefixMap.{stamped}
use Rattle.channel_rules.proofs.prefix_map.apply_rules.Given as goal

abbrev pub invariant-loop-rule : goal.invariant-loop-rule
invariant-loop-rule l =
    (l.scheme ≡ scheme_in l.sound.chunk.text.now (take l.rule-index l.sound.chunk.rules.now) (get_or l.sound.chunk.channels.now l.index no_channel))
    × (l.slots ≡ stamped l.sound.chunk.text.now (take l.rule-index l.sound.chunk.rules.now) (get_or l.sound.chunk.channels.now l.index no_channel) l.index l.initial.slots)
