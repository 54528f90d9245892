use Rattle.std.proofs.Common.{get_or, rules}
use Rattle.channel_rules.specs.Triplets.{no_channel}
use Rattle.channel_rules.proofs.OneRule.{scheme_more, stamped-more}
use Rattle.channel_rules.proofs.prefix_map.apply_rules.Goals as goal

pub loop-rule-preserved : goal.loop-rule-preserved
loop-rule-preserved c =
    let own = get_or c.args.sound.now.chunk.channels.now c.args.index no_channel in
    let scheme = scheme_more c.args.sound.now.chunk.text.now c.args.sound.now.chunk.rules.now own c.loop-rule.rule-index c.loop-rule-test.true in
    let slots = stamped-more c.args.sound.now.chunk.text.now c.args.sound.now.chunk.rules.now own c.loop-rule.rule-index c.loop-rule-test.true c.args.index c.args.slots.now in
    search rules
