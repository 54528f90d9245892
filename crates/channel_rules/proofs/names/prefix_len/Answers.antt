use Rattle.std.proofs.Common.{rules}
use Rattle.channel_rules.specs.Names.{Splits}
use Rattle.channel_rules.proofs.Splitting.{splits_cut}
use Rattle.channel_rules.proofs.names.prefix_len.Goals as goal

pub returns : goal.returns
returns c =
    let s : Splits c.args.name.now c.map_or.result = search rules in
    record { splits = s; value = splits_cut _ _ s }
