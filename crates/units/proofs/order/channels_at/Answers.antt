use Rattle.std.proofs.Common.{rules}
use Rattle.units.proofs.Ordered.{first_within}
use Rattle.units.proofs.order.channels_at.Goals as goal

pub returns-in-Some-clause-within : goal.returns-in-Some-clause-within
returns-in-Some-clause-within c =
    search (rules, first_within c.args.roll.now.channels.items c.args.roll.now.triplets.items c.args.roll.now.members c.args.index)
