use Rattle.std.proofs.Common.{rules}
use Rattle.std.proofs.lemmas.Iterator.{YieldsList-from_slice}
use Rattle.std.proofs.lemmas.Iterator.Adapters.{serves_from_places}
use Rattle.std.proofs.lemmas.List.{get_or_read}
use Rattle.channel_rules.specs.Triplets.{no_info}
use Rattle.units.proofs.planes.samples_of.Goals as goal

-- each item is an element of the list, whose sides are bounded
pub sum-requires-clause-can : goal.sum-requires-clause-can
sum-requires-clause-can c = (
  tt,
  serves_from_places (YieldsList-from_slice c.args.infos.now cc) (λ x q k. search rules)
      (λ x k l e. let at_k = c.requires.sides k l in let sides = rw (← get_or_read c.args.infos.now k x.now l e no_info) at at_k in search rules),
)
