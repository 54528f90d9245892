use Rattle.std.proofs.Common.{rules}
use Rattle.std.proofs.lemmas.Iterator.{YieldsList-from_slice}
use Rattle.std.proofs.lemmas.Iterator.Adapters.{serves_from_places}
use Rattle.channel_rules.proofs.Growing.{first_at}
use Rattle.channel_rules.proofs.prefix_map.place_of.Goals as goal

pub position-requires-clause-callable : goal.position-requires-clause-callable
position-requires-clause-callable c =
    serves_from_places (YieldsList-from_slice c.args.known.now (search rules)) (λ x q r. search rules)
    (λ x k l e. let f = first_at _ _ c.requires.firsts x.now k l e in λ _ _ _ _ _. f)
