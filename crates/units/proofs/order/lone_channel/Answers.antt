use Rattle.std.proofs.Common.{length, sym, ◌∙◌, arith, rules, tests}
use Rattle.std.proofs.lemmas.Iterator.{YieldsList-from_range}
use Rattle.std.proofs.lemmas.Iterator.Adapters.{option_map_id}
use Rattle.std.proofs.lemmas.Iterator.Consumers.{nth_from_yields_List, YieldsList-from_filter}
use Rattle.units.specs.Units.{is_lone}
use Rattle.units.proofs.order.lone_channel.Goals as goal

pub returns-clause-value : goal.returns-clause-value
returns-clause-value c =
    let es = c.args.roll.now.channels.items in
    let test = is_lone es c.args.roll.now.triplets.items in
    sym (option_map_id c.nth.result)
    ∙ nth_from_yields_List c.nth.result _ c.args.rank c.nth.ensures.ran
    (YieldsList-from_filter _ test (YieldsList-from_range 0 (length es) (length es) (cc) (omega arith)) c.filter.ensures.closure (λ x r q k. search (rules, tests)))
