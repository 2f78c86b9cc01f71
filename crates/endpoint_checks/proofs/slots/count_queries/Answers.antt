use Rattle.std.proofs.Common.{rules, ◌∙◌}
use Rattle.std.proofs.lemmas.Iterator.{YieldsList-from_slice}
use Rattle.std.proofs.lemmas.Iterator.Consumers.{YieldsList-from_filter, count_from_yields_List}
use Rattle.std.proofs.lemmas.List.Sums.{length-filter}
use Rattle.endpoint_checks.specs.Slots.{takes_query}
use Rattle.endpoint_checks.proofs.slots.count_queries.Goals as goal

pub returns : goal.returns
returns c =
    count_from_yields_List c.filter.result _ c.count.ensures.ran
    (YieldsList-from_filter _ takes_query (YieldsList-from_slice c.args.slots.now cc) c.filter.ensures.closure (λ x b q k. search rules))
    ∙ length-filter takes_query c.args.slots.now
