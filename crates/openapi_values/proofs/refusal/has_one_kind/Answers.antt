use Rattle.std.proofs.Common.{[], ◌∷◌, nat_eq, ap, ◌∙◌, rules, tests}
use Rattle.std.proofs.lemmas.Iterator.{YieldsList-from_slice}
use Rattle.std.proofs.lemmas.Iterator.Consumers.{count_from_yields_List, YieldsList-from_filter, YieldsList-at}
use Rattle.std.proofs.lemmas.List.Sums.{length-filter}
use Rattle.openapi_values.proofs.RefusalLevels.{one_kind-is}
use Rattle.openapi_values.proofs.refusal.has_one_kind.Goals as goal

pub returns : goal.returns
returns c =
    let given = c.is_some.result ∷ c.is_some-2.result ∷ c.is_some-3.result ∷ c.is_some-4.result ∷ [] in
    let count = count_from_yields_List c.filter.result c.count.result c.count.ensures.ran
    (YieldsList-from_filter _ (λ b. b) (YieldsList-at c.filter.ensures.source (YieldsList-from_slice given cc)) c.filter.ensures.closure (λ x r q k. search (rules, tests))) in
    rw (one_kind-is c.args.subschemas.now, ← c.is_some.ensures, ← c.is_some-2.ensures, ← c.is_some-3.ensures, ← c.is_some-4.ensures) (ap (λ n. nat_eq n 1) (count ∙ length-filter (λ b. b) given))
