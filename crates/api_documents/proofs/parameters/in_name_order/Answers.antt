use Rattle.std.proofs.Common.{◌≡◌, List, map, refl, sym, ◌∙◌, ap, rules}
use Rattle.std.proofs.lemmas.Iterator.Adapters.{YieldsList-from_vec}
use Rattle.std.proofs.lemmas.Iterator.Consumers.{YieldsList-end}
use Rattle.std.proofs.lemmas.List.{map-id}
use Rattle.schema_values.specs.Order.{sorted_by}
use Rattle.schema_values.proofs.CallerLemmas.{map_sorted}
use Rattle.written_texts.specs.PageParameters.{parameter_name}
use Rattle.api_documents.specs.declared.parameters.NamedParameter.{NamedParameter}
use Rattle.api_documents.proofs.parameters.in_name_order.Goals as goal

-- what is sorted by the names of parameters has the parameters sorted
sorted_inside : (named : List NamedParameter)
    → map (λ n. n.parameter) (sorted_by (λ n. parameter_name n.parameter) named)
    ≡ sorted_by parameter_name (map (λ n. n.parameter) named)
sorted_inside named =
    map_sorted (λ n. parameter_name n.parameter) parameter_name (λ n. n.parameter) (λ n. refl) named

pub returns : goal.returns
returns c =
    let sorted = c.sort_by_name.new.items.items in
    let l = c.loop-item in
    let next = c.next in
    let road = YieldsList-from_vec {s = c.into_iter-item-iterator.result} sorted (search rules) (search rules) in
    let ended =
    YieldsList-end road l.yielded l.item-iterator l.yielded_by next.result next.new.self c.in-None.is
    next.ensures.steps in
    let all : l.yielded ≡ sorted = sym (map-id l.yielded) ∙ ended.0 in
    l.invariant
    ∙ ap (map (λ n. n.parameter)) (all ∙ c.in_ok-sort_by_name.ensures.sorted)
    ∙ sorted_inside c.args.named.items
