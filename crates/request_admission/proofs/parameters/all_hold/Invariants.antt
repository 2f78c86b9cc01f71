use Rattle.std.proofs.Common.{◌≡◌, drop}
use Rattle.std.specs.List.{list_all}
use Rattle.openapi_values.specs.Pages.{query_rule}
use Rattle.openapi_values.specs.RequestParameters.{parameter_holds}
use Rattle.request_admission.proofs.parameters.all_hold.Given as goal

abbrev pub invariant-loop-parameter : goal.invariant-loop-parameter
invariant-loop-parameter l =
    list_all (parameter_holds l.doc l.request (query_rule l.query.in_pages l.query.pairs.now.pairs.now)) (drop l.parameter-index l.parameters)
    ≡ list_all (parameter_holds l.doc l.request (query_rule l.query.in_pages l.query.pairs.now.pairs.now)) l.fn.parameters
