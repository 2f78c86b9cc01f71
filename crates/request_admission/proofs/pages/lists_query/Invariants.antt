use Rattle.std.proofs.Common.{◌≡◌, drop}
use Rattle.std.specs.List.{list_any}
use Rattle.openapi_values.specs.RequestParameters.{is_query_named}
use Rattle.request_admission.proofs.pages.lists_query.Given as goal

abbrev pub invariant-loop-parameter : goal.invariant-loop-parameter
invariant-loop-parameter l = list_any (is_query_named l.name) (drop l.parameter-index l.parameters) ≡ list_any (is_query_named l.name) l.fn.parameters
