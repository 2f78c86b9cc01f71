use Rattle.std.proofs.Common.{◌≡◌, drop}
use Rattle.std.specs.List.{list_all}
use Rattle.openapi_values.specs.Pages.{name_stands}
use Rattle.request_admission.proofs.pages.names_stand.Given as goal

abbrev pub invariant-loop-name : goal.invariant-loop-name
invariant-loop-name l = list_all (name_stands l.pairs.pairs.now) (drop l.name-index l.names) ≡ list_all (name_stands l.pairs.pairs.now) l.fn.names
