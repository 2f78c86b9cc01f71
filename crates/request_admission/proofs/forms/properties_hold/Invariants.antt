use Rattle.std.proofs.Common.{◌≡◌, drop}
use Rattle.openapi_values.specs.FormAdmits.{properties_hold}
use Rattle.request_admission.proofs.forms.properties_hold.Given as goal

abbrev pub invariant-loop-name : goal.invariant-loop-name
invariant-loop-name l = properties_hold l.doc l.pairs.pairs.now (drop l.name-index l.properties) ≡ properties_hold l.doc l.pairs.pairs.now l.fn.properties
