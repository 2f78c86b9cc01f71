use Rattle.std.proofs.Common.{◌≡◌, ◌+◌, ◌*◌, take, count_by, chars}
use Rattle.openapi_values.specs.Steps.{left}
use Rattle.openapi_values.specs.TextAdmits.{text_within}
use Rattle.openapi_values.proofs.texts.TextReader.+admits.Given as goal

abbrev pub decreases-admits : goal.decreases-admits
decreases-admits l = 8 * left l.steps.now

abbrev pub decreases-step : goal.decreases-step
decreases-step l = 8 * left l.next.now + 6

abbrev pub decreases-reference_or_form : goal.decreases-reference_or_form
decreases-reference_or_form l = 8 * left l.next.now + 5

abbrev pub decreases-definition_admits : goal.decreases-definition_admits
decreases-definition_admits l = 8 * left l.next.now + 1

abbrev pub decreases-form_admits : goal.decreases-form_admits
decreases-form_admits l = 8 * left l.next.now + 4

abbrev pub decreases-one_or_typed : goal.decreases-one_or_typed
decreases-one_or_typed l = 8 * left l.next.now + 3

abbrev pub decreases-all_admits : goal.decreases-all_admits
decreases-all_admits l = 8 * left l.next.now + 2

abbrev pub decreases-only_admits : goal.decreases-only_admits
decreases-only_admits l = 8 * left l.next.now + 1

abbrev pub decreases-one_admits : goal.decreases-one_admits
decreases-one_admits l = 8 * left l.next.now + 2

abbrev pub decreases-count_admitting : goal.decreases-count_admitting
decreases-count_admitting l = 8 * left l.next.now + 1

abbrev pub invariant-count_admitting-loop-schema : goal.invariant-count_admitting-loop-schema
invariant-count_admitting-loop-schema l = l.count ≡ count_by (text_within l.self.doc.now (chars l.self.text.now) (left l.next)) (take l.schema-index l.schemas)
