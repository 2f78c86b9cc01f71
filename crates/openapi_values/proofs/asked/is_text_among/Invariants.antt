use Rattle.std.proofs.Common.{◌≡◌, drop, chars}
use Rattle.std.specs.List.{list_any}
use Rattle.schema_values.specs.declared.json_value.Json.{Text}
use Rattle.schema_values.specs.Same.{same_json}
use Rattle.openapi_values.proofs.asked.is_text_among.Given as goal

abbrev pub invariant-loop-value : goal.invariant-loop-value
invariant-loop-value l = list_any (same_json (Text (chars l.text))) (drop l.value-index l.values) ≡ list_any (same_json (Text (chars l.text))) l.fn.values
