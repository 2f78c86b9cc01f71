use Rattle.std.proofs.Common.{◌≡◌, List, Some, None, if◌then◌else◌, refl}
use Rattle.std.specs.List.{list_all}
use Rattle.schema_values.specs.declared.json_value.Json.{Json}
use Rattle.schema_values.specs.declared.schema.InstanceType.{InstanceType}
use Rattle.schema_values.specs.declared.schema.InstanceType.TheVariants.{Null, Boolean, Object, Array, Number, String, Integer}
use Rattle.openapi_values.specs.declared.j2oas.J2oasError.TheVariants.{BadEnumValue}
use Rattle.openapi_values.specs.Refusal.{is_value_of, values_beside}
use Rattle.openapi_values.proofs.refusal.refusal_beside_type.Goals as goal

beside_others : (type : InstanceType) (values : List Json) → (type ≡ Object → ⊥) → (type ≡ Array → ⊥) → values_beside type values ≡ (if list_all (is_value_of type) values then None else Some BadEnumValue)
beside_others Null values o a = refl
beside_others Boolean values o a = refl
beside_others Object values o a = absurd (o refl)
beside_others Array values o a = absurd (a refl)
beside_others Number values o a = refl
beside_others String values o a = refl
beside_others Integer values o a = refl

pub returns-in_default : goal.returns-in_default
returns-in_default c = rw (beside_others c.args.kind c.args.values.now c.in_default.not-Object c.in_default.not-Array, ← c.are_values_of.ensures, c.if-are_values_of.true) refl
