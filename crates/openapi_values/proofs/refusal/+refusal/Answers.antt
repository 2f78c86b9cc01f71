use Rattle.std.proofs.Common.{rules, sym, ap, ◌∙◌}
use Rattle.openapi_values.specs.Refusal.{refusal_of, object_refusal}
use Rattle.openapi_values.proofs.RefusalLevels.{truth-is, object-is, item-is, tuple-is, property-is, array-is, object_parts-are, inner-is, parts-are}
use Rattle.openapi_values.proofs.refusal.+refusal.Goals as goal

pub refusal-returns-in-Bool : goal.refusal-returns-in-Bool
refusal-returns-in-Bool t c = sym (ap refusal_of c.in-Bool.is ∙ truth-is _)

pub refusal-returns-in-Object : goal.refusal-returns-in-Object
refusal-returns-in-Object t c = c.object_refusal.ensures ∙ ap object_refusal c.get.ensures ∙ sym (ap refusal_of c.in-Object.is ∙ object-is c.in-Object.object)

pub object_refusal-returns-in-Some : goal.object_refusal-returns-in-Some
object_refusal-returns-in-Some t c = rw (parts-are c.args.schema.now) (search rules)

pub object_refusal-returns-in-Some-own_refusal : goal.object_refusal-returns-in-Some-own_refusal
object_refusal-returns-in-Some-own_refusal t c = rw (parts-are c.args.schema.now) (search rules)

pub object_refusal-returns-in-None-own_refusal : goal.object_refusal-returns-in-None-own_refusal
object_refusal-returns-in-None-own_refusal t c = rw (parts-are c.args.schema.now) (search rules)

pub array_refusal-returns-in-Some : goal.array_refusal-returns-in-Some
array_refusal-returns-in-Some t c = rw (array-is c.args.array.now) (search rules)

pub array_refusal-returns-in-None : goal.array_refusal-returns-in-None
array_refusal-returns-in-None t c = rw (array-is c.args.array.now) (search rules)

pub items_refusal-returns-in-One : goal.items_refusal-returns-in-One
items_refusal-returns-in-One t c = rw (c.in-One.is, item-is c.in-One.schema) c.refusal.ensures

pub items_refusal-returns-in-Tuple : goal.items_refusal-returns-in-Tuple
items_refusal-returns-in-Tuple t c = rw (c.in-Tuple.is, tuple-is c.in-Tuple.schemas, ← c.as_slice.ensures) c.list_refusal.ensures

pub object_parts_refusal-returns-in-Some : goal.object_parts_refusal-returns-in-Some
object_parts_refusal-returns-in-Some t c = rw (object_parts-are c.args.object.now) (search rules)

pub object_parts_refusal-returns-in-None : goal.object_parts_refusal-returns-in-None
object_parts_refusal-returns-in-None t c = rw (object_parts-are c.args.object.now) (search rules)

pub property_refusal-returns : goal.property_refusal-returns
property_refusal-returns t c = c.refusal.ensures ∙ sym (property-is c.args.property.now)

pub subschemas_refusal-returns-in-Some : goal.subschemas_refusal-returns-in-Some
subschemas_refusal-returns-in-Some t c = rw (inner-is c.args.subschemas.now) (search rules)

pub subschemas_refusal-returns-in-Some-schemas_refusal : goal.subschemas_refusal-returns-in-Some-schemas_refusal
subschemas_refusal-returns-in-Some-schemas_refusal t c = rw (inner-is c.args.subschemas.now) (search rules)

pub subschemas_refusal-returns-in-Some-schemas_refusal-2 : goal.subschemas_refusal-returns-in-Some-schemas_refusal-2
subschemas_refusal-returns-in-Some-schemas_refusal-2 t c = rw (inner-is c.args.subschemas.now) (search rules)

pub subschemas_refusal-returns : goal.subschemas_refusal-returns
subschemas_refusal-returns t c = rw (inner-is c.args.subschemas.now) (search rules)
