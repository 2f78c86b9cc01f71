use Rattle.std.proofs.Common.{◌≡◌, false, None, [], ◌∷◌, IfOk, map, option_map, unwrap_or, codes, refl, sym, subst, ap, ◌∙◌}
use Rattle.std.proofs.lemmas.Result.{on_ok_weaker}
use Rattle.schema_values.specs.declared.json_value.Json.{List as ListOf}
use Rattle.schema_values.specs.declared.schema.ObjectParts.{out-ObjectParts}
use Rattle.schema_values.specs.declared.schema.SchemaObject.{out-SchemaObject}
use Rattle.openapi_values.specs.Objects.{unless_empty, pair_member}
use Rattle.openapi_values.specs.SchemaJson.{untitled, annotations, type_entries, without_values, entries_behind, object_level, additional_json, schemas_json, names_json, count_json, schema_written, object_written, items_written, property_written}
use Rattle.openapi_values.proofs.ObjectLemmas.{Adds, first, added, joined, object}
use Rattle.openapi_values.proofs.SchemaLevels.{truth-is, object-under, item-is, tuple-is, property-is, array-is, subschemas-are, object_parts-are, reference-is, parts-are}
use Rattle.openapi_values.proofs.written.+written.Goals as goal

pub written-returns-in-Bool : goal.written-returns-in-Bool
written-returns-in-Bool t c =
    subst (λ j. IfOk c.truth_json.result (λ json. json ≡ j)) (sym (ap (λ s. (schema_written s).under c.args.title.now) c.in-Bool.is ∙ ap (λ w. w.under c.args.title.now) (truth-is c.in-Bool.truth))) c.truth_json.ensures

pub written-returns-in-Object : goal.written-returns-in-Object
written-returns-in-Object t c =
    let title = c.args.title.now in
    let eq = ap (λ s. (schema_written s).under title) c.in-Object.is ∙ ap (λ w. w.under title) (object-under c.in-Object.object) ∙ ap (λ o. object_written o title) (sym c.get.ensures) in
    subst (λ j. IfOk c.object_json.result (λ json. json ≡ j)) (sym eq) c.object_json.ensures

pub object_json-returns-in-Some : goal.object_json-returns-in-Some
object_json-returns-in-Some t c =
    subst (λ j. IfOk c.reference.result (λ json. json ≡ j)) (sym (reference-is c.args.schema.now c.args.title.now c.in-Some.text c.in-Some.is)) c.reference.ensures

pub object_json-returns : goal.object_json-returns
object_json-returns t c =
    let annotated : Adds _ (annotations c.args.title.now (out-SchemaObject c.args.schema.now)) _ = record { are = c.in_ok-add_annotations.ensures } in
    object c.new-members.ensures (joined annotated (entries_behind (object_level c.args.schema.now)) _ c.in_ok-add_behind.ensures)
    ∙ sym (parts-are c.args.schema.now c.args.title.now c.in_default.not-Some)

pub add_behind-returns : goal.add_behind-returns
add_behind-returns t c =
    let level = object_level c.args.schema.now in
    let given : without_values level.enum_values ≡ false = sym c.is_without_values.ensures ∙ c.if-is_without_values.false in
    let typed : Adds _ (type_entries level.instance_type level) _ = record { are = c.in_ok-add_type.ensures } in
    rw given (on_ok_weaker c.add_subschemas.result (λ new. (joined typed (unwrap_or level.subschemas []) _ new).are) c.add_subschemas.ensures)

pub add_array_parts-returns : goal.add_array_parts-returns
add_array_parts-returns t c =
    let array = c.args.array.now in
    let items = first (codes "items") (option_map items_written array.items) _ _ _ c.in_ok-add.ensures c.in_ok-items.ensures in
    let counts = (codes "minItems", count_json array.min) ∷ (codes "maxItems", count_json array.max) ∷ [] in
    rw (array-is array) (on_ok_weaker c.add_counts.result (λ new. (joined items counts _ new).are) c.add_counts.ensures)

pub item_json-returns-in-One : goal.item_json-returns-in-One
item_json-returns-in-One t c =
    subst (λ j. IfOk c.written.result (λ json. json ≡ j)) (sym (ap items_written c.in-One.is ∙ item-is c.in-One.schema)) c.written.ensures

pub item_json-returns-in_ok-list_json-in-Tuple : goal.item_json-returns-in_ok-list_json-in-Tuple
item_json-returns-in_ok-list_json-in-Tuple t c =
    ap ListOf (c.in_ok-list_json-in-Tuple.ensures ∙ ap (λ schemas. map untitled (map schema_written schemas)) c.as_slice.ensures)
    ∙ sym (ap items_written c.in-Tuple.is ∙ tuple-is c.in-Tuple.schemas)

pub add_object_parts-returns : goal.add_object_parts-returns
add_object_parts-returns t c =
    let parts = out-ObjectParts c.args.object.now in
    let properties = first (codes "properties") (unless_empty (map pair_member (map property_written parts.properties))) _ _ _ c.in_ok-add.ensures c.in_ok-properties.ensures in
    let required = added properties (codes "required") (names_json parts.required) _ _ c.in_ok-add_list.ensures refl in
    let additional = added required (codes "additionalProperties") (option_map additional_json (option_map schema_written parts.additional)) _ _ c.in_ok-add-2.ensures c.in_ok-additional.ensures in
    let counts = (codes "minProperties", count_json parts.min) ∷ (codes "maxProperties", count_json parts.max) ∷ [] in
    rw (object_parts-are c.args.object.now) (on_ok_weaker c.add_counts.result (λ new. (joined additional counts _ new).are) c.add_counts.ensures)

pub property_member-returns : goal.property_member-returns
property_member-returns t c =
    rw (c.in_ok-name.ensures, c.in_ok-value.ensures) (ap pair_member (sym (property-is c.args.property.now)))

pub truth_or_schema-returns-in-Bool : goal.truth_or_schema-returns-in-Bool
truth_or_schema-returns-in-Bool t c = sym (ap (λ s. additional_json (schema_written s)) c.in-Bool.is ∙ ap additional_json (truth-is c.in-Bool.truth))

pub truth_or_schema-returns-in-Object : goal.truth_or_schema-returns-in-Object
truth_or_schema-returns-in-Object t c =
    let eq = ap (λ s. additional_json (schema_written s)) c.in-Object.is ∙ ap additional_json (object-under c.in-Object.object) ∙ ap (λ o. object_written o None) (sym c.get.ensures) in
    subst (λ j. IfOk c.object_json.result (λ json. json ≡ j)) (sym eq) c.object_json.ensures

pub add_schemas-returns : goal.add_schemas-returns
add_schemas-returns t c =
    let subschemas = c.args.subschemas.now in
    let all_of = first (codes "allOf") (schemas_json (option_map (map schema_written) subschemas.all_of)) _ _ _ c.in_ok-add.ensures c.in_ok-all_of.ensures in
    let any_of = added all_of (codes "anyOf") (schemas_json (option_map (map schema_written) subschemas.any_of)) _ _ c.in_ok-add-2.ensures c.in_ok-any_of.ensures in
    let one_of = added any_of (codes "oneOf") (schemas_json (option_map (map schema_written) subschemas.one_of)) _ _ c.in_ok-add-3.ensures c.in_ok-one_of.ensures in
    rw (subschemas-are subschemas) (on_ok_weaker c.add-4.result (λ new. (added one_of (codes "not") (option_map untitled (option_map schema_written subschemas.not)) _ _ new c.in_ok-not.ensures).are) c.add-4.ensures)
