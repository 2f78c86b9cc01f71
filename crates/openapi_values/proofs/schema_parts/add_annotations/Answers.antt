use Rattle.std.proofs.Common.{codes, option_map, refl}
use Rattle.std.specs.Option.{option_or}
use Rattle.schema_values.specs.Get.{first_named}
use Rattle.schema_values.specs.declared.json_value.Json.{Text}
use Rattle.schema_values.specs.declared.schema.SchemaObject.{out-SchemaObject}
use Rattle.openapi_values.specs.IfTrue.{if_true}
use Rattle.openapi_values.specs.SchemaJson.{extension_entries}
use Rattle.openapi_values.proofs.ObjectLemmas.{first, added, joined}
use Rattle.openapi_values.proofs.schema_parts.add_annotations.Goals as goal

pub returns : goal.returns
returns c =
    let schema = out-SchemaObject c.args.schema.now in
    let nullable = first (codes "nullable") (if_true schema.nullable) _ _ _ c.in_ok-add.ensures c.true_json.ensures in
    let read_only = added nullable (codes "readOnly") (if_true schema.read_only) _ _ c.in_ok-add-2.ensures c.true_json-2.ensures in
    let write_only = added read_only (codes "writeOnly") (if_true schema.write_only) _ _ c.in_ok-add-3.ensures c.true_json-3.ensures in
    let deprecated = added write_only (codes "deprecated") (if_true schema.deprecated) _ _ c.in_ok-add-4.ensures c.true_json-4.ensures in
    let shown = added deprecated (codes "example") (first_named (codes "example") schema.extensions) _ _ c.in_ok-add-5.ensures (rw c.as_slice.ensures at c.in_ok-example.ensures) in
    let titled = added shown (codes "title") (option_map Text (option_or c.args.given.now schema.title)) _ _ c.in_ok-add-6.ensures c.in_ok-title.ensures in
    let described = added titled (codes "description") (option_map Text schema.description) _ _ c.in_ok-add_option.ensures refl in
    let defaulted = added described (codes "default") schema.default _ _ c.in_ok-add-7.ensures c.in_ok-default.ensures in
    (joined defaulted (extension_entries schema.extensions) _ (rw c.as_slice-2.ensures at c.in_ok-add_extensions.ensures)).are
