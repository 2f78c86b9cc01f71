use Rattle.std.proofs.Common.{◌≡◌, [], ◌∷◌, map, refl, append_assoc, arith}
use Rattle.std.proofs.lemmas.List.{map-append, map_more}
use Rattle.schema_values.specs.declared.json_value.Json.{Text as Words}
use Rattle.schema_values.specs.Order.{property_name, sorted_by}
use Rattle.descriptors.specs.declared.desc.Desc.TheVariants as desc
use Rattle.typed_values.specs.Schemas.{object_of, property, property_of, enumerated, schema_parts, sketch_of_field, sketch_of_tagged}
use Rattle.typed_values.proofs.SchemaRows.{sketch_are, parts_are, struct_parts_are, external_parts_are, tagged_parts_are, choice_parts_are, other_members_are}
use Rattle.typed_values.proofs.+schema.Goals as goal

pub schemas::parts_of-returns-in-Any : goal.schemas::parts_of-returns-in-Any
schemas::parts_of-returns-in-Any t c = rw (parts_are c.args.table.now c.in-Any.is desc.outs-Any) c.new.ensures

pub schemas::parts_of-returns-in-Never : goal.schemas::parts_of-returns-in-Never
schemas::parts_of-returns-in-Never t c = rw (parts_are c.args.table.now c.in-Never.is desc.outs-Never) c.never_parts.ensures

pub schemas::parts_of-returns-in-Null : goal.schemas::parts_of-returns-in-Null
schemas::parts_of-returns-in-Null t c = rw (parts_are c.args.table.now c.in-Null.is desc.outs-Null) c.of_single.ensures

pub schemas::parts_of-returns-in-Bool : goal.schemas::parts_of-returns-in-Bool
schemas::parts_of-returns-in-Bool t c = rw (parts_are c.args.table.now c.in-Bool.is desc.outs-Bool) c.of_single-in-Bool.ensures

pub schemas::parts_of-returns-in-Char : goal.schemas::parts_of-returns-in-Char
schemas::parts_of-returns-in-Char t c = rw (parts_are c.args.table.now c.in-Char.is desc.outs-Char) c.char_parts.ensures

pub schemas::parts_of-returns-in-Int : goal.schemas::parts_of-returns-in-Int
schemas::parts_of-returns-in-Int t c = rw (parts_are c.args.table.now c.in-Int.is (desc.outs-Int c.in-Int.kind c.in-Int.min c.in-Int.max)) c.int_parts.ensures

pub schemas::parts_of-returns-in-Text : goal.schemas::parts_of-returns-in-Text
schemas::parts_of-returns-in-Text t c = rw (parts_are c.args.table.now c.in-Text.is (desc.outs-Text c.in-Text.min c.in-Text.max c.in-Text.format)) c.text_parts.ensures

pub schemas::parts_of-returns-in-Enumeration : goal.schemas::parts_of-returns-in-Enumeration
schemas::parts_of-returns-in-Enumeration t c =
    rw (parts_are c.args.table.now c.in-Enumeration.is (desc.outs-Enumeration c.in-Enumeration.names), ← c.as_slice.ensures) c.enumeration_parts.ensures

pub schemas::parts_of-returns-in_ok-parts_of-in-Option : goal.schemas::parts_of-returns-in_ok-parts_of-in-Option
schemas::parts_of-returns-in_ok-parts_of-in-Option t c =
    rw (parts_are c.args.table.now c.in-Option.is (desc.outs-Option c.in-Option.inner), ← c.get.ensures, ← c.in_ok-parts_of-in-Option.ensures) c.with_null.ensures

pub schemas::parts_of-returns-in_ok-parts_of-in-List : goal.schemas::parts_of-returns-in_ok-parts_of-in-List
schemas::parts_of-returns-in_ok-parts_of-in-List t c =
    rw (parts_are c.args.table.now c.in-List.is (desc.outs-List c.in-List.item c.in-List.min c.in-List.max), ← c.get-in-List.ensures, ← c.in_ok-parts_of-in-List.ensures) c.list_parts.ensures

pub schemas::parts_of-returns-in_ok-other_members-in-Map : goal.schemas::parts_of-returns-in_ok-other_members-in-Map
schemas::parts_of-returns-in_ok-other_members-in-Map t c =
    rw (c.map_parts.ensures, parts_are c.args.table.now c.in-Map.is (desc.outs-Map c.in-Map.value), c.in_ok-other_members-in-Map.ensures, c.get-in-Map.ensures) refl

pub schemas::parts_of-returns-in_ok-properties-in-Struct : goal.schemas::parts_of-returns-in_ok-properties-in-Struct
schemas::parts_of-returns-in_ok-properties-in-Struct t c =
    let table = c.args.table.now in
    rw (struct_parts_are table c.args.desc.now c.in-Struct.fields c.in-Struct.deny_unknown c.in-Struct.is) (rw (c.in_ok-properties-in-Struct.ensures, c.new-in-Struct.ensures.items, c.as_slice-fields.ensures) at (c.object_parts.ensures table))

pub schemas::parts_of-returns-in-External : goal.schemas::parts_of-returns-in-External
schemas::parts_of-returns-in-External t c =
    rw (external_parts_are c.args.table.now c.args.desc.now c.in-External.variants c.in-External.is, ← c.as_slice-in-External.ensures) c.external_parts.ensures

pub schemas::parts_of-returns-in-Tagged : goal.schemas::parts_of-returns-in-Tagged
schemas::parts_of-returns-in-Tagged t c =
    rw (tagged_parts_are c.args.table.now c.args.desc.now c.in-Tagged.tag c.in-Tagged.variants c.in-Tagged.is, ← c.as_slice-in-Tagged.ensures) c.tagged_parts.ensures

pub schemas::parts_of-returns-in_ok-schemas-in-Untagged : goal.schemas::parts_of-returns-in_ok-schemas-in-Untagged
schemas::parts_of-returns-in_ok-schemas-in-Untagged t c =
    rw (c.choice_parts.ensures, choice_parts_are c.args.table.now c.args.desc.now c.in-Untagged.alternatives c.in-Untagged.is, c.in_ok-schemas-in-Untagged.ensures, c.as_slice-in-Untagged.ensures) refl

pub schemas::parts_of-returns-in-Ref : goal.schemas::parts_of-returns-in-Ref
schemas::parts_of-returns-in-Ref t c = rw (parts_are c.args.table.now c.in-Ref.is (desc.outs-Ref c.in-Ref.name)) c.ref_parts.ensures

pub schemas::other_members-returns-in-Any : goal.schemas::other_members-returns-in-Any
schemas::other_members-returns-in-Any t c = rw (sketch_are c.args.table.now c.in-Any.is desc.outs-Any) refl

pub schemas::other_members-returns-in-Never : goal.schemas::other_members-returns-in-Never
schemas::other_members-returns-in-Never t c = rw (sketch_are c.args.table.now c.in-Never.is desc.outs-Never) refl

pub schemas::other_members-returns-in_ok-parts_of-in_default : goal.schemas::other_members-returns-in_ok-parts_of-in_default
schemas::other_members-returns-in_ok-parts_of-in_default t c =
    rw (other_members_are c.args.table.now c.args.desc.now c.in_default.not-Any c.in_default.not-Never, ← c.in_ok-parts_of-in_default.ensures) c.object_of.ensures

pub schemas::schemas_of-loop-desc-preserved : goal.schemas::schemas_of-loop-desc-preserved
schemas::schemas_of-loop-desc-preserved t c =
    let more = map_more (λ d. object_of (schema_parts c.args.table.now d)) c.args.descs.now c.loop-desc.desc-index c.desc-item.result (omega arith) in
    rw (c.in_ok-push_schema.ensures, c.loop-desc.invariant, more, ← c.desc-item.is, c.in_ok-parts_of.ensures) refl

pub schemas::properties_of-loop-field-preserved : goal.schemas::properties_of-loop-field-preserved
schemas::properties_of-loop-field-preserved t c =
    let more = map_more (sketch_of_field c.args.table.now) c.args.fields.now c.loop-field.field-index c.field-item.result (omega arith) in
    rw (c.in_ok-push_property.ensures, c.in_ok-annotations.ensures.description, c.in_ok-annotations.ensures.default, c.in_ok-parts.ensures, c.loop-field.invariant, more, map-append, append_assoc, ← c.field-item.is) refl

pub schema_variants::external_parts-loop-variant-init : goal.schema_variants::external_parts-loop-variant-init
schema_variants::external_parts-loop-variant-init t c =
    rw (c.in_ok-choices.ensures c.args.table.now) refl

pub schema_variants::tagged_parts-loop-variant-preserved : goal.schema_variants::tagged_parts-loop-variant-preserved
schema_variants::tagged_parts-loop-variant-preserved t c =
    let table = c.args.table.now in
    let tag = c.args.tag.now in
    let v = sketch_of_tagged table c.variant-item.result in
    let more = map_more (sketch_of_tagged table) c.args.variants.now c.loop-variant.variant-index c.variant-item.result (omega arith) in
    let properties : c.in_ok-properties-2.properties ≡ sorted_by property_name (property tag (enumerated (Words v.name ∷ [])) ∷ map (property_of table) v.fields) =
    rw (c.in_ok-properties-2.ensures, c.in_ok-properties.ensures, c.as_slice.ensures) refl in
    rw (c.in_ok-push_tagged.ensures table, properties, c.loop-variant.invariant, more, map-append, ← c.variant-item.is) refl
