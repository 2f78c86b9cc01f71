-- What the crates above cite of this one's proofs. Other files of proofs are its own.

-- ---- lists, members and names
pub use Rattle.openapi_values.proofs.Steps.{all_same, has_changed}
pub use Rattle.openapi_values.proofs.ObjectLemmas.{members_of-append}
pub use Rattle.openapi_values.proofs.Keyed.{IsKeyed, is_new, none_keyed, passed, put}
pub use Rattle.openapi_values.proofs.SoundLevels.{found_sound, under_sound, listed_sound, named_sound}
-- ---- what a schema admits, step by step
pub use Rattle.openapi_values.proofs.Steps.{admits-zero, admits-suc}
pub use Rattle.openapi_values.proofs.RoomLemmas.{values_is, values_row}
-- ---- a written document: what stands in it, and that it is sound
pub use Rattle.openapi_values.proofs.Stands.{get-object, operation-stands, definition-stands, pages-stand}
unfoldable pub use Rattle.openapi_values.proofs.SchemasOfDocument.{total}
pub use Rattle.openapi_values.proofs.SchemasOfDocument.{total_cons, schemas_in, definition_found, schemas_fit}
pub use Rattle.openapi_values.proofs.SoundDocuments.{document_sound}
-- ---- requests that an operation admits, and responses that conform to it
pub use Rattle.openapi_values.proofs.ParameterRead.{parameter_read}
pub use Rattle.openapi_values.proofs.JsonBodies.{json_bodies}
pub use Rattle.openapi_values.proofs.ListedResponses.{responses-conform}
pub use Rattle.openapi_values.proofs.ConformingBodies.{any_body, json_body}
-- ---- how a `Schema` is written, and why it is refused, part by part
pub use Rattle.openapi_values.proofs.PartMaps.{items-map, additional-map, array-map, object-map, subschemas-map, all_of-map}
pub use Rattle.openapi_values.proofs.SchemaLevels.{truth-is, object-under, item-is, tuple-is, property-is, array-is, subschemas-are, object_parts-are, object-is}
pub use Rattle.openapi_values.proofs.RefusalLevels.{truth-is as truth-refusal, object-is as object-refusal, item-is as item-refusal, tuple-is as tuple-refusal, property-is as property-refusal, array-is as array-refusal, object_parts-are as object_parts-refusal, one_kind-is as one_kind-refusal, inner-is as inner-refusal, parts-are as parts-refusal}
