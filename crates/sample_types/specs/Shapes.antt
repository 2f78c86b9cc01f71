-- The shapes of the operations of the sample: what each takes and gives.
use Rattle.std.specs.Prelude.{◌≡◌, ℕ, List, [], ◌∷◌, Some, None, codes}
use Rattle.descriptors.specs.declared.desc.Desc.{Desc}
use Rattle.descriptors.specs.declared.desc.Desc.TheVariants as descs
use Rattle.descriptors.specs.declared.desc.IntKind.TheVariants as kinds
use Rattle.descriptors.specs.declared.table.Definition.{Definition}
use Rattle.descriptors.specs.Definitions.{entry_of}
use Rattle.http_status.specs.ErrorBodies.{error_definition, error_desc}
use Rattle.handler_shapes.specs.declared.shape.ApiEndpointResponse.{ApiEndpointResponse}
use Rattle.handler_shapes.specs.declared.shape.ContentShape.{ContentShape}
use Rattle.handler_shapes.specs.declared.shape.ContentShape.TheVariants as contents
use Rattle.handler_shapes.specs.declared.shape.HandlerShape.{HandlerShape}
use Rattle.handler_shapes.specs.declared.slot.Slot.{Slot}
use Rattle.handler_shapes.specs.declared.slot.Slot.TheVariants as slots
use Rattle.own_types.specs.Folders.{folder_definition, folder_desc}
use Rattle.sample_types.specs.Types.{label_path_desc, number_of, point_definition, point_desc}
use Rattle.sample_types.specs.Types.{probe_desc, probe_header_desc, probe_query_desc}

-- ---- definitions

-- some definitions are one, of a name that a table lacks
pub record IsOnlyNew (definitions table : List Definition) : Type 0 where
  pub own : Definition
  pub alone : definitions ≡ own ∷ []
  pub new : entry_of table own.name ≡ None

-- ---- responses

-- a success of this content, without named headers
abbrev pub success_of : ContentShape → ℕ → List ℕ → ApiEndpointResponse
success_of content code description =
    record { content = content; headers = None; success = Some code; description = description }

abbrev pub json_of : Desc → List ℕ → ℕ → List ℕ → ApiEndpointResponse
json_of desc name = success_of (contents.Json desc name)

-- a shape whose errors are those of the library
abbrev pub shape_with : List Definition → List Slot → ApiEndpointResponse → HandlerShape
shape_with table slots response = record {
  table = table;
  slots = slots;
  response = response;
  error = Some (record { desc = error_desc; name = codes "Error" });
}

-- ---- the shapes

abbrev pub point_create_shape : HandlerShape
point_create_shape = shape_with (point_definition ∷ error_definition ∷ [])
    (slots.TypedBody point_desc (codes "Point") ∷ [])
    (json_of point_desc (codes "Point") 201 (codes "successful creation"))

abbrev pub point_probe_shape : HandlerShape
point_probe_shape = shape_with (error_definition ∷ [])
    (slots.Path label_path_desc ∷ slots.Query probe_query_desc ∷ slots.Header probe_header_desc ∷ [])
    (json_of probe_desc (codes "Probe") 200 (codes "successful operation"))

abbrev pub point_drop_shape : HandlerShape
point_drop_shape = shape_with (error_definition ∷ []) (slots.Path label_path_desc ∷ [])
    (success_of contents.Empty 204 (codes "successful deletion"))

abbrev pub raw_size_shape : HandlerShape
raw_size_shape = shape_with (error_definition ∷ []) (slots.RawBody ∷ [])
    (json_of (number_of kinds.U64) (codes "uint64") 200 (codes "successful operation"))

abbrev pub folder_count_shape : HandlerShape
folder_count_shape = shape_with (folder_definition ∷ error_definition ∷ [])
    (slots.TypedBody folder_desc (codes "Folder") ∷ [])
    (json_of (number_of kinds.U32) (codes "uint32") 200 (codes "successful operation"))

abbrev pub inner_shape : HandlerShape
inner_shape = shape_with (error_definition ∷ []) []
    (json_of descs.Bool (codes "Boolean") 200 (codes "successful operation"))
