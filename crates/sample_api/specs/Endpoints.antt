-- The endpoints of the sample: what is said of each, and which operation its handler does.
use Rattle.std.specs.Prelude.{ℕ, true, false, List, [], ◌∷◌, Some, None, codes}
use Rattle.request_parts.specs.declared.content_type.ApiEndpointBodyContentType.TheVariants.{Json}
use Rattle.api_versions.specs.Ranges.{all, from}
use Rattle.api_versions.specs.Shown.{range_of}
use Rattle.api_declarations.specs.Values.{DeclarationValue}
use Rattle.sample_api.specs.declared.endpoint.SampleEndpoint.{SampleEndpoint}
use Rattle.sample_types.specs.declared.operation.Operation.{Operation}
use Rattle.sample_types.specs.declared.operation.Operation.TheVariants as operations
use Rattle.sample_types.specs.Operations.{name_of, shape_of}

-- what is said of an endpoint of the sample, as it is meant to be made: typed bodies are JSON, and no tags are given
abbrev pub declared : SampleEndpoint → DeclarationValue
declared e = record {
  operation_id = e.operation_id;
  method = e.method;
  path = e.path;
  body_content_type = Json;
  versions = range_of e.versions;
  visible = e.visible;
  deprecated = false;
  tags = [];
  summary = None;
  description = None;
  body_limit = e.body_limit;
  shape = e.handler.value.shape;
}

-- that, and what its handler does
abbrev pub served : SampleEndpoint → DeclarationValue × Operation
served e = (declared e, e.handler.value.operation)

-- an operation under a method and a path, in all versions, that is shown
abbrev pub usual : Operation → List ℕ → List ℕ → DeclarationValue
usual operation method path = record {
  operation_id = name_of operation;
  method = method;
  path = path;
  body_content_type = Json;
  versions = all;
  visible = true;
  deprecated = false;
  tags = [];
  summary = None;
  description = None;
  body_limit = None;
  shape = shape_of operation;
}

abbrev pub point_create_declared : DeclarationValue
point_create_declared = usual operations.PointCreate (codes "POST") (codes "/points")

abbrev pub point_probe_declared : DeclarationValue
point_probe_declared = usual operations.PointProbe (codes "GET") (codes "/points/{label}")

-- from version 2.0.0 on
abbrev pub point_drop_declared : DeclarationValue
point_drop_declared = record (usual operations.PointDrop (codes "DELETE") (codes "/points/{label}")) {
  versions = from (2, 0, 0, [], []);
}

-- bodies of at most 8 bytes
abbrev pub raw_size_declared : DeclarationValue
raw_size_declared = record (usual operations.RawSize (codes "PUT") (codes "/raw")) { body_limit = Some 8 }

abbrev pub folder_count_declared : DeclarationValue
folder_count_declared = usual operations.FolderCount (codes "POST") (codes "/folders")

-- hidden
abbrev pub inner_declared : DeclarationValue
inner_declared = record (usual operations.Inner (codes "GET") (codes "/inner")) { visible = false }

-- all, in order
abbrev pub all_served : List (DeclarationValue × Operation)
all_served = (point_create_declared, operations.PointCreate)
    ∷ (point_probe_declared, operations.PointProbe)
    ∷ (point_drop_declared, operations.PointDrop)
    ∷ (raw_size_declared, operations.RawSize)
    ∷ (folder_count_declared, operations.FolderCount)
    ∷ (inner_declared, operations.Inner) ∷ []
