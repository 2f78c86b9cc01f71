-- A parameter of a document, by its place, its name, whether it is required, and its schema.
use Rattle.std.proofs.Common.{◌≡◌, ℕ, Bool, List, Some, codes, refl}
use Rattle.schema_values.specs.declared.json_value.Json.{Json}
use Rattle.schema_values.specs.Get.{get_of}
use Rattle.request_words.specs.declared.request.WireRequest.{WireRequest}
use Rattle.openapi_values.specs.RequestParameters.{text_of, is_true_at, placed_holds, parameter_holds}
use Rattle.openapi_values.specs.TextAdmits.{text_admitted}

pub parameter_read : (doc : Json) (request : WireRequest) (in_query : (List ℕ → Bool) → Bool → List ℕ → Bool) (parameter : Json) (place name : List ℕ) (schema : Json)
    → text_of (codes "in") parameter ≡ Some place → text_of (codes "name") parameter ≡ Some name → get_of (codes "schema") parameter ≡ Some schema
    → placed_holds request in_query (text_admitted doc schema) (is_true_at (codes "required") parameter) name place ≡ parameter_holds doc request in_query parameter
parameter_read doc request in_query parameter place name schema at_place at_name at_schema = rw (at_place, at_name, at_schema) refl
