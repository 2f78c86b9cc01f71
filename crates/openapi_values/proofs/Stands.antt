-- What is found in a written document.
use Rattle.std.proofs.Common.{◌≡◌, ℕ, Bool, true, false, ◌&&◌, not, cond, List, [], ◌∷◌, map, Option, Some, None, option_map, option_and_then, unwrap_or, bytes_eq, codes, refl, sym, ◌∙◌, ap}
use Rattle.std.specs.List.{list_all}
use Rattle.std.proofs.lemmas.Bool.{and_parts}
use Rattle.std.proofs.lemmas.Slice.Eq.{bytes_eq-Decides}
use Rattle.schema_values.specs.declared.json_value.Json.{Json, Object, out-Json}
use Rattle.schema_values.specs.declared.json_value.Json.TheVariants.{outs-List, outs-Object}
use Rattle.schema_values.specs.declared.json_value.Member.{Member}
use Rattle.schema_values.specs.Get.{get_of, first_named}
use Rattle.openapi_values.specs.declared.document.OpenApi.{OpenApi}
use Rattle.openapi_values.specs.declared.media.MediaType.{MediaType}
use Rattle.openapi_values.specs.declared.media.RequestBody.{RequestBody}
use Rattle.openapi_values.specs.declared.media.ResponseObject.{ResponseObject}
use Rattle.openapi_values.specs.declared.operation.Operation.{Operation}
use Rattle.openapi_values.specs.declared.operation.PathItem.{PathItem}
use Rattle.openapi_values.specs.Admits.{method_member, path_item_at, operation_at, parameters_of}
use Rattle.openapi_values.specs.RequestBodies.{media_in}
use Rattle.openapi_values.specs.Conforms.{response_named}
use Rattle.openapi_values.specs.Document.{components_entries, components_json, open_api_entries, open_api_json}
use Rattle.openapi_values.specs.Find.{value_at, method_of, operation_in, definition_in, response_in}
use Rattle.openapi_values.specs.Levels.{as_list}
use Rattle.openapi_values.specs.Lookup.{member_in, definition}
use Rattle.openapi_values.specs.Objects.{Entry, present, members_of, object_of, list_unless_empty, map_members, unless_empty}
use Rattle.openapi_values.specs.Operation.{media_type_entries, media_type_json, request_body_entries, request_body_json, content_json, described_entries, described_json, response_json, pagination_json, operation_entries, operation_json, path_item_entries, path_item_json}
use Rattle.openapi_values.specs.Parameters.{parameter_json, header_json}

pub get-object : (name : List ℕ) (ms : List Member) → get_of name (Object ms) ≡ first_named name ms
get-object name ms = rw (outs-Object ms) refl

-- whether no entry has a name
abbrev lacks : List ℕ → List Entry → Bool
lacks name es = list_all (λ e. not (bytes_eq name e.0)) es

abbrev are_distinct : List Entry → Bool
are_distinct [] = true
are_distinct (e ∷ es) = lacks e.0 es && are_distinct es

-- the value of a name, where an entry has one
abbrev value_of : List ℕ → List Entry → Option Json
value_of name [] = None
value_of name (e ∷ es) = cond (bytes_eq name e.0) e.1 (value_of name es)

not_true : (b : Bool) → not b ≡ true → b ≡ false
not_true true h = sym h
not_true false h = refl

lacking_at : (name n : List ℕ) (value : Option Json) (ms : List Member) → bytes_eq name n ≡ false → first_named name ms ≡ None → first_named name (present n value ms) ≡ None
lacking_at name n None ms b h = h
lacking_at name n (Some v) ms b h = ap (λ t. cond t (Some v) (first_named name ms)) b ∙ h

lacking : (name : List ℕ) (es : List Entry) → lacks name es ≡ true → first_named name (members_of es) ≡ None
lacking name [] h = refl
lacking name (e ∷ es) h = let parts = and_parts _ _ h in lacking_at name e.0 e.1 (members_of es) (not_true _ parts.0) (lacking name es parts.1)

found_at : (name n : List ℕ) (value : Option Json) (ms : List Member) (rest : Option Json) → (name ≡ n → first_named n ms ≡ None) → first_named name ms ≡ rest
    → (b : Bool) → bytes_eq name n ≡ b → first_named name (present n value ms) ≡ cond b value rest
found_at name n None ms rest none later true e = let same = (bytes_eq-Decides name n).0 e in ap (λ x. first_named x ms) same ∙ none same
found_at name n None ms rest none later false e = later
found_at name n (Some v) ms rest none later true e = ap (λ t. cond t (Some v) (first_named name ms)) e
found_at name n (Some v) ms rest none later false e = ap (λ t. cond t (Some v) (first_named name ms)) e ∙ later

-- an object of distinct names has the values that it was written from
first_named-members_of : (es : List Entry) (name : List ℕ) → are_distinct es ≡ true → first_named name (members_of es) ≡ value_of name es
first_named-members_of [] name h = refl
first_named-members_of (e ∷ es) name h =
    let parts = and_parts _ _ h in
    found_at name e.0 e.1 (members_of es) (value_of name es) (λ same. lacking e.0 es parts.0) (first_named-members_of es name parts.1) (bytes_eq name e.0) refl

pub get-object_of : (es : List Entry) (name : List ℕ) → are_distinct es ≡ true → get_of name (object_of es) ≡ value_of name es
get-object_of es name h = get-object name (members_of es) ∙ first_named-members_of es name h

map_at : {X : Type 0} (json : X → Json) (b : Bool) (pair : List ℕ × X) (o : Option (List ℕ × X)) (rest : Option Json) → rest ≡ option_map json (option_map (λ pair. pair.1) o)
    → cond b (Some (json pair.1)) rest ≡ option_map json (option_map (λ pair. pair.1) (cond b (Some pair) o))
map_at json true pair o rest h = refl
map_at json false pair o rest h = h

-- a map as it is written has the values of its names
pub first_named-map_members : {X : Type 0} (json : X → Json) (name : List ℕ) (pairs : List (List ℕ × X)) → first_named name (map_members json pairs) ≡ option_map json (value_at name pairs)
first_named-map_members json name [] = refl
first_named-map_members json name (pair ∷ pairs) = map_at json (bytes_eq name pair.0) pair _ _ (first_named-map_members json name pairs)

under_unless_empty : (name : List ℕ) (ms : List Member) → member_in (unless_empty ms) name ≡ first_named name ms
under_unless_empty name [] = refl
under_unless_empty name (m ∷ ms) = get-object name (m ∷ ms)

-- a map of parts, left out where it is empty, has those of its names
pub under_map : {X : Type 0} (json : X → Json) (name : List ℕ) (pairs : List (List ℕ × X)) → member_in (unless_empty (map_members json pairs)) name ≡ option_map json (value_at name pairs)
under_map json name pairs = under_unless_empty name (map_members json pairs) ∙ first_named-map_members json name pairs

same_option : {X : Type 0} (o : Option X) → option_map (λ x. x) o ≡ o
same_option None = refl
same_option (Some x) = refl

paths_stand : (document : OpenApi) (path : List ℕ) → path_item_at (open_api_json document) path ≡ option_map path_item_json (value_at path document.paths)
unfolding open_api_json
paths_stand document path =
    ap (λ o. member_in o path) (get-object_of (open_api_entries document) (codes "paths") refl)
    ∙ get-object path (map_members path_item_json document.paths)
    ∙ first_named-map_members path_item_json path document.paths

schemas_stand : (document : OpenApi) → member_in (get_of (codes "components") (open_api_json document)) (codes "schemas") ≡ unless_empty (map_members (λ schema. schema) document.components.schemas)
unfolding open_api_json components_json
schemas_stand document = ap (λ o. member_in o (codes "schemas")) (get-object_of (open_api_entries document) (codes "components") refl) ∙ get-object_of (components_entries document.components) (codes "schemas") refl

pub definition-stands : (document : OpenApi) (name : List ℕ) → definition (open_api_json document) name ≡ definition_in document name
definition-stands document name =
    ap (λ o. member_in o name) (schemas_stand document)
    ∙ under_map (λ schema. schema) name document.components.schemas
    ∙ same_option (value_at name document.components.schemas)

-- one method of the table
method_at : (found : List ℕ → Option Json) (b : Bool) (pair : List ℕ × List ℕ) (o : Option (List ℕ × List ℕ)) (operation rest : Option Operation)
    → found pair.1 ≡ option_map operation_json operation → option_and_then found (option_map (λ pair. pair.1) o) ≡ option_map operation_json rest
    → option_and_then found (option_map (λ pair. pair.1) (cond b (Some pair) o)) ≡ option_map operation_json (cond b operation rest)
method_at found true pair o operation rest h later = h
method_at found false pair o operation rest h later = later

methods_stand : (item : PathItem) (method : List ℕ) → option_and_then (λ name. get_of name (path_item_json item)) (method_member method) ≡ option_map operation_json (method_of method item)
unfolding path_item_json
methods_stand item method =
    method_at _ (bytes_eq (codes "GET") method) _ _ _ _ (get-object_of (path_item_entries item) (codes "get") refl)
    (method_at _ (bytes_eq (codes "PUT") method) _ _ _ _ (get-object_of (path_item_entries item) (codes "put") refl)
    (method_at _ (bytes_eq (codes "POST") method) _ _ _ _ (get-object_of (path_item_entries item) (codes "post") refl)
    (method_at _ (bytes_eq (codes "DELETE") method) _ _ _ _ (get-object_of (path_item_entries item) (codes "delete") refl)
    (method_at _ (bytes_eq (codes "OPTIONS") method) _ _ _ _ (get-object_of (path_item_entries item) (codes "options") refl)
    (method_at _ (bytes_eq (codes "HEAD") method) _ _ _ _ (get-object_of (path_item_entries item) (codes "head") refl)
    (method_at _ (bytes_eq (codes "PATCH") method) _ _ _ _ (get-object_of (path_item_entries item) (codes "patch") refl)
    (method_at _ (bytes_eq (codes "TRACE") method) _ _ _ _ (get-object_of (path_item_entries item) (codes "trace") refl) refl)))))))

none_found : (o : Option (List ℕ)) → option_and_then (member_in None) o ≡ None
none_found None = refl
none_found (Some name) = refl

under_item : (o : Option PathItem) (method : List ℕ) → option_and_then (member_in (option_map path_item_json o)) (method_member method) ≡ option_map operation_json (option_and_then (method_of method) o)
under_item None method = none_found (method_member method)
under_item (Some item) method = methods_stand item method

pub operation-stands : (document : OpenApi) (path method : List ℕ) → operation_at (open_api_json document) path method ≡ option_map operation_json (operation_in document path method)
operation-stands document path method =
    ap (λ o. option_and_then (member_in o) (method_member method)) (paths_stand document path) ∙ under_item (value_at path document.paths) method

pub body-stands : (operation : Operation) → get_of (codes "requestBody") (operation_json operation) ≡ option_map request_body_json operation.request_body
unfolding operation_json
body-stands operation = get-object_of (operation_entries operation) (codes "requestBody") refl

parameters_listed : (js : List Json) → unwrap_or (option_and_then (λ parameters. as_list (out-Json parameters)) (list_unless_empty js)) [] ≡ js
parameters_listed [] = refl
parameters_listed (j ∷ js) = rw (outs-List (j ∷ js)) refl

pub parameters-stand : (operation : Operation) → parameters_of (operation_json operation) ≡ map parameter_json operation.parameters
unfolding operation_json
parameters-stand operation = rw (get-object_of (operation_entries operation) (codes "parameters") refl) (parameters_listed (map parameter_json operation.parameters))

pub pages-stand : (operation : Operation) → get_of (codes "x-dropshot-pagination") (operation_json operation) ≡ option_map pagination_json operation.pagination
unfolding operation_json
pages-stand operation = get-object_of (operation_entries operation) (codes "x-dropshot-pagination") refl

pub schema_of : (o : Option MediaType) → member_in (option_map media_type_json o) (codes "schema") ≡ option_map (λ media. media.schema) o
schema_of None = refl
schema_of (Some media) = get-object_of (media_type_entries media) (codes "schema") refl

pub media-stands : (media : List ℕ) (body : RequestBody) → media_in media (request_body_json body) ≡ option_map media_type_json (value_at media body.content)
unfolding request_body_json
media-stands media body =
    ap (λ o. member_in o media) (get-object_of (request_body_entries body) (codes "content") refl) ∙ under_map media_type_json media body.content

pub responses-stand : (operation : Operation) → get_of (codes "responses") (operation_json operation) ≡ unless_empty (map_members response_json operation.responses)
unfolding operation_json
responses-stand operation = get-object_of (operation_entries operation) (codes "responses") refl

pub named-stands : (document : OpenApi) (name : List ℕ) → response_named (open_api_json document) name ≡ option_map response_json (response_in document name)
unfolding open_api_json components_json
named-stands document name =
    ap (λ o. member_in (member_in o (codes "responses")) name) (get-object_of (open_api_entries document) (codes "components") refl)
    ∙ ap (λ o. member_in o name) (get-object_of (components_entries document.components) (codes "responses") refl)
    ∙ under_map response_json name document.components.responses

pub described-reference : (response : ResponseObject) → get_of (codes "$ref") (described_json response) ≡ None
unfolding described_json
described-reference response = get-object_of (described_entries response) (codes "$ref") refl

pub described-headers : (response : ResponseObject) → get_of (codes "headers") (described_json response) ≡ unless_empty (map_members header_json response.headers)
unfolding described_json
described-headers response = get-object_of (described_entries response) (codes "headers") refl

pub described-content : (response : ResponseObject) → get_of (codes "content") (described_json response) ≡ content_json response.content
unfolding described_json
described-content response = get-object_of (described_entries response) (codes "content") refl
