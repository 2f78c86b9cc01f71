-- The parameters that an operation in pages lists: one for each field of what it scans, `limit` and `page_token`, none of
-- them required. The names that a request for the first page must have are those of its extension `x-dropshot-pagination`
-- (OpenAPI 3.0.3, Parameter Object and Specification Extensions; what pages ask is this project's own).
use Rattle.std.specs.Prelude.{◌≡◌, ◌≢◌, ◌≤◌, ⊤, ℕ, pos, true, false, not, IsTrue, List, [], ◌∷◌, ◌++◌, map, filter, Some, None, codes, Contains}
use Rattle.std.specs.List.{list_all}
use Rattle.schema_values.specs.declared.json_value.Json.{Json}
use Rattle.schema_values.specs.Order.{sorted_by}
use Rattle.request_words.specs.declared.pairs.NamedText.{NamedText}
use Rattle.request_words.specs.declared.request.WireRequest.{WireRequest}
use Rattle.openapi_values.specs.declared.parameter.Parameter.{Parameter}
use Rattle.openapi_values.specs.Listed.{listed_pages_hold}
use Rattle.descriptors.specs.declared.desc.Desc.{Int, Option as OptionOf, Struct as StructOf, Text as Words}
use Rattle.descriptors.specs.declared.desc.Field.{Field}
use Rattle.descriptors.specs.declared.desc.IntKind.TheVariants.{U32}
use Rattle.descriptors.specs.declared.desc.Presence.TheVariants.{Nullable}
use Rattle.descriptors.specs.declared.table.Definition.{Definition}
use Rattle.descriptors.specs.declared.tree.Tree.{Tree}
use Rattle.descriptors.specs.Definitions.{field_name}
use Rattle.typed_values.specs.Schemas.{in_query}
use Rattle.flat_maps.specs.declared.repeats.Repeats.TheVariants.{Refuse}
use Rattle.flat_maps.specs.Pairs.{PairsDenote}
use Rattle.scalar_texts.specs.Texts.{number_in}
use Rattle.written_texts.specs.FieldParameters.{is_required, parameter_of, AllHold}

-- a field as it is listed in a query, but not required
abbrev pub scan_parameter : List Definition → Field → Parameter
scan_parameter table f = record (parameter_of (codes "query") in_query table f) { required = false }

-- how many items a page has at most: from 1 to 4294967295, or nothing is said
abbrev pub limit_field : Field
limit_field = record {
  name = codes "limit";
  desc = OptionOf (Int U32 (Some (pos 1)) None);
  presence = Nullable;
  description = Some (codes "Maximum number of items returned by a single call");
}

-- where the page before ended, as its answer said
abbrev pub token_field : Field
token_field = record {
  name = codes "page_token";
  desc = OptionOf (Words None None None);
  presence = Nullable;
  description = Some (codes "Token returned by previous call to retrieve the subsequent page");
}

-- the name of a parameter
abbrev pub parameter_name : Parameter → List ℕ
parameter_name p = p.name

-- all of them, in the order of their names
abbrev pub page_parameters : List Definition → List Field → List Parameter
page_parameters table fields =
    sorted_by parameter_name (parameter_of (codes "query") (λ desc. desc) [] limit_field
    ∷ parameter_of (codes "query") (λ desc. desc) [] token_field
    ∷ map (scan_parameter table) fields)

-- the names of the fields that must be there, in order
abbrev pub first_page_names : List Field → List (List ℕ)
first_page_names fields = map field_name (filter (λ f. is_required f.presence) (sorted_by field_name fields))

-- of an operation that lists them between other parameters, each of these holds of a request, and so does what pages ask
-- besides
pub record PageParametersHold (doc : Json) (table : List Definition) (request : WireRequest) (before : List Parameter) (fields : List Field) (after : List Parameter) : Type 0 where
  pub listed : AllHold doc request true (page_parameters table fields)
  pub pages : IsTrue (listed_pages_hold request (before ++ page_parameters table fields ++ after) (first_page_names fields))

-- the pair `limit` stands at most once, and is a number of items where it stands
abbrev pub HasLimit : List NamedText → Type 0
HasLimit pairs = (tree : Tree) × PairsDenote [] (StructOf (limit_field ∷ []) false) Refuse pairs tree

-- a text is a number of items, from 1 to 4294967295
abbrev pub IsItemCount : List ℕ → Type 0
IsItemCount text = (n : ℕ) × (number_in U32 text ≡ Some (pos n)) × (1 ≤ n) × (n ≤ 4294967295)

-- the texts under one name: none, or one that is a number of items
abbrev pub AreItemCount : List (List ℕ) → Type 0
AreItemCount [] = ⊤
AreItemCount (text ∷ []) = IsItemCount text
AreItemCount (text ∷ other ∷ texts) = ⊥

-- none of some parameters is required
abbrev pub NoneRequired : List Parameter → Type 0
NoneRequired parameters = IsTrue (list_all (λ p. not p.required) parameters)

-- no field has a name
abbrev pub NoneNamed : List ℕ → List Field → Type 0
NoneNamed name fields = (f : Field) → Contains fields f → f.name ≢ name
