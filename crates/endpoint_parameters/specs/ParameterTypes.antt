-- What the parameters of an endpoint may be (OpenAPI 3.0.3, Parameter Object).
use Rattle.std.specs.Prelude.{◌≡◌, ◌≢◌, ◌⊎◌, ◌<◌, ℕ, Bool, true, false, List, Option, Some, None, Contains, count_by}
use Rattle.std.specs.Str.{encode_utf8_all}
use Rattle.http_header.specs.FieldName.{IsFieldName}
use Rattle.descriptors.specs.declared.desc.Desc.{Desc, out-Desc}
use Rattle.descriptors.specs.declared.desc.Desc.TheOpen.{Desc-F}
use Rattle.descriptors.specs.declared.desc.Presence.TheVariants.{Required}
use Rattle.descriptors.specs.declared.table.Definition.{Definition}
use Rattle.typed_values.specs.Levels.{DescLevel}
use Rattle.flat_maps.specs.Flat.{resolved}
use Rattle.handler_shapes.specs.ScalarTypes.{IsScalarType}
use Rattle.endpoint_parameters.specs.Parameters.{Parameter, in_path, in_query, in_header, field_of}
use Rattle.endpoint_parameters.specs.Parameters.{path_names, query_names, is_same_parameter}

-- a parameter in the path may be absent
abbrev pub MayBeAbsent : Parameter → Type 0
MayBeAbsent (in_path field) = field.presence ≢ Required
MayBeAbsent _ = ⊥

-- a parameter takes what is left of the path: it has the name of the path's wildcard, if there is one
abbrev pub IsRest : Option (List ℕ) → Parameter → Type 0
IsRest wildcard (in_path field) = wildcard ≡ Some field.name
IsRest wildcard _ = ⊥

-- a parameter that does not take what is left of the path is no scalar
pub record IsNoScalar (table : List Definition) (wildcard : Option (List ℕ)) (parameter : Parameter) : Type 0 where
  pub one_text : ¬ IsRest wildcard parameter
  pub not_scalar : ¬ IsScalarType table (field_of parameter).desc

-- a parameter takes what is left of the path, or is a scalar
abbrev pub IsScalarOrRest : List Definition → Option (List ℕ) → Parameter → Type 0
IsScalarOrRest table wildcard parameter = IsRest wildcard parameter ⊎ IsScalarType table (field_of parameter).desc

-- whether a descriptor's values are texts: a text, a character or a name of an enumeration
abbrev pub is_text_level : DescLevel → Bool
is_text_level (Desc-F.Text min max format) = true
is_text_level Desc-F.Char = true
is_text_level (Desc-F.Enumeration names) = true
is_text_level _ = false

-- whether what references lead to is such
abbrev pub is_text_resolved : Option Desc → Bool
is_text_resolved None = false
is_text_resolved (Some desc) = is_text_level (out-Desc desc)

-- whether a descriptor is a list of such, itself or behind references
abbrev pub is_list_of_texts : List Definition → DescLevel → Bool
is_list_of_texts table (Desc-F.List item min max) = is_text_resolved (resolved table item)
is_list_of_texts table _ = false

-- whether what references lead to is a list of texts
abbrev pub is_string_list : List Definition → Option Desc → Bool
is_string_list table None = false
is_string_list table (Some desc) = is_list_of_texts table (out-Desc desc)

-- the parameter that takes what is left of the path is no list of texts
pub record IsNoStringList (table : List Definition) (wildcard : Option (List ℕ)) (parameter : Parameter) : Type 0 where
  pub rest : IsRest wildcard parameter
  pub not_list : is_string_list table (resolved table (field_of parameter).desc) ≡ false

-- a parameter in the path or in the query has the name of one in the other
abbrev pub IsInBoth : List Parameter → Parameter → Type 0
IsInBoth ps (in_path field) = Contains (query_names ps) field.name
IsInBoth ps (in_query field) = Contains (path_names ps) field.name
IsInBoth ps (in_header field) = ⊥

-- another parameter in its place has the name of a parameter
abbrev pub IsDoubled : List Parameter → Parameter → Type 0
IsDoubled ps parameter = 1 < count_by (is_same_parameter parameter) ps

-- a parameter in the headers whose name no header may have (RFC 9110, section 5.1), or is longer than 65,535 bytes
abbrev pub IsNoHeaderName : Parameter → Type 0
IsNoHeaderName (in_header field) = ¬ IsFieldName (encode_utf8_all field.name)
IsNoHeaderName _ = ⊥
