-- What is listed for a field: a parameter with its name, whose schema is that of a type which its place shows (OpenAPI
-- 3.0.3, Parameter Object). No text of a header is null, so an option is not shown there. In a query an option over a
-- reference is not, as nothing stands beside a reference (OpenAPI 3.0.3, Reference Object).
use Rattle.std.specs.Prelude.{◌≡◌, ◌≢◌, ◌↔◌, ℕ, IsTrue, List, map}
use Rattle.schema_values.specs.Order.{sorted_by}
use Rattle.openapi_values.specs.declared.parameter.Parameter.{Parameter}
use Rattle.descriptors.specs.declared.desc.Desc.{Desc, Option as OptionOf, Ref}
use Rattle.descriptors.specs.declared.desc.Field.{Field}
use Rattle.descriptors.specs.declared.desc.Presence.TheVariants.{Required}
use Rattle.descriptors.specs.declared.table.Definition.{Definition}
use Rattle.descriptors.specs.Definitions.{field_name}
use Rattle.typed_values.specs.SchemaTable.{schema_json}

-- a path shows each type as itself
pub data PathShows : Desc → Desc → Type 0 where
  path_own : (d : Desc) → PathShows d d

-- a query shows of an option over a reference the reference, and each other type as itself
pub data QueryShows : Desc → Desc → Type 0 where
  query_reference : (name : List ℕ) → QueryShows (OptionOf (Ref name)) (Ref name)
  query_own : (d : Desc) → ((name : List ℕ) → d ≢ OptionOf (Ref name)) → QueryShows d d

-- headers show of an option what it is over, and each other type as itself
pub data HeaderShows : Desc → Desc → Type 0 where
  header_inner : (x : Desc) → HeaderShows (OptionOf x) x
  header_own : (d : Desc) → ((x : Desc) → d ≢ OptionOf x) → HeaderShows d d

-- a parameter of a place is that of a field
pub record IsParameterOf (Shows : Desc → Desc → Type 0) (place : List ℕ) (table : List Definition) (field : Field)
    (parameter : Parameter) : Type 0 where
  pub location : parameter.location ≡ place
  pub name : parameter.name ≡ field.name
  pub description : parameter.description ≡ field.description
  pub required : IsTrue parameter.required ↔ (field.presence ≡ Required)
  pub schema : (shown : Desc) × Shows field.desc shown × (parameter.schema ≡ schema_json table shown)

-- one parameter is listed for each field, in the order of the fields' names
pub record ListsFields (Is : Field → Parameter → Type 0) (fields : List Field) (parameters : List Parameter)
    : Type 0 where
  pub of_field : Field → Parameter
  pub in_order : parameters ≡ map of_field (sorted_by field_name fields)
  pub each : (field : Field) → Is field (of_field field)
