-- What listed endpoints meet together, so that a document can list them. Accepted endpoints meet it.
use Rattle.std.specs.Prelude.{◌≡◌, ℕ, List, Some, All, AllPairs, IsSome}
use Rattle.openapi_values.specs.Admits.{method_member}
use Rattle.descriptors.specs.declared.table.Definition.{Definition}
use Rattle.descriptors.specs.Definitions.{entry_of}
use Rattle.handler_shapes.specs.ShapeChecks.{ShapePasses}
use Rattle.handler_shapes.specs.ShapeLengths.{ShapeHasShortLengths}
use Rattle.api_declarations.specs.Values.{DeclarationValue}
use Rattle.api_documents.specs.Listed.{path_of}

-- no two endpoints have a path and a method in common
abbrev pub AreApart : List DeclarationValue → Type 0
AreApart ds = AllPairs (λ (d other : DeclarationValue). path_of d ≡ path_of other → d.method ≡ other.method → ⊥) ds

-- definitions of one name in two tables are the same
abbrev pub TablesAgree : List Definition → List Definition → Type 0
TablesAgree table other =
    (name : List ℕ) (e f : Definition) → entry_of table name ≡ Some e → entry_of other name ≡ Some f → e ≡ f

-- so are those of any two endpoints
abbrev pub DefinitionsAgree : List DeclarationValue → Type 0
DefinitionsAgree ds = AllPairs (λ (d other : DeclarationValue). TablesAgree d.shape.table other.shape.table) ds

-- the method is one of the eight that a path may have (OpenAPI 3.0.3, Path Item Object)
abbrev pub HasListedMethod : DeclarationValue → Type 0
HasListedMethod d = IsSome (method_member d.method)

-- what listed endpoints meet together
pub record MayBeListed (ds : List DeclarationValue) : Type 0 where
  pub methods : All HasListedMethod ds
  pub apart : AreApart ds
  pub definitions : DefinitionsAgree ds
  pub passing : All (λ (d : DeclarationValue). ShapePasses d.shape) ds
  pub lengths : All (λ (d : DeclarationValue). ShapeHasShortLengths d.shape) ds
