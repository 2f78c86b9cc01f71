-- How an endpoint clashes with those that stand already (OpenAPI 3.0.3, Paths Object: templates of one hierarchy;
-- Components Object: one definition for a name).
use Rattle.std.specs.Prelude.{◌≡◌, ◌≢◌, ℕ, IsTrue, List, Some, Contains}
use Rattle.descriptors.specs.declared.table.Definition.{Definition}
use Rattle.descriptors.specs.Definitions.{entry_of}
use Rattle.api_versions.specs.Overlaps.{Overlaps}
use Rattle.api_declarations.specs.Values.{DeclarationValue}
use Rattle.path_templates.specs.Shapes.{path_shape}
use Rattle.endpoint_parameters.specs.Firsts.{IsFirstOf}

-- another endpoint serves the method, in versions that overlap
pub record IsCalledBeside (e other : DeclarationValue) : Type 0 where
  pub method : other.method ≡ e.method
  pub versions : Overlaps e.versions other.versions

-- another endpoint serves the method and templates of one shape with the endpoint's, in versions that overlap
pub record ServesSame (e other : DeclarationValue) : Type 0 where
  pub called : IsCalledBeside e other
  pub shape : List ℕ
  pub has_shape : path_shape e.path ≡ Some shape
  pub other_has_it : path_shape other.path ≡ Some shape

-- another table has a definition of the name, with another type or description
abbrev pub DiffersIn : List Definition → Definition → Type 0
DiffersIn table d = (other : Definition) × (entry_of table d.name ≡ Some other) × (other ≢ d)

-- documents show the endpoint and another beside it
pub record IsShownBeside (e other : DeclarationValue) : Type 0 where
  pub visible : IsTrue e.visible
  pub other_visible : IsTrue other.visible
  pub versions : Overlaps e.versions other.versions

-- they do, and a definition differs there
pub record IsDefinedOtherwise (e : DeclarationValue) (d : Definition) (other : DeclarationValue) : Type 0 where
  pub shown : IsShownBeside e other
  pub differs : DiffersIn other.shape.table d

-- one of the endpoint's definitions does so
abbrev pub DefinesOneOtherwise : DeclarationValue → DeclarationValue → Type 0
DefinesOneOtherwise e other = (d : Definition) × Contains e.shape.table d × IsDefinedOtherwise e d other

-- documents show the endpoint and another beside it, and this is the first of its definitions that differs there
pub record DefinesOtherwise (e other : DeclarationValue) : Type 0 where
  pub visible : IsTrue e.visible
  pub other_visible : IsTrue other.visible
  pub versions : Overlaps e.versions other.versions
  pub definition : Definition
  pub first : IsFirstOf (DiffersIn other.shape.table) e.shape.table definition
