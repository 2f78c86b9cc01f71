-- Which variables a request gives for a template: exactly those that it names, one text for a variable, and the
-- components that are left of the path for a wildcard.
use Rattle.std.specs.Prelude.{◌≡◌, ◌&&◌, ℕ, Bool, true, false, List, IsTrue, Option, Some, None, bytes_eq}
use Rattle.std.specs.List.{list_all, list_any}
use Rattle.std.specs.Map.{lookup}
use Rattle.schema_values.specs.declared.variables.VariableValue.{VariableValue}
use Rattle.schema_values.specs.declared.variables.VariableValue.TheVariants.{String, Components}
use Rattle.path_templates.specs.Segments.{segments_of}
use Rattle.path_templates.specs.Templates.{has_name}
use Rattle.path_templates.specs.declared.segment.PathSegment.{PathSegment}
use Rattle.path_templates.specs.declared.segment.PathSegment.TheVariants.{Literal, VarnameSegment, VarnameWildcard}

-- names with what they stand for
abbrev pub Variables : Type 0
Variables = List (List ℕ × VariableValue)

-- what a name stands for, if it is given
abbrev pub value_of : Variables → List ℕ → Option VariableValue
value_of variables name = lookup (bytes_eq name) variables

-- one text is given
abbrev pub is_text : Option VariableValue → Bool
is_text None = false
is_text (Some (String text)) = true
is_text (Some (Components texts)) = false

-- components are given
abbrev pub are_components : Option VariableValue → Bool
are_components None = false
are_components (Some (String text)) = false
are_components (Some (Components texts)) = true

-- a segment is given what it takes: a literal nothing, a variable a text, a wildcard components
abbrev pub is_given : Variables → PathSegment → Bool
is_given variables (Literal text) = true
is_given variables (VarnameSegment name) = is_text (value_of variables name)
is_given variables (VarnameWildcard name) = are_components (value_of variables name)

-- a variable of some segments has a name
abbrev pub is_named : List PathSegment → List ℕ → Bool
is_named segments name = list_any (has_name name) segments

-- each segment is given what it takes, and each variable is named
abbrev pub variables_match : List PathSegment → Variables → Bool
variables_match segments variables =
    list_all (is_given variables) segments && list_all (λ variable. is_named segments variable.0) variables

-- the variables are those of the template
abbrev pub VariablesMatch : List PathSegment → Variables → Type 0
VariablesMatch segments variables = IsTrue (variables_match segments variables)

-- a path is a template, and the variables are those of it
pub record IsFilledBy (path : List ℕ) (variables : Variables) : Type 0 where
  pub segments : List PathSegment
  pub template : segments_of path ≡ Some segments
  pub given : VariablesMatch segments variables
