-- The keys by which endpoints are indexed: their templates, and the shapes of these.
use Rattle.std.specs.Prelude.{ℕ, List, [], ◌∷◌, Option, Some, None}
use Rattle.path_templates.specs.Shapes.{path_shape}
use Rattle.path_templates.specs.Templates.{trimmed}
use Rattle.api_declarations.specs.Values.{DeclarationValue}

-- one key, if there is one
abbrev pub key_if : Option (List ℕ) → List (List ℕ)
key_if None = []
key_if (Some key) = key ∷ []

-- the template of a declaration, without a slash at its end
abbrev pub template_keys : DeclarationValue → List (List ℕ)
template_keys d = trimmed d.path ∷ []

-- the shape of a declaration's template, if its path is one
abbrev pub shape_keys : DeclarationValue → List (List ℕ)
shape_keys d = key_if (path_shape d.path)
