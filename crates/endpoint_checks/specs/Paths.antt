-- What an endpoint's path may be beside the parameters in it (OpenAPI 3.0.3, Paths Object and Path Templating).
use Rattle.std.specs.Prelude.{◌≡◌, ◌==◌, ℕ, Bool, false, if◌then◌else◌, IsTrue, List, [], ◌∷◌, ◌++◌, Option, Some, None, codes, option_and_then}
use Rattle.openapi_values.specs.Admits.{method_member}
use Rattle.api_declarations.specs.Values.{DeclarationValue}
use Rattle.path_templates.specs.Segments.{segments_of, template_names, wildcard_of}
use Rattle.endpoint_checks.specs.Names.{missing_in, listing, between}
use Rattle.endpoint_parameters.specs.Parameters.{parameters, path_names}

-- the path is no template
abbrev pub HasBadTemplate : DeclarationValue → Type 0
HasBadTemplate e = segments_of e.path ≡ None

-- whether the first character is a slash
abbrev pub begins_with_slash : List ℕ → Bool
begins_with_slash [] = false
begins_with_slash (c ∷ rest) = c == 47

-- what is wrong with a path that is no template
abbrev pub template_reason : List ℕ → List ℕ
template_reason path =
    if begins_with_slash path then codes "bad route path: " else codes "route paths must begin with a '/': "

-- the method is none of those under which a path has an operation
abbrev pub HasBadMethod : DeclarationValue → Type 0
HasBadMethod e = method_member e.method ≡ None

-- the variables of the path that no parameter takes
abbrev pub unconsumed : DeclarationValue → List (List ℕ)
unconsumed e = missing_in (path_names (parameters e.shape)) (template_names e.path)

-- the parameters in the path that are none of its variables
abbrev pub unspecified : DeclarationValue → List (List ℕ)
unspecified e = missing_in (template_names e.path) (path_names (parameters e.shape))

-- the variables of the path and the parameters in it do not have the same names
abbrev pub HasPathMismatch : DeclarationValue → Type 0
HasPathMismatch e = ¬ ((unconsumed e ≡ []) × (unspecified e ≡ []))

-- the names on each side that the other lacks
abbrev pub mismatch_message : List (List ℕ) → List (List ℕ) → List ℕ
mismatch_message variables parameters =
    listing (codes "path parameters are not consumed ") variables ++ between variables parameters
    ++ listing (codes "specified parameters do not appear in the path ") parameters

-- the name of the wildcard in which a path ends, if it does
abbrev pub path_wildcard : List ℕ → Option (List ℕ)
path_wildcard path = option_and_then wildcard_of (segments_of path)

-- documents show the endpoint, and its path ends in a wildcard
pub record HasVisibleWildcard (e : DeclarationValue) : Type 0 where
  pub visible : IsTrue e.visible
  pub wildcard : List ℕ
  pub at_end : path_wildcard e.path ≡ Some wildcard
