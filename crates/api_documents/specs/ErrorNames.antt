-- The names of the responses of errors in a document (OpenAPI 3.0.3, Components Object; the names are this project's
-- own). Errors of one name and descriptor share a response, whose name is given where the first of them is listed.
use Rattle.std.specs.Prelude.{◌≡◌, ℕ, zero, suc, ◌+◌, ◌<◌, ◌≤◌, ◌==◌, Bool, true, false, ◌&&◌, List, [], ◌∷◌, ◌++◌}
use Rattle.std.specs.Prelude.{length, map, find, fold, is_some, option_and_then, option_map, Option, if◌then◌else◌}
use Rattle.std.specs.Prelude.{bytes_eq}
use Rattle.std.specs.Fmt.{decimal}
use Rattle.std.specs.List.{filter_map, list_any}
use Rattle.std.specs.Option.{option_map_or}
use Rattle.descriptors.specs.contracts.desc.Desc as descs
use Rattle.descriptors.specs.declared.desc.Desc.{Desc}
use Rattle.descriptors.specs.declared.table.Definition.{Definition}
use Rattle.handler_shapes.specs.declared.shape.ApiEndpointErrorResponse.{ApiEndpointErrorResponse}
use Rattle.handler_shapes.specs.declared.shape.HandlerShape.{HandlerShape}
use Rattle.api_declarations.specs.Values.{DeclarationValue}
use base.Stored.{Gv, gnil, gnum, gcons}

-- ---- which errors are the same

-- two codes are the same
unfoldable pub same_code : Gv → Gv → Bool
same_code gnil gnil = true
same_code gnil (gnum n) = false
same_code gnil (gcons a b) = false
same_code (gnum m) gnil = false
same_code (gnum m) (gnum n) = m == n
same_code (gnum m) (gcons a b) = false
same_code (gcons a b) gnil = false
same_code (gcons a b) (gnum n) = false
same_code (gcons a b) (gcons c d) = same_code a c && same_code b d

-- two descriptors are the same, by their codes
unfoldable pub same_desc : Desc → Desc → Bool
same_desc a b = same_code (descs.the_row.coded.code a) (descs.the_row.coded.code b)

-- two errors have the same name and the same descriptor
abbrev pub same_error : ApiEndpointErrorResponse → ApiEndpointErrorResponse → Bool
same_error a b = bytes_eq a.name b.name && same_desc a.desc b.desc

-- ---- which errors are listed

-- an error, and the table in which its descriptor is read
pub record TabledError : Type 0 where
  pub table : List Definition
  pub error : ApiEndpointErrorResponse

-- the error that an operation lists: none where it has no success code
abbrev pub listed_error : HandlerShape → Option ApiEndpointErrorResponse
listed_error shape = option_and_then (λ code. shape.error) shape.response.success

-- an error with a table
abbrev pub with_table : List Definition → ApiEndpointErrorResponse → TabledError
with_table table error = record { table = table; error = error }

-- the error that an operation lists, with its table
abbrev pub tabled_error : DeclarationValue → Option TabledError
tabled_error d = option_map (with_table d.shape.table) (listed_error d.shape)

-- the errors of operations in their order
abbrev pub listed_errors : List DeclarationValue → List TabledError
listed_errors = filter_map tabled_error

-- ---- their names

-- an error under its name in the document
pub record NamedErrorValue : Type 0 where
  pub name : List ℕ
  pub table : List Definition
  pub error : ApiEndpointErrorResponse

-- the names that are given
abbrev pub given_names : List NamedErrorValue → List (List ℕ)
given_names named = map (λ (n : NamedErrorValue). n.name) named

-- whether a name is one of some names
abbrev pub is_taken : List (List ℕ) → List ℕ → Bool
is_taken names name = list_any (bytes_eq name) names

-- the least number from one on that makes a name free, looked for among so many
abbrev pub free_from : List (List ℕ) → List ℕ → ℕ → ℕ → ℕ
free_from names name number zero = number
free_from names name number (suc more) =
    if is_taken names (name ++ decimal number) then free_from names name (number + 1) more else number

-- a name itself, or, where it is taken, with the least number from 2 on that makes it free; one number more than there
-- are names is tried, so one of them does
abbrev pub free_name : List (List ℕ) → List ℕ → List ℕ
free_name names name = if is_taken names name then name ++ decimal (free_from names name 2 (length names)) else name

-- of the numbers from 2 on it is the least that makes a name free
pub record IsLeastFree (names : List (List ℕ)) (name : List ℕ) (number : ℕ) : Type 0 where
  pub from_two : 2 ≤ number
  pub free : is_taken names (name ++ decimal number) ≡ false
  pub least : (k : ℕ) → 2 ≤ k → k < number → is_taken names (name ++ decimal k) ≡ true

-- the named error that is the same as an error
abbrev pub shared_by : ApiEndpointErrorResponse → List NamedErrorValue → Option NamedErrorValue
shared_by error named = find (λ (n : NamedErrorValue). same_error error n.error) named

-- an error under a name that is free among those that are given
abbrev pub newly_named : List NamedErrorValue → TabledError → NamedErrorValue
newly_named named e = record { name = free_name (given_names named) e.error.name; table = e.table; error = e.error }

-- one more error under such a name, unless the same is there
abbrev pub with_error : List NamedErrorValue → TabledError → List NamedErrorValue
with_error named e = if is_some (shared_by e.error named) then named else named ++ newly_named named e ∷ []

-- errors in their order, each once, under names that differ
abbrev pub named_errors : List TabledError → List NamedErrorValue
named_errors = fold with_error []

-- the name under which an error is referred to
abbrev pub name_of_error : List NamedErrorValue → ApiEndpointErrorResponse → List ℕ
name_of_error named error = option_map_or (λ (n : NamedErrorValue). n.name) (shared_by error named) error.name
