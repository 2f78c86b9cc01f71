-- The errors of a document under their names are errors that its endpoints list, each with the table of one that does.
use Rattle.std.proofs.Common.{◌≡◌, ℕ, Bool, true, false, cond, List, [], ◌∷◌, ◌++◌, fold, Option, Some, None, is_some}
use Rattle.std.proofs.Common.{option_and_then, option_map, refl, subst}
use Rattle.std.specs.List.{AllByRecursion, cons_option}
use Rattle.std.specs.Prelude.{Contains}
use Rattle.schema_values.proofs.CallerLemmas.{all-push}
use Rattle.descriptors.specs.declared.table.Definition.{Definition}
use Rattle.handler_shapes.specs.declared.shape.ApiEndpointErrorResponse.{ApiEndpointErrorResponse}
use Rattle.handler_shapes.specs.declared.shape.HandlerShape.{HandlerShape}
use Rattle.api_declarations.specs.Values.{DeclarationValue}
use Rattle.api_documents.specs.Documents.{errors_of}
use Rattle.api_documents.specs.ErrorNames.{NamedErrorValue, TabledError, listed_error, listed_errors, newly_named}
use Rattle.api_documents.specs.ErrorNames.{shared_by, tabled_error, with_error, with_table}
use Rattle.api_documents.specs.Listed.{at_path, endpoint_of, in_order, method_names, paths_in_order, stands_at}
use Rattle.api_documents.proofs.Chosen.{found}
use Rattle.api_documents.proofs.Joined.{each_found, each_joined}

-- an error that is listed is that of the shape, and the success has a code
module _ (shape : HandlerShape) (error : ApiEndpointErrorResponse) where
  pub own_error : listed_error shape ≡ Some error → shape.error ≡ Some error
  own_error = by_success shape.response.success
    where
      by_success : (success : Option ℕ) → option_and_then (λ code. shape.error) success ≡ Some error
          → shape.error ≡ Some error
      by_success None is = absurd (cc is)
      by_success (Some code) is = is

  pub own_code : listed_error shape ≡ Some error → (code : ℕ) × (shape.response.success ≡ Some code)
  own_code = by_success shape.response.success refl
    where
      by_success : (success : Option ℕ) → shape.response.success ≡ success
          → option_and_then (λ code. shape.error) success ≡ Some error
          → (code : ℕ) × (shape.response.success ≡ Some code)
      by_success None at is = absurd (cc is)
      by_success (Some code) at is = (code, at)

-- the endpoints in the order of their operations are those of the document
ordered_inside : (ds : List DeclarationValue) → AllByRecursion (Contains ds) (in_order ds)
ordered_inside ds =
    each_joined (at_path ds) (Contains ds) (paths_in_order ds)
    (λ path c. each_found (endpoint_of ds path) (Contains ds)
    (λ method d is. (found (stands_at path method) ds d is).0) method_names)

-- ---- what holds of each error that an endpoint lists, with the endpoint's table, holds of each that has a name

module _ (P : List Definition → ApiEndpointErrorResponse → Type 0) where
  abbrev OfTabled : TabledError → Type 0
  OfTabled e = P e.table e.error

  abbrev OfNamed : NamedErrorValue → Type 0
  OfNamed n = P n.table n.error

  each_named : (es : List TabledError) (named : List NamedErrorValue) → AllByRecursion OfTabled es
      → AllByRecursion OfNamed named → AllByRecursion OfNamed (fold with_error named es)
  each_named [] named new all = all
  each_named (e ∷ es) named new all =
      each_named es (with_error named e) new.1 (by_test (is_some (shared_by e.error named)))
    where
      by_test : (b : Bool) → AllByRecursion OfNamed (cond b named (named ++ newly_named named e ∷ []))
      by_test true = all
      by_test false = all-push OfNamed named (newly_named named e) all new.0

  module _ (ds : List DeclarationValue)
      (holds : (d : DeclarationValue) → Contains ds d → (error : ApiEndpointErrorResponse)
      → listed_error d.shape ≡ Some error → P d.shape.table error) where
    one_tabled : (d : DeclarationValue) → Contains ds d → (e : TabledError) → tabled_error d ≡ Some e → OfTabled e
    one_tabled d c e = by_error (listed_error d.shape) refl
      where
        by_error : (o : Option ApiEndpointErrorResponse) → listed_error d.shape ≡ o
            → option_map (with_table d.shape.table) o ≡ Some e → OfTabled e
        by_error None at is = absurd (cc is)
        by_error (Some error) at is =
            let same : with_table d.shape.table error ≡ e = cc is in subst OfTabled same (holds d c error at)

    each_tabled : (es : List DeclarationValue) → AllByRecursion (Contains ds) es
        → AllByRecursion OfTabled (listed_errors es)
    each_tabled [] inside = tt
    each_tabled (d ∷ es) inside = by_error (tabled_error d) refl (each_tabled es inside.1)
      where
        by_error : (o : Option TabledError) → tabled_error d ≡ o → AllByRecursion OfTabled (listed_errors es)
            → AllByRecursion OfTabled (cons_option o (listed_errors es))
        by_error None is rest = rest
        by_error (Some e) is rest = (one_tabled d inside.0 e is, rest)

    pub each_error : AllByRecursion OfNamed (errors_of ds)
    each_error = each_named (listed_errors (in_order ds)) [] (each_tabled (in_order ds) (ordered_inside ds)) tt
