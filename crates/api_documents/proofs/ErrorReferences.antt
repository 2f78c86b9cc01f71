-- For the statuses of errors an operation refers to the name of its error, behind its success of digits.
use Rattle.std.proofs.Common.{◌≡◌, ◌≢◌, ℕ, Bool, true, false, cond, List, ◌∷◌, [], option_map, bytes_eq, Option, Some}
use Rattle.std.proofs.Common.{codes, refl, sym, ◌∙◌, ap, ap₂}
use Rattle.std.specs.Prelude.{find}
use Rattle.std.specs.Fmt.{decimal}
use Rattle.std.specs.Option.{option_map_or}
use Rattle.std.proofs.lemmas.Slice.Eq.{bytes_eq-Decides}
use Rattle.openapi_values.specs.declared.media.ResponseObject.{ResponseObject}
use Rattle.openapi_values.specs.Find.{value_at}
use Rattle.handler_shapes.specs.declared.shape.ApiEndpointErrorResponse.{ApiEndpointErrorResponse}
use Rattle.api_declarations.specs.Values.{DeclarationValue}
use Rattle.api_documents.specs.Defines.{RefersToError}
use Rattle.api_documents.specs.ErrorNames.{NamedErrorValue, listed_error, name_of_error, shared_by}
use Rattle.api_documents.specs.Operations.{operation_of}
use Rattle.api_documents.specs.Responses.{code_text, error_responses, reference_to, responses_of, success_of}
use Rattle.api_documents.proofs.DecimalTexts.{no_decimal}
use Rattle.api_documents.proofs.NamedErrors.{own_code}

module _ (code : ℕ) (success : ResponseObject) (name : List ℕ) where
  behind : (text : List ℕ) → decimal code ≢ text
      → value_at text ((decimal code, success) ∷ error_responses name) ≡ value_at text (error_responses name)
  behind text differ =
      by_test (bytes_eq text (decimal code)) refl (find (λ pair. bytes_eq text pair.0) (error_responses name))
    where
      by_test : (b : Bool) → bytes_eq text (decimal code) ≡ b → (o : Option (List ℕ × ResponseObject))
          → option_map (λ pair. pair.1) (cond b (Some (decimal code, success)) o) ≡ option_map (λ pair. pair.1) o
      by_test true e o = absurd (differ (sym ((bytes_eq-Decides text (decimal code)).0 e)))
      by_test false e o = refl

  client_behind : value_at (codes "4XX") ((decimal code, success) ∷ error_responses name) ≡ Some (reference_to name)
  client_behind = behind (codes "4XX") (no_decimal code (codes "4XX") refl)

  server_behind : value_at (codes "5XX") ((decimal code, success) ∷ error_responses name) ≡ Some (reference_to name)
  server_behind = behind (codes "5XX") (no_decimal code (codes "5XX") refl)

-- where the error that an operation lists has a name, the operation refers to it
pub refers_to : (named : List NamedErrorValue) (d : DeclarationValue) (error : ApiEndpointErrorResponse)
    → listed_error d.shape ≡ Some error → (n : NamedErrorValue) → shared_by error named ≡ Some n
    → RefersToError (operation_of named d) n.name
refers_to named d error is n shared =
    let success = own_code d.shape error is in
    let full = success_of d.shape.table d.shape.response in
    let name_is : name_of_error named error ≡ n.name =
    ap (λ (o : Option NamedErrorValue). option_map_or (λ (m : NamedErrorValue). m.name) o error.name) shared in
    let responses : responses_of named d.shape ≡ (decimal success.0, full) ∷ error_responses n.name =
    ap₂ (λ (code : Option ℕ) (o : Option ApiEndpointErrorResponse).
    (code_text code, full) ∷ option_map_or (λ error. error_responses (name_of_error named error)) o [])
    success.1 is
    ∙ ap (λ (name : List ℕ). (decimal success.0, full) ∷ error_responses name) name_is in
    record {
      client = ap (value_at (codes "4XX")) responses ∙ client_behind success.0 full n.name;
      server = ap (value_at (codes "5XX")) responses ∙ server_behind success.0 full n.name;
    }
