-- Requests that reach an endpoint, and those that do not.
use Rattle.std.proofs.Common.{◌≡◌, inl, Bool, true, false, List, [], ◌∷◌, None, Some, refl, sym, ap, ◌∙◌}
use Rattle.std.proofs.Common.{subst}
use Rattle.std.specs.Prelude.{if◌then◌else◌, All, IsTrue, find, is_ok}
use Rattle.std.specs.List.{list_any}
use Rattle.std.specs.declared.result.Result.{Result}
use Rattle.std.specs.declared.result.Result.TheVariants.{Ok, Err}
use Rattle.std.proofs.lemmas.List.Elements.{All-cons, All-head, All-nil, All-tail}
use Rattle.tree_store.specs.Tables.{Tables}
use Rattle.request_parts.specs.Requests.{Request}
use Rattle.handler_shapes.specs.BodySlots.{takes_body}
use Rattle.api_extract.specs.declared.extract_error.ExtractError.{ExtractError}
use Rattle.api_extract.specs.Denotes.{GivenArgs}
use Rattle.api_extract.specs.Extraction.{shared_told}
use Rattle.api_declarations.proofs.CallerLemmas.{served}
use Rattle.api_endpoints.specs.Endpoints.{Meanings, declaration_of, shape_at}
use Rattle.api_endpoints.specs.declared.endpoint.ApiEndpoint.{ApiEndpoint}
use Rattle.endpoint_answers.specs.Exchanges.{Answers, Asked, EndpointAnswers, HasId, IsUnreached, Reaches}
use Rattle.endpoint_answers.specs.Exchanges.{ServesRequest, TakesBody, named_by}
use Rattle.endpoint_answers.specs.declared.outcome.Exchange.{Exchange}
use Rattle.endpoint_answers.specs.declared.outcome.ExchangeError.{ExchangeError}
use Rattle.endpoint_answers.specs.declared.outcome.ExchangeError.TheVariants as failed

-- what holds of each thing holds of the one that is found
pub found_all : {A : Type 0} (Holds : A → Type 0) (test : A → Bool) (xs : List A) (x : A)
    → All Holds xs → find test xs ≡ Some x → Holds x
found_all Holds test [] x all found = absurd (cc found)
found_all Holds test (y ∷ ys) x all found =
    elim (test y) as (λ (here : Bool). (if here then Some y else find test ys) ≡ Some x → Holds x) [
      | true ↦ λ is. subst Holds (cc is) (All-head Holds y ys all)
      | false ↦ λ is. found_all Holds test ys x (All-tail Holds y ys all) is
    ] found

module _ {A : Type 0} (test : A → Bool) where
  -- what is found passes the test
  pub found_passes : (xs : List A) (x : A) → find test xs ≡ Some x → test x ≡ true
  found_passes [] x found = absurd (cc found)
  found_passes (y ∷ ys) x found = by_test (test y) refl found (found_passes ys x)
    where
      by_test : (b : Bool) → test y ≡ b → (if b then Some y else find test ys) ≡ Some x
          → (find test ys ≡ Some x → test x ≡ true) → test x ≡ true
      by_test true passes is later = subst (λ (z : A). test z ≡ true) (cc is) passes
      by_test false fails is later = later is

  -- where nothing is found, it holds of nothing what passes the test
  pub none_passes : (Holds : A → Type 0) → ((x : A) → Holds x → test x ≡ true) → (xs : List A)
      → find test xs ≡ None → All (λ x. ¬ Holds x) xs
  none_passes Holds passes [] none = All-nil (λ x. ¬ Holds x)
  none_passes Holds passes (y ∷ ys) none = by_test (test y) refl none (none_passes Holds passes ys)
    where
      by_test : (b : Bool) → test y ≡ b → (if b then Some y else find test ys) ≡ None
          → (find test ys ≡ None → All (λ x. ¬ Holds x) ys) → All (λ x. ¬ Holds x) (y ∷ ys)
      by_test true is none later = absurd (cc none)
      by_test false is none later =
          All-cons (λ x. ¬ Holds x) y ys
          (λ holds. let clash : true ≡ false = sym (passes y holds) ∙ is in cc clash) (later none)

module _ {X : Type 0} {F : X → Type 0} (m : Meanings X F) (endpoints : List (ApiEndpoint X F)) where
  -- the endpoint that a request names serves it
  pub named_serves : (request : Request) (e : ApiEndpoint X F) → named_by m endpoints request ≡ Some e
      → ServesRequest (declaration_of m e) request
  named_serves request e named =
      (served request.version request.info.method request.template (declaration_of m e)).0
      (found_passes _ endpoints e named)

  -- where it names none, none serves it
  pub names_none : (request : Request) → named_by m endpoints request ≡ None
      → All (λ e. ¬ ServesRequest (declaration_of m e) request) endpoints
  names_none request none =
      none_passes _ (λ e. ServesRequest (declaration_of m e) request)
      (λ e. (served request.version request.info.method request.template (declaration_of m e)).1) endpoints none

  -- and where none serves it, it names none
  pub none_named : (request : Request) (e : ApiEndpoint X F)
      → All (λ e. ¬ ServesRequest (declaration_of m e) request) endpoints
      → ¬ (named_by m endpoints request ≡ Some e)
  none_named request e none named =
      found_all (λ e. ¬ ServesRequest (declaration_of m e) request) _ endpoints e none named
      (named_serves request e named)

  -- an id that no header may hold is told as that
  pub bad_unreached : (request : Request) (error : ExchangeError) → error ≡ failed.BadRequestId → ¬ HasId request
      → IsUnreached m endpoints request error
  bad_unreached request error is bad =
      subst (λ (error : ExchangeError). IsUnreached m endpoints request error) (sym is) bad

  -- a request reaches one endpoint at most
  pub reached_once : (request : Request) (e other : ApiEndpoint X F) → Reaches m endpoints request e
      → Reaches m endpoints request other → e ≡ other
  reached_once request e other here there = let both : Some e ≡ Some other = sym here.named ∙ there.named in cc

  -- what is told of a request that reaches none, or whose id there is no memory for
  pub unreached_answers : (a : Asked) (error : ExchangeError) → IsUnreached m endpoints a.call.request error
      → Answers m endpoints a (Err error) a.call.store
  unreached_answers a failed.BadRequestId is = (is, refl)
  unreached_answers a failed.NoSuchOperation is = (is, refl)
  unreached_answers a failed.WrongVariables is = (is, refl)
  unreached_answers a failed.OutOfMemory is = (is.0, is.1, inl refl)
  unreached_answers a (failed.BodyFault response) is = absurd is
  unreached_answers a (failed.BodyTooLarge sum response) is = absurd is
  unreached_answers a (failed.FrameBudget count) is = absurd is

  -- what an endpoint answers that a request reaches
  pub reached_answers : (a : Asked) (e : ApiEndpoint X F) (outcome : Result Exchange ExchangeError) (after : Tables)
      → Reaches m endpoints a.call.request e → EndpointAnswers m e a outcome after
      → Answers m endpoints a outcome after
  reached_answers a e (Ok exchange) after reaches answers = (e, reaches, answers)
  reached_answers a e (Err failed.BadRequestId) after reaches answers = absurd answers
  reached_answers a e (Err failed.NoSuchOperation) after reaches answers = absurd answers
  reached_answers a e (Err failed.WrongVariables) after reaches answers = absurd answers
  reached_answers a e (Err failed.OutOfMemory) after reaches answers = (e, reaches, answers)
  reached_answers a e (Err (failed.BodyFault response)) after reaches answers = (e, reaches, answers)
  reached_answers a e (Err (failed.BodyTooLarge sum response)) after reaches answers = (e, reaches, answers)
  reached_answers a e (Err (failed.FrameBudget count)) after reaches answers = (e, reaches, answers)

  -- what is so of an endpoint without a slot of the body, and where another slot is given nothing, is so unless a
  -- request asks for its body
  pub unless_asked : (request : Request) (e : ApiEndpoint X F) (Fact : Type 0) → Reaches m endpoints request e
      → (list_any takes_body (shape_at m e).slots ≡ false → Fact)
      → ((error : ExtractError) → shared_told (shape_at m e).table (shape_at m e).slots request ≡ Err error → Fact)
      → ¬ TakesBody m endpoints request → Fact
  unless_asked request e Fact reaches unasked early none =
      by_takes (list_any takes_body (shape_at m e).slots) refl
    where
      by_shared : IsTrue (list_any takes_body (shape_at m e).slots) → (given : GivenArgs)
          → shared_told (shape_at m e).table (shape_at m e).slots request ≡ given → Fact
      by_shared takes (Ok args) told =
          absurd (none (record { endpoint = e; reaches = reaches; takes = takes; shared = ap is_ok told }))
      by_shared takes (Err error) told = early error told

      by_takes : (takes : Bool) → list_any takes_body (shape_at m e).slots ≡ takes → Fact
      by_takes false is = unasked is
      by_takes true is =
          by_shared is (shared_told (shape_at m e).table (shape_at m e).slots request) refl
