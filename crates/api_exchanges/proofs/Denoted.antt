-- A valid request is handled exactly where it denotes arguments.
use Rattle.std.proofs.Common.{◌≡◌, ◌↔◌, List, Some, sym, ◌∙◌, subst}
use Rattle.std.specs.declared.result.Result.{Result}
use Rattle.std.specs.declared.result.Result.TheVariants.{Ok, Err}
use Rattle.tree_store.specs.Tables.{Tables}
use Rattle.handler_shapes.specs.declared.arguments.Arg.{Arg}
use Rattle.api_extract.specs.declared.extract_error.ExtractError.{ExtractError}
use Rattle.api_endpoints.specs.Endpoints.{Meanings, declaration_of, shape_at}
use Rattle.api_endpoints.specs.declared.endpoint.ApiEndpoint.{ApiEndpoint}
use Rattle.endpoint_answers.specs.Denoting.{IsOutcomeCutShort, IsDenoting, IsHandledAsDenoted, IsValid, WasHandled}
use Rattle.endpoint_answers.specs.Exchanges.{Answers, AreServable, Asked, HasVariables, IsGivenArgs, IsServable}
use Rattle.endpoint_answers.specs.Exchanges.{given_at, named_by, terms_at}
use Rattle.endpoint_answers.specs.declared.outcome.Exchange.{Exchange}
use Rattle.endpoint_answers.specs.declared.outcome.Exchange.TheVariants.{Handled, Refused}
use Rattle.endpoint_answers.specs.declared.outcome.ExchangeError.{ExchangeError}
use Rattle.endpoint_answers.specs.declared.outcome.ExchangeError.TheVariants as failed
use Rattle.api_exchanges.proofs.Causes.{AnswersHaveCauses}
use Rattle.api_exchanges.proofs.Reached.{found_all, none_named}

module _ {X : Type 0} {F : X → Type 0} (m : Meanings X F) (endpoints : List (ApiEndpoint X F)) (a : Asked)
    (causes : AnswersHaveCauses) (servable : AreServable m endpoints) (e : ApiEndpoint X F)
    (named : named_by m endpoints a.call.request ≡ Some e) (valid : IsValid (declaration_of m e) a)
  where
    -- the endpoint that is named is one
    named_once : (other : ApiEndpoint X F) → named_by m endpoints a.call.request ≡ Some other → other ≡ e
    named_once other is = let both : Some other ≡ Some e = sym is ∙ named in cc

    -- what is denoted is given
    given_denoted : (denoting : IsDenoting (declaration_of m e) a) → given_at m e a ≡ Ok denoting.0
    given_denoted denoting =
        let last = (found_all (λ (x : ApiEndpoint X F). IsServable (shape_at m x)) _ endpoints e servable named).last in
        sym
        ((causes (terms_at m e a) (shape_at m e).slots a.call.request a.body (Ok denoting.0) last).1
        (record { told = denoting.1; within = valid.within }))

    -- where an error is told, nothing is denoted
    refuted : (other : ApiEndpoint X F) → named_by m endpoints a.call.request ≡ Some other → (error : ExtractError)
        → given_at m other a ≡ Err error → ¬ IsDenoting (declaration_of m e) a
    refuted other is error told denoting =
        let here = subst (λ (x : ApiEndpoint X F). given_at m x a ≡ Err error) (named_once other is) told in
        let clash : Ok denoting.0 ≡ Err error = sym (given_denoted denoting) ∙ here in
        cc clash

    denoted : (other : ApiEndpoint X F) → named_by m endpoints a.call.request ≡ Some other → (args : List Arg)
        → IsGivenArgs m other a args → IsDenoting (declaration_of m e) a
    denoted other is args given =
        let here = subst (λ (x : ApiEndpoint X F). IsGivenArgs m x a args) (named_once other is) given in
        (args, here.denoted)

    by_outcome : (outcome : Result Exchange ExchangeError) (after : Tables) → Answers m endpoints a outcome after
        → ¬ IsOutcomeCutShort outcome → WasHandled outcome ↔ IsDenoting (declaration_of m e) a
    by_outcome (Ok (Handled args reply response)) after answers whole =
        (λ was. denoted answers.0 answers.1.named answers.2.args answers.2.denoted, λ denoting. tt)
    by_outcome (Ok (Refused fault response)) after answers whole =
        (λ was. absurd was, λ denoting. refuted answers.0 answers.1.named _ answers.2.0.told denoting)
    by_outcome (Err failed.BadRequestId) after answers whole = absurd (answers.0 valid.id)
    by_outcome (Err failed.NoSuchOperation) after answers whole =
        absurd (none_named m endpoints a.call.request e answers.0.none named)
    by_outcome (Err failed.WrongVariables) after answers whole =
        let same = named_once answers.0.endpoint answers.0.named in
        absurd
        (answers.0.other (subst (λ (x : ApiEndpoint X F). HasVariables (declaration_of m x) a.call.request)
        (sym same) valid.variables))
    by_outcome (Err failed.OutOfMemory) after answers whole = absurd (whole tt)
    by_outcome (Err (failed.BodyFault response)) after answers whole = absurd (whole tt)
    by_outcome (Err (failed.BodyTooLarge sum response)) after answers whole =
        (λ was. absurd was, λ denoting. refuted answers.0 answers.1.named _ answers.2.0.told denoting)
    by_outcome (Err (failed.FrameBudget count)) after answers whole =
        (λ was. absurd was, λ denoting. refuted answers.0 answers.1.named _ answers.2.0.told denoting)

-- whatever endpoint it names
pub handled_as_denoted : {X : Type 0} {F : X → Type 0} (m : Meanings X F) (endpoints : List (ApiEndpoint X F))
    (a : Asked) → AnswersHaveCauses → AreServable m endpoints → (outcome : Result Exchange ExchangeError)
    (after : Tables) → Answers m endpoints a outcome after → IsHandledAsDenoted m endpoints a outcome
handled_as_denoted m endpoints a causes servable outcome after answers =
    λ e named valid whole. by_outcome m endpoints a causes servable e named valid outcome after answers whole
