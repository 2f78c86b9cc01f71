-- What is answered follows the document of the endpoints.
use Rattle.std.proofs.Common.{◌≡◌, ◌↔◌, Bool, true, false, List, [], ◌∷◌, Option, None, Some, map, option_map, refl}
use Rattle.std.proofs.Common.{sym, ◌∙◌, subst}
use Rattle.std.specs.Prelude.{if◌then◌else◌, find}
use Rattle.std.specs.declared.result.Result.{Result}
use Rattle.std.specs.declared.result.Result.TheVariants.{Ok}
use Rattle.schema_values.specs.declared.json_value.Json.{Json}
use Rattle.semver.specs.Parse.{Parts}
use Rattle.handler_shapes.specs.declared.arguments.Arg.{Arg}
use Rattle.http_status.specs.declared.response.Response.{Response}
use Rattle.tree_store.specs.Tables.{Tables}
use Rattle.api_respond.specs.declared.reply.Reply.{Reply}
use Rattle.api_declarations.specs.Serving.{Serves, endpoint_for, serves}
use Rattle.api_declarations.specs.Values.{DeclarationValue}
use Rattle.api_documents.specs.Lists.{IsListed}
use Rattle.api_agreement.specs.Agreement.{Agrees}
use Rattle.api_endpoints.specs.Endpoints.{Meanings, declaration_of, declarations_of}
use Rattle.api_endpoints.specs.declared.endpoint.ApiEndpoint.{ApiEndpoint}
use Rattle.endpoint_answers.specs.Denoting.{IsDenoting, IsValid, WasHandled}
use Rattle.endpoint_answers.specs.Exchanges.{Answers, AreServable, Asked, IsHandled, limit_of, named_by, sent_by}
use Rattle.endpoint_answers.specs.declared.outcome.Exchange.{Exchange}
use Rattle.endpoint_answers.specs.declared.outcome.Exchange.TheVariants.{Handled}
use Rattle.endpoint_answers.specs.declared.outcome.ExchangeError.{ExchangeError}
use Rattle.api_exchanges.proofs.CallerLemmas.{AnswersHaveCauses, handled_as_denoted}
use Rattle.api_descriptions.specs.Agreement.{FollowsDocument, IsAnsweredBy, IsValidFor}

-- what is found among things that are made of others is made of what is found among these
found_made : {A B : Type 0} (f : A → B) (test : B → Bool) (xs : List A)
    → find test (map f xs) ≡ option_map f (find (λ x. test (f x)) xs)
found_made f test [] = refl
found_made f test (x ∷ xs) =
    elim (test (f x)) as (λ (here : Bool). (if here then Some (f x) else find test (map f xs))
    ≡ option_map f (if here then Some x else find (λ x. test (f x)) xs)) [
      | true ↦ refl
      | false ↦ found_made f test xs
    ]

made_of : {A B : Type 0} (f : A → B) (o : Option A) (y : B) → option_map f o ≡ Some y
    → (x : A) × (o ≡ Some x) × (f x ≡ y)
made_of f None y is = absurd (cc is)
made_of f (Some x) y is = (x, refl, cc is)

module _ {X : Type 0} {F : X → Type 0} (m : Meanings X F) (endpoints : List (ApiEndpoint X F)) (document : Json)
    (version : Parts) (a : Asked) where
  abbrev ds : List DeclarationValue
  ds = declarations_of m endpoints

  -- each endpoint that serves the request is the one that is found
  abbrev pub OneServes : Type 0
  OneServes = (d : DeclarationValue) → IsListed version (declarations_of m endpoints) d
      → Serves version a.call.request.info.method a.call.request.template d
      → endpoint_for (λ e. e) version a.call.request.info.method a.call.request.template (declarations_of m endpoints)
      ≡ Some d

  -- so it is the one that the request names
  named : OneServes → (d : DeclarationValue) → IsValidFor version ds d a
      → (e : ApiEndpoint X F) × (named_by m endpoints a.call.request ≡ Some e) × (declaration_of m e ≡ d)
  named one d valid =
      let test = λ (d : DeclarationValue). serves version a.call.request.info.method a.call.request.template d in
      let found = sym (found_made (declaration_of m) test endpoints) ∙ one d valid.listed valid.serves in
      made_of (declaration_of m) (named_by m endpoints a.call.request) d
      (subst (λ (version : Parts). option_map (declaration_of m)
      (endpoint_for (declaration_of m) version a.call.request.info.method a.call.request.template endpoints) ≡ Some d)
      (sym valid.at_version) found)

  -- an endpoint that is named is the one that a handled request reached
  handled_by : (e : ApiEndpoint X F) → named_by m endpoints a.call.request ≡ Some e
      → (args : List Arg) (reply : Reply) (response : Response) (after : Tables)
      → Answers m endpoints a (Ok (Handled args reply response)) after → IsHandled m e a args reply response after
  handled_by e found args reply response after answers =
      let both : Some answers.0 ≡ Some e = sym answers.1.named ∙ found in
      let same : answers.0 ≡ e = cc both in
      subst (λ (e : ApiEndpoint X F). IsHandled m e a args reply response after) same answers.2

  answered_by : (d : DeclarationValue)
      → ((e : ApiEndpoint X F) × (named_by m endpoints a.call.request ≡ Some e) × (declaration_of m e ≡ d))
      → (outcome : Result Exchange ExchangeError) (after : Tables) → Answers m endpoints a outcome after
      → IsAnsweredBy m endpoints d a outcome after
  answered_by d is_named outcome after answers = record {
    endpoint = is_named.0;
    named = is_named.1;
    declared = is_named.2;
    handled = λ args reply response is.
        handled_by is_named.0 is_named.1 args reply response after
        (subst (λ (outcome : Result Exchange ExchangeError). Answers m endpoints a outcome after) is answers);
  }

  pub follows : OneServes → ((d : DeclarationValue) → IsListed version ds d → Agrees document d) → AnswersHaveCauses
      → AreServable m endpoints → (outcome : Result Exchange ExchangeError) (after : Tables) → Answers m endpoints a outcome after
      → FollowsDocument m endpoints document version a outcome after
  follows one agrees causes servable outcome after answers = λ d valid whole.
      let is_named = named one d valid in
      let valid_there = subst (λ (d : DeclarationValue). IsValid d a) (sym is_named.2) valid.valid in
      let there =
      handled_as_denoted m endpoints a causes servable outcome after answers is_named.0 is_named.1 valid_there whole in
      let here : WasHandled outcome ↔ IsDenoting d a =
      subst (λ (d : DeclarationValue). WasHandled outcome ↔ IsDenoting d a) is_named.2 there in
      let exact =
      (agrees d valid.listed).exact (sent_by a) a.body (limit_of d.body_limit a.call.config) a.budget valid.no_token in
      record {
        admitted = (λ was. exact.1 (here.0 was), λ admitted. here.1 (exact.0 admitted));
        denoted = here;
        answered = answered_by d is_named outcome after answers;
      }
