-- Registered endpoints, and one more.
use Rattle.std.proofs.Common.{◌≡◌, List, [], ◌∷◌, ◌++◌, Result, Ok, Err, map, refl, sym, subst, append_assoc}
use Rattle.std.specs.Prelude.{All, IsOkUnless}
use Rattle.std.proofs.lemmas.List.{append-nil, map-append}
use Rattle.std.proofs.lemmas.List.Elements.{All-append, All-cons, All-head, All-nil, All-tail}
use Rattle.handler_shapes.specs.ShapeChecks.{ShapePasses}
use Rattle.handler_shapes.specs.ShapeLengths.{ShapeHasShortLengths}
use Rattle.tag_config.specs.Configurations.{Configuration}
use Rattle.api_declarations.specs.Values.{DeclarationValue}
use Rattle.endpoint_checks.specs.EndpointIndexes.{IsIndexed}
use Rattle.api_registration.specs.Registering.{MayRegister}
use Rattle.api_registration.specs.declared.cause.RegisterCause.TheVariants as cause
use Rattle.api_registration.specs.declared.error.ApiDescriptionRegisterError.{ApiDescriptionRegisterError}
use Rattle.api_endpoints.specs.Endpoints.{Meanings, declaration_of, declarations_of}
use Rattle.api_endpoints.specs.declared.endpoint.ApiEndpoint.{ApiEndpoint}
use Rattle.endpoint_answers.specs.Exchanges.{AreServable, IsServable}
use Rattle.api_registration.specs.Accepted.{AreAccepted, AreRegistered, MayStandBehind}
use Rattle.api_descriptions.specs.Ready.{IsReady}
use Rattle.api_descriptions.specs.Refusals.{IsFirstRefused}
use Rattle.api_descriptions.specs.declared.description.ApiDescription.{ApiDescription}
use Rattle.api_descriptions.specs.declared.register_error.RegisterError.{RegisterError}
use Rattle.api_descriptions.specs.declared.register_error.RegisterError.TheVariants.{Refused, OutOfMemory}
use Rattle.api_registration.proofs.CallerLemmas.{accepted_behind, each_accepted, may_passes, refused_may_not}

-- ---- declarations

-- one more at the end
registered_push : (ds : List DeclarationValue) (d : DeclarationValue) → AreRegistered ds → MayStandBehind ds d
    → ShapeHasShortLengths d.shape → AreRegistered (ds ++ d ∷ [])
registered_push ds d were may short =
    let Has : DeclarationValue → Type 0 = λ e. ShapeHasShortLengths e.shape in
    record {
      accepted = accepted_behind MayStandBehind [] ds d were.accepted may;
      lengths = All-append Has ds (d ∷ []) were.lengths (All-cons Has d [] short (All-nil Has));
    }

-- what may be registered answers requests
may_serve : (before : List DeclarationValue) (d : DeclarationValue) → MayStandBehind before d → IsServable d.shape
may_serve before d may =
    record { passes = may_passes before d may; last = may.1.clear cause.TwoBodies }

module _ (tags : Configuration) where
  -- of accepted endpoints each may be registered behind those in front of it
  accepted_next : (before front : List DeclarationValue) (d : DeclarationValue) (rest : List DeclarationValue)
      → AreAccepted tags before (front ++ d ∷ rest) → MayRegister tags (before ++ front) d
  accepted_next before [] d rest accepted =
      subst (λ (xs : List DeclarationValue). MayRegister tags xs d) (sym (append-nil before)) accepted.0
  accepted_next before (x ∷ front) d rest accepted =
      subst (λ (xs : List DeclarationValue). MayRegister tags xs d) (append_assoc before (x ∷ []) front)
      (accepted_next (before ++ x ∷ []) front d rest accepted.1)

  -- so none of them is refused
  none_refused : (ds : List DeclarationValue) (error : ApiDescriptionRegisterError) → AreAccepted tags [] ds
      → ¬ IsFirstRefused tags ds error
  none_refused ds error accepted first =
      refused_may_not tags first.front first.next error first.refused
      (accepted_next [] first.front first.next first.rest (subst (AreAccepted tags []) first.order accepted))

  -- endpoints that are accepted are taken, unless memory runs out
  pub all_or_memory : {T : Type 0} (ds : List DeclarationValue) (result : Result T RegisterError)
      → ((error : ApiDescriptionRegisterError) → result ≡ Err (Refused error) → IsFirstRefused tags ds error)
      → AreAccepted tags [] ds → IsOkUnless result OutOfMemory
  all_or_memory ds (Ok x) refused accepted = tt
  all_or_memory ds (Err (Refused error)) refused accepted =
      absurd (none_refused ds error accepted (refused error refl))
  all_or_memory ds (Err OutOfMemory) refused accepted = refl

-- ---- endpoints

-- what holds of what is made of each thing
all_of : {A B : Type 0} (P : B → Type 0) (f : A → B) (xs : List A) → All P (map f xs) → All (λ x. P (f x)) xs
all_of P f [] all = All-nil (λ x. P (f x))
all_of P f (x ∷ xs) all =
    All-cons (λ x. P (f x)) x xs (All-head P (f x) (map f xs) all) (all_of P f xs (All-tail P (f x) (map f xs) all))

module _ {X : Type 0} {F : X → Type 0} (m : Meanings X F) where
  -- registered endpoints answer requests
  pub registered_serve : (es : List (ApiEndpoint X F)) → AreRegistered (declarations_of m es) → AreServable m es
  registered_serve es were =
      all_of (λ (d : DeclarationValue). IsServable d.shape) (declaration_of m) es
      (each_accepted MayStandBehind (λ d. IsServable d.shape) may_serve [] (declarations_of m es) were.accepted)

  -- and documents can show them
  pub registered_pass : (es : List (ApiEndpoint X F)) → AreRegistered (declarations_of m es)
      → All (λ (d : DeclarationValue). ShapePasses d.shape) (declarations_of m es)
  registered_pass es were =
      each_accepted MayStandBehind (λ d. ShapePasses d.shape) may_passes []
      (declarations_of m es) were.accepted

  module _ (old new : ApiDescription X F) (ready : IsReady m old)
      (indexed : IsIndexed (declarations_of m new.endpoints.items) new.index) where
    -- one more that may be registered behind them
    pub ready_push : (tags : Configuration) (e : ApiEndpoint X F) → new.endpoints.items ≡ old.endpoints.items ++ e ∷ []
        → MayRegister tags (declarations_of m old.endpoints.items) (declaration_of m e)
        → ShapeHasShortLengths (declaration_of m e).shape → IsReady m new
    ready_push tags e is may short =
        let ds = declarations_of m old.endpoints.items in
        let more = registered_push ds (declaration_of m e) ready.registered (tags, may) short in
        record {
          registered = subst (λ (es : List (ApiEndpoint X F)). AreRegistered (declarations_of m es)) (sym is)
              (subst AreRegistered (sym (map-append (declaration_of m) old.endpoints.items (e ∷ []))) more);
          indexed = indexed;
        }
