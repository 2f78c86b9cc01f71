-- Endpoints that were registered so far, the next of them, and the rest.
use Rattle.std.proofs.Common.{◌≡◌, ◌<◌, List, [], ◌∷◌, ◌++◌, length, take, drop, get_or, suc, sym, ap, ◌∙◌, subst}
use Rattle.std.proofs.lemmas.List.{map-append, take-append-drop}
use Rattle.std.proofs.Math.Seq.{drop-cons}
use Rattle.tag_config.specs.Configurations.{Configuration}
use Rattle.api_registration.specs.Registering.{MayRegister, RefusedBy}
use Rattle.api_registration.specs.declared.error.ApiDescriptionRegisterError.{ApiDescriptionRegisterError}
use Rattle.api_endpoints.specs.Endpoints.{Meanings, declaration_of, declarations_of}
use Rattle.api_endpoints.specs.declared.endpoint.ApiEndpoint.{ApiEndpoint}
use Rattle.api_registration.specs.Accepted.{AreAccepted}
use Rattle.api_descriptions.specs.Refusals.{IsFirstRefused}
use Rattle.api_registration.proofs.CallerLemmas.{accepted_behind}

-- a list at the item behind a front of it
pub behind_front : {A : Type 0} (all front : List A) (x : A) → front ≡ take (length front) all
    → length front < length all → x ≡ get_or all (length front) x
    → all ≡ front ++ x ∷ drop (suc (length front)) all
behind_front all front x is inside at =
    sym (take-append-drop (length front) all)
    ∙ ap (λ xs. take (length front) all ++ xs)
    (drop-cons all (length front) x inside ∙ ap (λ y. y ∷ drop (suc (length front)) all) (sym at))
    ∙ ap (λ xs. xs ++ x ∷ drop (suc (length front)) all) (sym is)

module _ {X : Type 0} {F : X → Type 0} (m : Meanings X F) (tags own : Configuration) (same : own ≡ tags)
    (front registered : List (ApiEndpoint X F)) (are : registered ≡ front) (e : ApiEndpoint X F)
    (accepted : AreAccepted tags [] (declarations_of m front)) where
  -- one that is refused behind those so far
  pub refused_at : (all rest : List (ApiEndpoint X F)) (error : ApiDescriptionRegisterError)
      → all ≡ front ++ e ∷ rest → RefusedBy own (declarations_of m registered) (declaration_of m e) error
      → IsFirstRefused tags (declarations_of m all) error
  refused_at all rest error place refused =
      let here =
      subst (λ (tags : Configuration). RefusedBy tags (declarations_of m front) (declaration_of m e) error) same
      (subst (λ (es : List (ApiEndpoint X F)). RefusedBy own (declarations_of m es) (declaration_of m e) error) are
      refused) in
      record {
        front = declarations_of m front;
        next = declaration_of m e;
        rest = declarations_of m rest;
        order = ap (declarations_of m) place ∙ map-append (declaration_of m) front (e ∷ rest);
        accepted = accepted;
        refused = here;
      }

  -- one more that may be registered behind them
  pub accepted_at : MayRegister own (declarations_of m registered) (declaration_of m e)
      → AreAccepted tags [] (declarations_of m (front ++ e ∷ []))
  accepted_at may =
      let here =
      subst (λ (tags : Configuration). MayRegister tags (declarations_of m front) (declaration_of m e)) same
      (subst (λ (es : List (ApiEndpoint X F)). MayRegister own (declarations_of m es) (declaration_of m e)) are may) in
      subst (AreAccepted tags []) (sym (map-append (declaration_of m) front (e ∷ [])))
      (accepted_behind (MayRegister tags) [] (declarations_of m front) (declaration_of m e) accepted here)
