-- Of endpoints that were accepted one behind the other, one alone serves a request.
use Rattle.std.proofs.Common.{◌≡◌, inl, inr, ℕ, Bool, true, false, List, [], ◌∷◌, ◌++◌, Option, Some, None, option_map, refl, sym, ◌∙◌, ap, subst, arith}
use Rattle.std.specs.Prelude.{if◌then◌else◌, Contains, find}
use Rattle.std.proofs.lemmas.Bool.{cases_Bool}
use Rattle.std.proofs.lemmas.List.Elements.{All-contains, Contains-push}
use Rattle.semver.specs.Parse.{Parts}
use Rattle.schema_values.proofs.CallerLemmas.{contains_cases}
use Rattle.path_templates.specs.Segments.{segments_of, segments_trimmed}
use Rattle.path_templates.specs.Shapes.{shape_of}
use Rattle.path_templates.specs.Templates.{trimmed}
use Rattle.path_templates.specs.declared.segment.PathSegment.{PathSegment}
use Rattle.api_declarations.specs.Serving.{Serves, serves}
use Rattle.api_declarations.specs.Values.{DeclarationValue}
use Rattle.api_declarations.proofs.CallerLemmas.{served}
use Rattle.endpoint_parameters.proofs.CallerLemmas.{none_holds}
use Rattle.api_registration.specs.Accepted.{MayStandBehind, WereAccepted}
use Rattle.endpoint_checks.specs.Clashes.{IsCalledBeside, ServesSame}
use Rattle.api_registration.specs.declared.cause.RegisterCause.TheVariants as cause
use Rattle.api_registration.proofs.Accepted.{behind_one}

module _ (before : List DeclarationValue) (e : DeclarationValue) (may : MayStandBehind before e) where
  -- its path is a template
  template_there : (segments : List PathSegment) × (segments_of e.path ≡ Some segments)
  template_there = by_segments (segments_of e.path) refl
    where
      by_segments : (o : Option (List PathSegment)) → segments_of e.path ≡ o → (segments : List PathSegment) × (segments_of e.path ≡ Some segments)
      by_segments None is = absurd (may.1.none cause.BadTemplate (_, (is, refl)))
      by_segments (Some segments) is = (segments, is)

  -- none before it of the same template serves its method, in versions that overlap
  pub apart_behind : (other : DeclarationValue) → Contains before other → trimmed other.path ≡ trimmed e.path → ¬ IsCalledBeside e other
  apart_behind other inside same called =
      let has_shape = ap (option_map shape_of) template_there.1 in
      none_holds (ServesSame e) before (λ x first. may.1.none cause.PathClash (_, (x, first, refl))) other inside record {
        called = called;
        shape = shape_of template_there.0;
        has_shape = has_shape;
        other_has_it = ap (λ path. option_map shape_of (segments_trimmed path)) same ∙ has_shape;
      }

module _ {A : Type 0} (holds : A → Bool) (x : A) (xs : List A) where
  found_here : holds x ≡ true → find holds (x ∷ xs) ≡ Some x
  found_here is = ap (λ (here : Bool). if here then Some x else find holds xs) is

  found_later : holds x ≡ false → find holds (x ∷ xs) ≡ find holds xs
  found_later is = ap (λ (here : Bool). if here then Some x else find holds xs) is

module _ (version : Parts) (method template : List ℕ) where
  abbrev NotBoth : DeclarationValue → DeclarationValue → Type 0
  NotBoth other e = Serves version method template other → ¬ Serves version method template e

  not_both : (before : List DeclarationValue) (e : DeclarationValue) → MayStandBehind before e → (other : DeclarationValue) → Contains before other → NotBoth other e
  not_both before e may other inside o s =
      apart_behind before e may other inside (o.by_template ∙ sym s.by_template) record {
        method = o.by_method ∙ sym s.by_method;
        versions = inl record { version = version; in_left = s.at_version; in_right = o.at_version };
      }

  -- the one that is found is each that serves it
  pub served_once : (before es : List DeclarationValue) (e : DeclarationValue) → WereAccepted before es → Contains es e → Serves version method template e → find (serves version method template) es ≡ Some e
  served_once before [] e accepted inside s = absurd (omega (arith, inside.1))
  served_once before (x ∷ es) e accepted inside s = elim (contains_cases x es e inside) [
    | inl same ↦
        subst (λ y. find (serves version method template) (y ∷ es) ≡ Some e) (sym same)
        (found_here (serves version method template) e es ((served version method template e).1 s))
    | inr later ↦ elim (cases_Bool (serves version method template x)) [
      | inl it ↦
          let behind = behind_one MayStandBehind NotBoth not_both (before ++ x ∷ []) es accepted.1 x (Contains-push before x) in
          absurd (All-contains (NotBoth x) es e behind later ((served version method template x).0 it) s)
      | inr other ↦ found_later (serves version method template) x es other ∙ served_once (before ++ x ∷ []) es e accepted.1 later s
    ]
  ]
