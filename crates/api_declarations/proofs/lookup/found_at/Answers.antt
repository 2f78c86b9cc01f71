use Rattle.std.proofs.Common.{◌≡◌, Option, Some, None, refl, sym, ◌∙◌}
use Rattle.std.specs.Prelude.{option_map}
use Rattle.semver.specs.Identifiers.{parts_of}
use Rattle.path_templates.proofs.CallerLemmas.{found_here, found_later}
use Rattle.api_declarations.specs.Serving.{serves}
use Rattle.api_declarations.proofs.lookup.found_at.Goals as goal

no_value : {A B : Type 0} (f : A → B) (found : Option A) → ((x : A) → found ≡ Some x → ⊥) → None ≡ option_map f found
no_value f None none = refl
no_value f (Some x) none = absurd (none x refl)

pub loop-place-preserved : goal.loop-place-preserved
loop-place-preserved g c =
    c.loop-place.invariant
    ∙ found_later
    (λ e. serves (parts_of c.args.version.now) c.args.method.now c.args.template.now (g.E.Declared.declared e))
    c.args.endpoints.now c.args.places.now c.loop-place.place-index c.loop-place-test.true
    (no_value _ c.serving_at.result c.in_default.not-Some ∙ c.serving_at.ensures)

pub returns-in-Some : goal.returns-in-Some
returns-in-Some g c =
    sym (c.loop-place.invariant
    ∙ found_here
    (λ e. serves (parts_of c.args.version.now) c.args.method.now c.args.template.now (g.E.Declared.declared e))
    c.args.endpoints.now c.args.places.now c.loop-place.place-index c.loop-place-test.true
    c.in-Some.endpoint.now c.in-Some.ensures)
