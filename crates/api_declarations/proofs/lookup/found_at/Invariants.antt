use Rattle.std.proofs.Common.{◌≡◌, drop}
use Rattle.semver.specs.Identifiers.{parts_of}
use Rattle.path_templates.specs.Places.{first_at}
use Rattle.api_declarations.specs.Serving.{serves}
use Rattle.api_declarations.proofs.lookup.found_at.Given as goal

-- no endpoint at a place so far serves the method and the template at the version
abbrev pub invariant-loop-place : goal.invariant-loop-place
invariant-loop-place g l =
    first_at (λ e. serves (parts_of l.version) l.method l.template (g.E.Declared.declared e)) l.endpoints l.places
    ≡ first_at (λ e. serves (parts_of l.version) l.method l.template (g.E.Declared.declared e)) l.endpoints
    (drop l.place-index l.places)
