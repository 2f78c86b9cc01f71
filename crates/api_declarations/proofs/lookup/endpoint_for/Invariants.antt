use Rattle.std.proofs.Common.{◌≡◌, drop}
use Rattle.semver.specs.Identifiers.{parts_of}
use Rattle.api_declarations.specs.Serving.{endpoint_for}
use Rattle.api_declarations.proofs.lookup.endpoint_for.Given as goal

-- no endpoint so far serves the method and the template at the version
abbrev pub invariant-loop-endpoint : goal.invariant-loop-endpoint
invariant-loop-endpoint g l =
    endpoint_for g.E.Declared.declared (parts_of l.version) l.method l.template l.endpoints
    ≡ endpoint_for g.E.Declared.declared (parts_of l.version) l.method l.template (drop l.endpoint-index l.endpoints)
