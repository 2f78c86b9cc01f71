use Rattle.std.proofs.Common.{ap, ◌∙◌}
use Rattle.semver.specs.Identifiers.{parts_of}
use Rattle.path_templates.specs.Places.{first_at, places_at}
use Rattle.api_declarations.specs.Serving.{serves}
use Rattle.api_declarations.proofs.Served.{found_indexed}
use Rattle.api_declarations.proofs.lookup.endpoint_at.Goals as goal

pub returns-then-equals_str-clause-found : goal.returns-then-equals_str-clause-found
returns-then-equals_str-clause-found g c =
    let version = parts_of c.args.version.now in
    let method = c.args.method.now in
    let template = c.args.template.now in
    let declared = g.E.Declared.declared in
    let same = c.equals_str.ensures.0 c.if-equals_str.true ∙ c.without_trailing_slash-trimmed.ensures in
    c.found_at.ensures
    ∙ ap (first_at (λ e. serves version method template (declared e)) c.args.endpoints.now)
    (c.at-places.ensures ∙ ap (places_at c.args.index.now) same)
    ∙ found_indexed declared c.args.endpoints.now c.args.index.now c.requires version method template

pub returns-in_ok-key-clause-found : goal.returns-in_ok-key-clause-found
returns-in_ok-key-clause-found g c =
    let version = parts_of c.args.version.now in
    let method = c.args.method.now in
    let template = c.args.template.now in
    let declared = g.E.Declared.declared in
    let same = c.in_ok-key.ensures ∙ c.without_trailing_slash-trimmed.ensures in
    c.found_at-else-equals_str.ensures
    ∙ ap (first_at (λ e. serves version method template (declared e)) c.args.endpoints.now)
    (c.at-places-else-equals_str.ensures ∙ ap (places_at c.args.index.now) same)
    ∙ found_indexed declared c.args.endpoints.now c.args.index.now c.requires version method template
