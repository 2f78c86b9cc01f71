use Rattle.std.proofs.Common.{◌≡◌, ◌∙◌, ap, subst, sym}
use Rattle.std.specs.Str.{encode_utf8_all}
use Rattle.semver.specs.Parse.{Parts}
use Rattle.contract_tool.specs.LineAnswers.{service}
use Rattle.contract_tool.specs.Sessions.{preamble_of}
use Rattle.contract_tool.proofs.serving.preamble_text.Goals as goal

pub text-requires : goal.text-requires
text-requires g c = record { ready = rw c.in_ok-definition.ensures.api c.requires }

pub returns : goal.returns
returns g c =
    let here = rw (
      c.in_ok-definition.ensures.api,
      c.in_ok-definition.ensures.info,
      c.in_ok-definition.ensures.version,
      sym c.as_str.ensures,
    ) at (c.into_bytes.ensures ∙ ap encode_utf8_all c.in_ok-text.ensures) in
    subst (λ (v : Parts). c.into_bytes.result
    ≡ preamble_of (λ e. goal.RouteHandler-dyn g (e.handler.vtable, e.handler.value))
    (service c.args.config.now c.args.api.now.tags c.args.api.now.endpoints.items v)) c.in_ok-version.ensures here
