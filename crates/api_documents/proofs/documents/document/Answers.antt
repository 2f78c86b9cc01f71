use Rattle.std.proofs.Common.{◌≡◌, ap, ◌∙◌}
use Rattle.semver.specs.Identifiers.{parts_of}
use Rattle.tag_config.specs.Configurations.{Configuration}
use Rattle.api_documents.specs.Listed.{listed}
use Rattle.api_documents.specs.Tags.{tags_of}
use Rattle.api_documents.proofs.documents.document.Goals as goal

pub returns : goal.returns
returns c =
    let shown = listed (parts_of c.args.version.now) c.args.declarations.now in
    let tags : c.in_ok-tags.tags ≡ tags_of c.args.tag_config.now.tags shown =
    c.in_ok-tags.ensures ∙ ap (λ (config : Configuration). tags_of config.tags shown) c.tag_config.view_is in
    λ i. record {
      openapi = c.in_ok-openapi.ensures i;
      info = c.in_ok-info.ensures i;
      paths = c.in_ok-paths.ensures.paths i;
      components = c.in_ok-paths.ensures.components i;
      tags = tags i;
    }
