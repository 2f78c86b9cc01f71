use Rattle.std.proofs.lemmas.Bool.Decides.{same_from_decides}
use Rattle.semver.specs.Identifiers.{parts_of}
use Rattle.api_versions.specs.Shown.{range_of}
use Rattle.api_declarations.specs.Serving.{holds}
use Rattle.api_declarations.proofs.Held.{held}
use Rattle.api_declarations.proofs.serving.holds.Goals as goal

pub returns : goal.returns
returns c =
    let range = range_of c.args.versions.now in
    let version = parts_of c.args.version.now in
    same_from_decides c.matches.result (holds range version) c.matches.ensures (held range version)
