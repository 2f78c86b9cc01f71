use Rattle.std.proofs.Common.{◌≡◌, rules}
use Rattle.semver.specs.Identifiers.{parts_of}
use Rattle.api_declarations.specs.Serving.{serves}
use Rattle.api_declarations.proofs.Served.{served}
use Rattle.api_declarations.proofs.declaration.Declaration.serves.Goals as goal

pub returns-then-same_template-clause-decided : goal.returns-then-same_template-clause-decided
returns-then-same_template-clause-decided c =
    let version = parts_of c.args.version.now in
    let test : c.holds.result ≡ serves version c.args.method.now c.args.template.now c.args.self.now = search rules in
    rw test (served version c.args.method.now c.args.template.now c.args.self.now)
