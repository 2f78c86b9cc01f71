use Rattle.api_versions.proofs.Equal.{at_most_test}
use Rattle.api_versions.proofs.in_header.ClientSpecifiesVersionInHeader.serves.Goals as goal

pub returns : goal.returns
returns c = rw (c.le.ensures, ← c.self.view_is) (at_most_test c.args.version.now c.self.inside.max_version)
