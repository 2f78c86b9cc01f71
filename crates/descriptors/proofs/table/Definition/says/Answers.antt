use Rattle.std.proofs.Common.{sym}
use Rattle.descriptors.proofs.EqualDescs.{says_tells}
use Rattle.descriptors.proofs.table.Definition.says.Goals as goal

pub returns-then-eq : goal.returns-then-eq
returns-then-eq c = rw c.eq-then-eq.ensures (says_tells c.args.self.now c.args.description.now c.args.desc.now (sym c.if-eq.ensures))
