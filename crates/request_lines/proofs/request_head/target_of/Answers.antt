use Rattle.std.proofs.Common.{codes, refl}
use Rattle.request_lines.proofs.request_head.target_of.Goals as goal

pub returns-in-None-clause-spells : goal.returns-in-None-clause-spells
returns-in-None-clause-spells c = (codes "/", rw c.in-None.is refl, c.root_target.ensures)
