use Rattle.std.proofs.Common.{◌≡◌, subst}
use Rattle.std.specs.Prelude.{IfOk}
use Rattle.descriptors.specs.declared.tree.Tree.{Tree}
use Rattle.line_types.proofs.Values.{same_tree}
use Rattle.line_types.proofs.laws.request_line_tree.Goals as goal

pub returns : goal.returns
returns c = subst (λ (t : Tree). IfOk c.to_tree.result (λ tree. tree ≡ t)) (same_tree c.args.line.now) c.to_tree.ensures
