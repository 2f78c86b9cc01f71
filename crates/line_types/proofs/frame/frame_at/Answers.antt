use Rattle.std.proofs.Common.{ℕ, sym, ap₂, refl}
use Rattle.descriptors.specs.declared.tree.Tree.{Tree}
use Rattle.descriptors.specs.declared.tree.Tree.TheVariants as trees
use Rattle.request_lines.specs.RequestLines.{any_text, digits_desc}
use Rattle.line_types.proofs.Choices.{first_at, second_at}
use Rattle.line_types.proofs.frame.frame_at.Goals as goal

pub from_tree-requires : goal.from_tree-requires
from_tree-requires c =
    first_at any_text digits_desc (trees.Variant c.args.place c.args.value.now) c.args.place c.args.value.now c.requires refl
    c.if-place-eq0.true

pub from_tree-requires-else-place-eq0 : goal.from_tree-requires-else-place-eq0
from_tree-requires-else-place-eq0 c =
    (second_at any_text digits_desc (trees.Variant c.args.place c.args.value.now) c.args.place c.args.value.now c.requires refl
    c.if-place-eq0.false).1

pub returns-in_ok-from_tree-2 : goal.returns-in_ok-from_tree-2
returns-in_ok-from_tree-2 c =
    let (second, one) =
    second_at any_text digits_desc (trees.Variant c.args.place c.args.value.now) c.args.place c.args.value.now c.requires refl
    c.if-place-eq0.false in
    ap₂ (λ (i : ℕ) (s : Tree). trees.Variant i s) (sym second) c.in_ok-from_tree-2.ensures
