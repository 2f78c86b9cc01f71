use Rattle.std.proofs.Common.{[], subst}
use Rattle.api_types.specs.Types.{FitsOne}
use Rattle.request_lines.specs.RequestLines.{any_text, texts, variable_desc}
use Rattle.line_types.proofs.Choices.{choice_one}
use Rattle.line_types.proofs.variable.LineVariableApiType.from_tree.Goals as goal

pub variable_at-requires : goal.variable_at-requires
variable_at-requires c = rw c.get.ensures (subst (FitsOne [] variable_desc) c.in-Variant.is c.requires)

pub unreachable-requires : goal.unreachable-requires
unreachable-requires c =
    let (i, s, is) = choice_one any_text texts c.args.tree.now c.requires in c.in_default.not-Variant i s is
