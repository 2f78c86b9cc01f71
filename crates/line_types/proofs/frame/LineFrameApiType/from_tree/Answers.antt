use Rattle.std.proofs.Common.{[], subst}
use Rattle.api_types.specs.Types.{FitsOne}
use Rattle.request_lines.specs.RequestLines.{any_text, digits_desc, frame_desc}
use Rattle.line_types.proofs.Choices.{choice_one}
use Rattle.line_types.proofs.frame.LineFrameApiType.from_tree.Goals as goal

pub frame_at-requires : goal.frame_at-requires
frame_at-requires c = rw c.get.ensures (subst (FitsOne [] frame_desc) c.in-Variant.is c.requires)

pub unreachable-requires : goal.unreachable-requires
unreachable-requires c =
    let (i, s, is) = choice_one any_text digits_desc c.args.tree.now c.requires in c.in_default.not-Variant i s is
