use Rattle.std.proofs.Common.{◌≡◌, take}
use Rattle.path_templates.proofs.template.Template.copy.Given as goal

abbrev pub invariant-loop-segment : goal.invariant-loop-segment
invariant-loop-segment l = l.segments ≡ take l.segment-index l.segment-items
