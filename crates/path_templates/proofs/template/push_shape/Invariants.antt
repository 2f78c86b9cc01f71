use Rattle.std.proofs.Common.{◌≡◌, ◌++◌, drop, map}
use Rattle.path_templates.specs.Shapes.{nameless}
use Rattle.path_templates.specs.Templates.{behind_slashes}
use Rattle.path_templates.proofs.template.push_shape.Given as goal

-- the segments so far, before those that are left
abbrev pub invariant-loop-segment : goal.invariant-loop-segment
invariant-loop-segment l =
    l.initial.shape ++ behind_slashes (map nameless l.segments)
    ≡ l.shape ++ behind_slashes (map nameless (drop l.segment-index l.segments))
