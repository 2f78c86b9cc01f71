use Rattle.std.proofs.Common.{◌≡◌, ◌++◌, drop}
use Rattle.path_templates.specs.Templates.{names_of}
use Rattle.path_templates.proofs.template.Template.variable_names.Given as goal

-- the names so far, before those of what is left
abbrev pub invariant-loop-segment : goal.invariant-loop-segment
invariant-loop-segment l = names_of l.self ≡ l.names ++ names_of (drop l.segment-index l.segment-items)
