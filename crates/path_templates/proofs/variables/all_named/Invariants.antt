use Rattle.std.proofs.Common.{◌≡◌}
use Rattle.std.specs.List.{list_all}
use Rattle.path_templates.specs.Variables.{is_named}
use Rattle.path_templates.proofs.variables.all_named.Given as goal

-- each variable so far is named
abbrev pub invariant-loop-name : goal.invariant-loop-name
invariant-loop-name l =
    list_all (λ variable. is_named l.segments variable.0) l.variables.entries
    ≡ list_all (λ variable. is_named l.segments variable.0) l.name-iterator
