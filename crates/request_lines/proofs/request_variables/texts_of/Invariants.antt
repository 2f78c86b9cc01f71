use Rattle.std.specs.List.{AllZip}
use Rattle.request_lines.specs.Said.{IsText}
use Rattle.request_lines.proofs.request_variables.texts_of.Given as goal

-- the texts so far
abbrev pub invariant-loop-item : goal.invariant-loop-item
invariant-loop-item l = AllZip IsText l.yielded l.texts
