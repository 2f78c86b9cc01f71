use Rattle.std.specs.List.{AllZip}
use Rattle.request_lines.specs.Said.{IsLineOf}
use Rattle.request_lines.proofs.request_head.lines_of.Given as goal

-- the lines so far
abbrev pub invariant-loop-item : goal.invariant-loop-item
invariant-loop-item l = AllZip IsLineOf l.yielded l.lines
