use Rattle.std.proofs.Common.{◌≡◌, drop}
use Rattle.request_words.specs.HeaderLines.{first_line}
use Rattle.request_words.proofs.headers.first_line.Given as goal

abbrev pub invariant-loop-line : goal.invariant-loop-line
invariant-loop-line l = first_line l.name (drop l.line-index l.lines) ≡ first_line l.name l.fn.lines
