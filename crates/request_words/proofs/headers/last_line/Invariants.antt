use Rattle.std.proofs.Common.{◌≡◌, length}
use Rattle.request_words.specs.HeaderLines.{last_line}
use Rattle.request_words.proofs.headers.last_line.Given as goal

abbrev pub invariant-loop-line : goal.invariant-loop-line
invariant-loop-line l = last_line l.name l.lines ≡ last_line l.name l.fn.lines

abbrev pub decreases-loop-line : goal.decreases-loop-line
decreases-loop-line l = length l.lines
