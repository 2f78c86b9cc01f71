use Rattle.std.proofs.Common.{◌≡◌, length, map}
use Rattle.request_parts.specs.Wire.{wire_line}
use Rattle.request_words.specs.HeaderLines.{last_line}
use Rattle.header_texts.proofs.lines.last_line.Given as goal

abbrev pub invariant-loop-line : goal.invariant-loop-line
invariant-loop-line l = last_line l.name (map wire_line l.lines) ≡ last_line l.name (map wire_line l.fn.lines)

abbrev pub decreases-loop-line : goal.decreases-loop-line
decreases-loop-line l = length l.lines
