use Rattle.std.proofs.Common.{◌≡◌, drop, map}
use Rattle.request_parts.specs.Wire.{wire_line}
use Rattle.request_words.specs.HeaderLines.{first_line}
use Rattle.header_texts.proofs.lines.first_line.Given as goal

abbrev pub invariant-loop-line : goal.invariant-loop-line
invariant-loop-line l = first_line l.name (map wire_line (drop l.line-index l.lines)) ≡ first_line l.name (map wire_line l.fn.lines)
