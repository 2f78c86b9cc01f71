use Rattle.std.proofs.Common.{◌≡◌, take}
use Rattle.header_lists.proofs.header_list.HeaderList.copy.Given as goal

-- the lines so far are copied
abbrev pub invariant-loop-line : goal.invariant-loop-line
invariant-loop-line l = l.lines.items ≡ take l.line-index l.line-items
