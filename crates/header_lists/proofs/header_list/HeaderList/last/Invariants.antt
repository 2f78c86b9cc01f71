use Rattle.std.proofs.Common.{◌≡◌, length}
use Rattle.header_lists.specs.HeaderLists.{last_of}
use Rattle.header_lists.proofs.header_list.HeaderList.last.Given as goal

abbrev pub invariant-loop-line : goal.invariant-loop-line
invariant-loop-line l = last_of l.name l.lines ≡ last_of l.name l.fn.self

abbrev pub decreases-loop-line : goal.decreases-loop-line
decreases-loop-line l = length l.lines
