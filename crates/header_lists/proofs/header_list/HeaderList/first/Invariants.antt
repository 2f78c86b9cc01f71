use Rattle.std.proofs.Common.{◌≡◌, drop}
use Rattle.header_lists.specs.HeaderLists.{first_of}
use Rattle.header_lists.proofs.header_list.HeaderList.first.Given as goal

abbrev pub invariant-loop-line : goal.invariant-loop-line
invariant-loop-line l = first_of l.name (drop l.line-index l.line-items) ≡ first_of l.name l.line-items
