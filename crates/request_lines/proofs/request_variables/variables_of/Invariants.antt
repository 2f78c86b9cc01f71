use Rattle.std.specs.List.{AllZip}
use Rattle.schema_values.specs.Member.{name_of}
use Rattle.schema_values.specs.Order.{sorted_by}
use Rattle.request_lines.specs.Said.{SaysEntry}
use Rattle.request_lines.proofs.request_variables.variables_of.Given as goal

-- the variables so far
abbrev pub invariant-loop-member : goal.invariant-loop-member
invariant-loop-member l = AllZip SaysEntry (sorted_by name_of l.yielded) l.variables.entries
