use Rattle.std.proofs.Common.{◌≡◌, drop}
use Rattle.openapi_values.specs.Rows.{in_subset}
use Rattle.openapi_values.proofs.keyword_rules.all_read.Given as goal

abbrev pub invariant-loop-member : goal.invariant-loop-member
invariant-loop-member l = in_subset (drop l.member-index l.schema) ≡ in_subset l.fn.schema
