use Rattle.descriptors.proofs.Indexing.{no_table}
use Rattle.descriptors.proofs.table.DescTable.new.Goals as goal

pub invariant_of-result : goal.invariant_of-result
invariant_of-result c = rw (c.new.ensures, c.new-2.ensures.items) no_table
