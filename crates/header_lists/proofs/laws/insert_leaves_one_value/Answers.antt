use Rattle.header_lists.proofs.Values.{insert-one, insert-others, insert-first, insert-last}
use Rattle.header_lists.proofs.laws.insert_leaves_one_value.Goals as goal

pub returns : goal.returns
returns c = record { one = insert-one; others = insert-others; first = insert-first; last = insert-last }
