use Rattle.header_lists.proofs.Values.{append-more, append-others, append-first, append-last}
use Rattle.header_lists.proofs.laws.append_adds_a_value.Goals as goal

pub returns : goal.returns
returns c = record { more = append-more; others = append-others; first = append-first; last = append-last }
