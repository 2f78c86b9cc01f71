use Rattle.header_lists.proofs.Values.{extend-values, extend-first, extend-last}
use Rattle.header_lists.proofs.laws.extend_replaces_values.Goals as goal

pub returns : goal.returns
returns c = record { values = extend-values; first = extend-first; last = extend-last }
