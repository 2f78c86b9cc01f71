use Rattle.std.proofs.Common.{◌≡◌, drop}
use Rattle.request_words.specs.Pairs.{has_pair}
use Rattle.request_words.proofs.pairs.has_pair.Given as goal

abbrev pub invariant-loop-pair : goal.invariant-loop-pair
invariant-loop-pair l = has_pair (drop l.pair-index l.pairs) l.name ≡ has_pair l.fn.pairs l.name
