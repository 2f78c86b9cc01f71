use Rattle.std.proofs.Common.{◌≡◌, length}
use Rattle.request_words.specs.Pairs.{values_of}
use Rattle.api_extract.proofs.queries.last_named.Given as goal

abbrev pub invariant-loop-pair : goal.invariant-loop-pair
invariant-loop-pair l = values_of l.name l.pairs ≡ values_of l.name l.fn.pairs

abbrev pub decreases-loop-pair : goal.decreases-loop-pair
decreases-loop-pair l = length l.pairs
