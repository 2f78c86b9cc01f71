use Rattle.std.proofs.Common.{◌≡◌, ◌++◌, map}
use Rattle.form_urlencoded.specs.Parse.{raw_pairs_left}
use Rattle.request_words.specs.Pairs.{decoded_pair, form_pairs}
use Rattle.request_words.proofs.pairs.form_pairs.Given as goal

abbrev pub invariant-loop-name : goal.invariant-loop-name
invariant-loop-name l = l.pairs ++ map decoded_pair (raw_pairs_left l.name-iterator) ≡ form_pairs l.fn.bytes
