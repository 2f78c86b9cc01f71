use Rattle.std.proofs.Common.{◌≡◌, length}
use Rattle.request_words.specs.MediaTypes.{after_plus}
use Rattle.request_words.proofs.media.after_plus.Given as goal

abbrev pub invariant-loop-byte : goal.invariant-loop-byte
invariant-loop-byte l = after_plus l.bytes ≡ after_plus l.fn.bytes

abbrev pub decreases-loop-byte : goal.decreases-loop-byte
decreases-loop-byte l = length l.bytes
