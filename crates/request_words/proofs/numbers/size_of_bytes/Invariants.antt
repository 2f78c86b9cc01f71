use Rattle.std.proofs.Common.{◌≡◌, ◌≤◌, ◌^◌, length, option_map}
use Rattle.request_words.specs.CutNumbers.{cut}
use Rattle.request_words.specs.Numbers.{digits_after}
use Rattle.request_words.proofs.numbers.size_of_bytes.Given as goal

abbrev pub invariant-loop-byte : goal.invariant-loop-byte
invariant-loop-byte l = (option_map cut (digits_after l.size l.digits) ≡ option_map cut (digits_after 0 l.fn.digits)) × (l.size ≤ 2 ^ 64)

abbrev pub decreases-loop-byte : goal.decreases-loop-byte
decreases-loop-byte l = length l.digits
