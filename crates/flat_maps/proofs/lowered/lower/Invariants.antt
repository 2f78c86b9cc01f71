use Rattle.std.proofs.Common.{◌≡◌}
use Rattle.request_words.specs.HeaderLines.{lower}
use Rattle.flat_maps.proofs.lowered.lower.Given as goal

abbrev pub invariant-loop-character : goal.invariant-loop-character
invariant-loop-character l = l.lowered ≡ lower l.yielded
