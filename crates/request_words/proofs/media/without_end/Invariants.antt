use Rattle.std.proofs.Common.{◌≡◌, length}
use Rattle.request_words.specs.MediaTypes.{without_end}
use Rattle.request_words.proofs.media.without_end.Given as goal

abbrev pub invariant-loop-last : goal.invariant-loop-last
invariant-loop-last l = without_end l.value ≡ without_end l.fn.value

abbrev pub decreases-loop-last : goal.decreases-loop-last
decreases-loop-last l = length l.value
