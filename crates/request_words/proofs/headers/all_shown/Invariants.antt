use Rattle.std.proofs.Common.{◌≡◌, drop}
use Rattle.std.specs.List.{list_all}
use Rattle.request_words.specs.HeaderLines.{is_shown}
use Rattle.request_words.proofs.headers.all_shown.Given as goal

abbrev pub invariant-loop-byte : goal.invariant-loop-byte
invariant-loop-byte l = list_all is_shown (drop l.byte-index l.value) ≡ list_all is_shown l.fn.value
