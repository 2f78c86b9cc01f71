use Rattle.std.proofs.Common.{option_map, ap}
use Rattle.request_words.specs.CutNumbers.{cut}
use Rattle.request_words.proofs.DigitLemmas.{digits_in_bytes}
use Rattle.request_words.proofs.numbers.size_of_digits.Goals as goal

pub returns-clause-size : goal.returns-clause-size
returns-clause-size c = cc (c.size_of_bytes.ensures.size, c.as_bytes.ensures.value, ap (option_map cut) (digits_in_bytes c.args.digits.now c.utf8.digits))
