use Rattle.std.proofs.lemmas.Str.{IsUtf8-from_ascii}
use Rattle.request_words.proofs.After.{after_cases}
use Rattle.schema_values.proofs.CallerLemmas.{IsAscii-from_test}
use Rattle.request_words.proofs.words.str_after.Goals as goal

pub returns : goal.returns
returns c =
    let prefix = c.args.prefix.now in
    let ascii = IsAscii-from_test prefix c.requires in
    after_cases prefix c.args.text.now ascii (IsUtf8-from_ascii prefix ascii) c.utf8.text c.strip_prefix.result c.strip_prefix.ensures.cases
