use Rattle.std.proofs.Common.{codes}
use Rattle.request_words.specs.Pairs.{values_of}
use Rattle.api_extract.proofs.NamedPairs.{last_is}
use Rattle.api_extract.proofs.pages.decode_page.Goals as goal

pub returns-in-Some : goal.returns-in-Some
returns-in-Some c =
    let name = codes "page_token" in
    let pairs = c.args.pairs.now in
    rw (last_is name pairs (values_of name c.in-Some.field-0-1.now) c.in-Some.pair.now.value (rw c.as_slice.ensures at c.in-Some.ensures)) c.decode_later_page.ensures
