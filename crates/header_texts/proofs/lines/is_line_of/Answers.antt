use Rattle.std.proofs.Common.{◌≡◌, ℕ, List, bytes_eq, sym, ◌∙◌, ap}
use Rattle.std.proofs.lemmas.Slice.Eq.{bytes_eq-Decides}
use Rattle.std.proofs.lemmas.Str.{encodes-chars}
use Rattle.std.specs.Str.{chars, encode_utf8_all}
use Rattle.request_words.proofs.CallerLemmas.{same_test}
use Rattle.request_words.specs.HeaderLines.{lower}
use Rattle.header_texts.proofs.lines.is_line_of.Goals as goal

pub returns : goal.returns
returns c =
    let bytes = lower c.as_bytes.result.now in
    let name = lower c.args.name.now in
    let test = c.eq_ignore_ascii_case.ensures.test in
    let same = bytes_eq-Decides bytes name in
    same_test c.eq_ignore_ascii_case.result (bytes_eq bytes name) (bytes ≡ name) test.0 test.1 same.0 same.1
    ∙ ap (λ (line : List ℕ). bytes_eq (lower line) name) (
    c.as_bytes.ensures.value
    ∙ sym (encodes-chars c.as_str-line_name.result.now c.as_str-line_name.utf8)
    ∙ ap (λ (line : List ℕ). encode_utf8_all (chars line)) c.as_str-line_name.ensures.value
    )
