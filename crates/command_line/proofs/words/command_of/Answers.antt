use Rattle.std.proofs.Common.{◌≡◌, string_bytes, codes, inl, inr}
use Rattle.std.proofs.lemmas.Result.{err_from_is_err_and}
use Rattle.semver.specs.Identifiers.{parts_of}
use Rattle.command_line.proofs.WordLemmas.{asked_so, named_so, no_command, two_items, version_read}
use Rattle.command_line.proofs.words.command_of.Goals as goal

pub returns-in_err-parse_version-in-len2-clause-usage : goal.returns-in_err-parse_version-in-len2-clause-usage
returns-in_err-parse_version-in-len2-clause-usage c =
    let words = c.args.words.now in
    let one = c.word-item.result in
    let two = c.version-item.result in
    let text = c.as_str-in-len2.result.now in
    let are = two_items words one two c.in-len2.len_at_least c.in-len2.len_below c.word-item.is c.version-item.is in
    let named : string_bytes one ≡ codes "session" =
    named_so one c.as_str.result.now (codes "session") c.eq.result c.as_str.ensures.value c.eq.ensures c.if-eq.true in
    let same = c.as_str-in-len2.ensures.value in
    let usage = c.in_err-parse_version-in-len2.ensures.usage in
    let made = err_from_is_err_and c.from_residual.result c.from_residual.ensures.1 in (
      λ is. no_command words one two text are same (usage.0 (cc (made.1, made.2, is))),
      λ none.
          let q = usage.1
          (λ version read. none
          (version, inl (asked_so words one two text are same (codes "session") version named read))) in
          cc (made.1, made.2, q),
    )

pub returns-in_err-parse_version-in-len2-2-clause-usage : goal.returns-in_err-parse_version-in-len2-2-clause-usage
returns-in_err-parse_version-in-len2-2-clause-usage c =
    let words = c.args.words.now in
    let one = c.word-item-then-words-lt3.result in
    let two = c.version-item-then-words-lt3.result in
    let text = c.as_str-in-len2-2.result.now in
    let are = two_items words one two c.in-len2.len_at_least c.in-len2.len_below c.word-item-then-words-lt3.is
    c.version-item-then-words-lt3.is in
    let named : string_bytes one ≡ codes "document" =
    named_so one c.as_str-then-words-lt3.result.now (codes "document") c.eq-then-words-lt3.result
    c.as_str-then-words-lt3.ensures.value c.eq-then-words-lt3.ensures c.if-eq-2.true in
    let same = c.as_str-in-len2-2.ensures.value in
    let usage = c.in_err-parse_version-in-len2-2.ensures.usage in
    let residual = c.from_residual-in_err-parse_version-in-len2-2 in
    let made = err_from_is_err_and residual.result residual.ensures.1 in (
      λ is. no_command words one two text are same (usage.0 (cc (made.1, made.2, is))),
      λ none.
          let q = usage.1
          (λ version read. none
          (version, inr (asked_so words one two text are same (codes "document") version named read))) in
          cc (made.1, made.2, q),
    )

pub returns-in_err-parse_version-in-len2-clause-normal : goal.returns-in_err-parse_version-in-len2-clause-normal
returns-in_err-parse_version-in-len2-clause-normal c (version, normal, asked) =
    let one = c.word-item.result in
    let two = c.version-item.result in
    let are = two_items c.args.words.now one two c.in-len2.len_at_least c.in-len2.len_below c.word-item.is
    c.version-item.is in
    let read = version_read c.args.words.now one two c.as_str-in-len2.result.now are
    c.as_str-in-len2.ensures.value version asked in
    absurd (cc (c.in_err-parse_version-in-len2.ensures.normal version read normal))

pub returns-in_err-parse_version-in-len2-2-clause-normal : goal.returns-in_err-parse_version-in-len2-2-clause-normal
returns-in_err-parse_version-in-len2-2-clause-normal c (version, normal, asked) =
    let one = c.word-item-then-words-lt3.result in
    let two = c.version-item-then-words-lt3.result in
    let are = two_items c.args.words.now one two c.in-len2.len_at_least c.in-len2.len_below
    c.word-item-then-words-lt3.is c.version-item-then-words-lt3.is in
    let read = version_read c.args.words.now one two c.as_str-in-len2-2.result.now are
    c.as_str-in-len2-2.ensures.value version asked in
    absurd (cc (c.in_err-parse_version-in-len2-2.ensures.normal version read normal))

pub returns-in_ok-parse_version-in-len2-clause-command : goal.returns-in_ok-parse_version-in-len2-clause-command
returns-in_ok-parse_version-in-len2-clause-command c =
    let one = c.word-item.result in
    let two = c.version-item.result in
    let are = two_items c.args.words.now one two c.in-len2.len_at_least c.in-len2.len_below c.word-item.is
    c.version-item.is in
    let named : string_bytes one ≡ codes "session" =
    named_so one c.as_str.result.now (codes "session") c.eq.result c.as_str.ensures.value c.eq.ensures c.if-eq.true in
    asked_so c.args.words.now one two c.as_str-in-len2.result.now are c.as_str-in-len2.ensures.value (codes "session")
    (parts_of c.in_ok-parse_version-in-len2.field-0) named c.in_ok-parse_version-in-len2.ensures.version

pub returns-in_ok-parse_version-in-len2-clause-usage : goal.returns-in_ok-parse_version-in-len2-clause-usage
returns-in_ok-parse_version-in-len2-clause-usage c =
    let asked = returns-in_ok-parse_version-in-len2-clause-command c in
    (λ e. absurd (cc e), λ none. absurd (none (parts_of c.in_ok-parse_version-in-len2.field-0, inl asked)))

pub returns-in_ok-parse_version-in-len2-2-clause-command : goal.returns-in_ok-parse_version-in-len2-2-clause-command
returns-in_ok-parse_version-in-len2-2-clause-command c =
    let one = c.word-item-then-words-lt3.result in
    let two = c.version-item-then-words-lt3.result in
    let are = two_items c.args.words.now one two c.in-len2.len_at_least c.in-len2.len_below
    c.word-item-then-words-lt3.is c.version-item-then-words-lt3.is in
    let named : string_bytes one ≡ codes "document" =
    named_so one c.as_str-then-words-lt3.result.now (codes "document") c.eq-then-words-lt3.result
    c.as_str-then-words-lt3.ensures.value c.eq-then-words-lt3.ensures c.if-eq-2.true in
    asked_so c.args.words.now one two c.as_str-in-len2-2.result.now are c.as_str-in-len2-2.ensures.value
    (codes "document")
    (parts_of c.in_ok-parse_version-in-len2-2.field-0) named c.in_ok-parse_version-in-len2-2.ensures.version

pub returns-in_ok-parse_version-in-len2-2-clause-usage : goal.returns-in_ok-parse_version-in-len2-2-clause-usage
returns-in_ok-parse_version-in-len2-2-clause-usage c =
    let asked = returns-in_ok-parse_version-in-len2-2-clause-command c in
    (λ e. absurd (cc e), λ none. absurd (none (parts_of c.in_ok-parse_version-in-len2-2.field-0, inr asked)))
