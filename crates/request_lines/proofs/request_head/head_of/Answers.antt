use Rattle.std.proofs.Common.{◌∙◌, ℕ, List, Option, ap, codes, map, refl, subst, sym}
use Rattle.std.specs.List.{AllZip}
use Rattle.std.specs.Str.{encode_utf8_all}
use Rattle.std.proofs.lemmas.Result.{err_from_is_err_and}
use Rattle.http_header.specs.Token.{IsToken}
use Rattle.schema_values.specs.declared.json_value.Json.{Json}
use Rattle.typed_values.specs.Denotes.{value_named}
use Rattle.request_lines.specs.RequestLines.{field_line}
use Rattle.request_lines.specs.Said.{AreItems, IsLineOf, SaysTarget}
use Rattle.request_lines.proofs.MadeLemmas.{head_with, lines_made, lines_said}
use Rattle.request_lines.proofs.SaidLemmas.{items_same, some_text_same}
use Rattle.request_lines.proofs.request_head.head_of.Goals as goal

pub returns-in_err-text_named-clause-bad : goal.returns-in_err-text_named-clause-bad
returns-in_err-text_named-clause-bad c bad info in_members =
    let (method, target, lines, says, head) = in_members in
    c.in_err-text_named.ensures.bad method says.method_said

pub returns-in_err-method-clause-bad : goal.returns-in_err-method-clause-bad
returns-in_err-method-clause-bad c bad info in_members =
    let (method, target, lines, says, head) = in_members in
    let told = err_from_is_err_and c.from_residual-in_err-method.result c.from_residual-in_err-method.ensures.1 in
    let same = some_text_same (value_named c.args.members.now.items (codes "method")) method
    c.in_ok-text_named.field-0 says.method_said c.in_ok-text_named.ensures.text in
    c.in_err-method.ensures.bad (cc (told.1, told.2, bad))
    (subst (λ (text : List ℕ). IsToken (encode_utf8_all text)) same head.token)

pub returns-in_err-uri-clause-bad : goal.returns-in_err-uri-clause-bad
returns-in_err-uri-clause-bad c bad info in_members =
    let (method, target, lines, says, head) = in_members in
    let told = err_from_is_err_and c.from_residual-in_err-uri.result c.from_residual-in_err-uri.ensures.1 in
    let kept = c.take_value.ensures.value ∙ c.in_ok-text_named.ensures.others (codes "uri") refl in
    c.in_err-uri.ensures.bad (cc (told.1, told.2, bad)) target
    (subst (λ (v : Option Json). SaysTarget v target) (sym kept) says.target_said) head.uri head.spelled

pub returns-in_err-items_named-clause-bad : goal.returns-in_err-items_named-clause-bad
returns-in_err-items_named-clause-bad c bad info in_members =
    let (method, target, lines, says, head) = in_members in
    let kept = c.take_value.ensures.others (codes "headers") refl
    ∙ c.in_ok-text_named.ensures.others (codes "headers") refl in
    c.in_err-items_named.ensures.bad says.headers
    (subst (λ (v : Option Json). AreItems v says.headers) (sym kept) says.headers_are)

pub returns-in_err-lines-clause-bad : goal.returns-in_err-lines-clause-bad
returns-in_err-lines-clause-bad c bad info in_members =
    let (method, target, lines, says, head) = in_members in
    let told = err_from_is_err_and c.from_residual-in_err-lines.result c.from_residual-in_err-lines.ensures.1 in
    let kept = c.take_value.ensures.others (codes "headers") refl
    ∙ c.in_ok-text_named.ensures.others (codes "headers") refl in
    let items = c.in_ok-items_named.field-0 in
    let same = items_same (value_named c.args.members.now.items (codes "headers")) says.headers items says.headers_are
    (subst (λ (v : Option Json). AreItems v items) kept c.in_ok-items_named.ensures.items) in
    c.in_err-lines.ensures.bad (cc (told.1, told.2, bad)) (map field_line lines)
    (subst (λ (js : List Json). AllZip IsLineOf js (map field_line lines)) same
    (lines_said says.headers lines says.headers_said head.fields))

pub returns-clause-head : goal.returns-clause-head
returns-clause-head c =
    let kept = c.take_value.ensures.others (codes "headers") refl
    ∙ c.in_ok-text_named.ensures.others (codes "headers") refl in
    let (target, target_is, spelled) = c.in_ok-uri.ensures.spells in
    let items = c.in_ok-items_named.field-0 in
    let (lines, lines_say, fields, are) = lines_made items c.in_ok-lines.lines c.in_ok-lines.ensures.lines in (
      c.in_ok-text_named.field-0,
      target,
      lines,
      record {
        method_said = c.in_ok-text_named.ensures.text;
        target_said = subst (λ (v : Option Json). SaysTarget v target)
            (c.take_value.ensures.value ∙ c.in_ok-text_named.ensures.others (codes "uri") refl) target_is;
        headers = items;
        headers_are = subst (λ (v : Option Json). AreItems v items) kept c.in_ok-items_named.ensures.items;
        headers_said = lines_say;
      },
      record {
        token = c.in_ok-method.ensures.token;
        uri = c.in_ok-uri.uri;
        spelled = spelled;
        fields = fields;
        made = rw (c.new-2.ensures, c.in_ok-method.ensures.same, c.new.ensures)
            (ap (head_with (encode_utf8_all c.in_ok-text_named.field-0) c.in_ok-uri.uri) are);
      },
    )
