use Rattle.std.proofs.Common.{◌≤◌, subst, sym}
use Rattle.std.proofs.lemmas.Result.{IfOk-weaker}
use Rattle.std.specs.Str.{encode_utf8_all}
use Rattle.schema_values.specs.declared.json_value.Json.{Json}
use Rattle.schema_values.specs.Depth.{depth}
use Rattle.schema_values.specs.Sound.{IsSound}
use Rattle.schema_values.specs.SortedMembers.{sorted_members}
use Rattle.page_tokens.specs.Encoded.{EncodesJson}
use Rattle.page_tokens.proofs.Again.{reads_again}
use Rattle.page_tokens.proofs.Objects.{object_sound, shallow}
use Rattle.page_tokens.proofs.token.write_token.Goals as goal

pub returns-clause-again : goal.returns-clause-again
returns-clause-again c none untagged low =
    let start = c.in_ok-start.start in
    let object = c.in_ok-object_of.ensures in
    let few : depth start ≤ 126 = subst (λ (j : Json). depth j ≤ 126) (sym c.in_ok-start.ensures.json) low in
    IfOk-weaker c.encoded.result _ _
    (λ text encodes.
    reads_again c.args.table.now c.args.selector.now c.requires.table none start c.in_ok-start.ensures.sound c.args.tree.now (c.in_ok-start.ensures.again untagged)
    (encode_utf8_all text) (subst (λ (o : Json). EncodesJson (encode_utf8_all text) (sorted_members o)) object encodes))
    (c.encoded.ensures.again (subst IsSound (sym object) (object_sound start c.in_ok-start.ensures.sound)) (subst (λ (o : Json). depth o ≤ 127) (sym object) (shallow start few)))
