use Rattle.std.proofs.Common.{Option, subst, sym}
use Rattle.std.specs.declared.result.Result.TheVariants.{Err}
use Rattle.schema_values.specs.declared.json_value.Json.{Json}
use Rattle.typed_values.specs.Denotes.{told}
use Rattle.api_extract.specs.Answers.{IsTold}
use Rattle.api_extract.specs.TypedBodies.{read_told}
use Rattle.api_extract.proofs.ReadValues.{read_value, unread}
use Rattle.api_extract.proofs.Told.{told_by}
use Rattle.api_extract.proofs.typed_body.decode_content.Goals as goal

pub returns-in-Ok : goal.returns-in-Ok
returns-in-Ok c =
    let table = c.args.table.now in
    let desc = c.args.desc.now in
    let json = c.in-Ok.json in
    subst (λ (o : Option Json). IsTold c.decode_json.result (read_told table desc o))
    (sym (read_value c.args.content.now json c.in-Ok.ensures.ok))
    (told_by (told table desc json desc) c.decode_json.result c.decode_json.ensures.denotes c.decode_json.ensures.fault)

pub returns-in-Err-Unreadable : goal.returns-in-Err-Unreadable
returns-in-Err-Unreadable c =
    let none = c.in-Err-Unreadable.ensures.unreadable c.in-Err-Unreadable.field-0-is in
    subst (λ (o : Option Json). IsTold (Err c.whole_fault.result) (read_told c.args.table.now c.args.desc.now o))
    (sym (unread c.args.content.now none)) c.whole_fault.ensures
