use Rattle.std.proofs.Common.{◌++◌, ◌∙◌, ap, chars}
use Rattle.std.proofs.lemmas.Result.{on_err_weaker}
use Rattle.schema_values.specs.Print.{quoted}
use Rattle.schema_values.proofs.Begun.{begins_behind}
use Rattle.schema_values.proofs.MemberLemmas.{value_written}
use Rattle.schema_values.proofs.Results.{OnOk-map}
use Rattle.schema_values.proofs.member_text.write_text_member.Goals as goal

pub returns-clause-ok : goal.returns-clause-ok
returns-clause-ok c =
    let value = quoted (chars c.args.value.now) in
    OnOk-map c.write_quoted_str.result _ _ (λ is.
    is ∙ ap (λ out. out ++ value) c.in_ok-write_name.ensures.ok ∙ value_written c.args.out.now c.args.index c.args.name.now value)
    c.write_quoted_str.ensures.ok

pub returns-clause-err : goal.returns-clause-err
returns-clause-err c =
    on_err_weaker c.write_quoted_str.result (begins_behind c.args.out.now _ c.write_name.new.out c.write_quoted_str.new.out c.in_ok-write_name.ensures.ok)
    c.write_quoted_str.ensures.err
