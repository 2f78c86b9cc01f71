use Rattle.std.proofs.Common.{[], ◌∷◌, ◌++◌, ◌∙◌, ap, chars}
use Rattle.schema_values.specs.Print.{comma_before, quoted}
use Rattle.schema_values.proofs.Begun.{begins_behind}
use Rattle.schema_values.proofs.MemberLemmas.{name_written}
use Rattle.schema_values.proofs.Results.{OnOk-map, on_err}
use Rattle.schema_values.proofs.TextLemmas.{chars-all_ascii}
use Rattle.schema_values.proofs.member_text.write_name.Goals as goal

pub returns-clause-ok : goal.returns-clause-ok
returns-clause-ok c =
    let start = c.args.out.now in
    let name = c.args.name.now in
    OnOk-map c.push.result _ _ (λ is.
    is ∙ ap (λ out. out ++ 58 ∷ []) (c.in_ok-write_quoted_str.ensures.ok ∙ ap (λ out. out ++ quoted (chars name)) c.in_ok-write_comma.ensures.ok)
    ∙ name_written start (comma_before c.args.index) (quoted (chars name)) (58 ∷ [])
    ∙ ap (λ text. start ++ (comma_before c.args.index ++ (quoted text ++ 58 ∷ []))) (chars-all_ascii name c.requires))
    c.push.ensures.ok

pub returns-in_err-write_quoted_str-clause-err : goal.returns-in_err-write_quoted_str-clause-err
returns-in_err-write_quoted_str-clause-err c =
    on_err c.from_residual-in_err-write_quoted_str.result _ (λ _.
    begins_behind c.args.out.now _ c.write_comma.new.out c.write_quoted_str.new.out c.in_ok-write_comma.ensures.ok c.in_err-write_quoted_str.ensures.err)
