use Rattle.schema_values.proofs.Begun.{begins_behind}
use Rattle.schema_values.proofs.Results.{on_err}
use Rattle.schema_values.proofs.quoting.write_quoted_str.Goals as goal

pub returns-in_err-write_characters-clause-err : goal.returns-in_err-write_characters-clause-err
returns-in_err-write_characters-clause-err c =
    on_err c.from_residual-in_err-write_characters.result _ (λ _.
    begins_behind c.args.out.now _ c.push.new.self c.write_characters.new.out c.in_ok-push.ensures.ok c.in_err-write_characters.ensures.err)
