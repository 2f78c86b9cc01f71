use Rattle.std.proofs.Common.{◌∙◌, List, ℕ, ap, subst}
use Rattle.std.specs.Str.{encode_utf8_all}
use Rattle.line_session.specs.Calls.{TookPart}
use Rattle.line_session.specs.declared.ends.SinkError.TheVariants.{Failed, OutOfMemory}
use Rattle.api_descriptions.proofs.definition.OpenApiDefinition.write.Goals as goal

pub returns-in-Err-Failed-clause-calls : goal.returns-in-Err-Failed-clause-calls
returns-in-Err-Failed-clause-calls g c =
    let took = rw c.in-Err-Failed.field-0-is at c.in-Err-Failed.ensures.calls in
    subst (λ (bytes : List ℕ). TookPart g.K.Sink c.args.sink.now bytes Failed c.write_all.new.sink)
    (c.as_bytes.ensures ∙ ap encode_utf8_all c.in_ok-text.ensures) took

pub returns-clause-calls : goal.returns-clause-calls
returns-clause-calls g c =
    let took = rw c.in-Err-OutOfMemory.field-0-is at c.in-Err-OutOfMemory.ensures.calls in
    subst (λ (bytes : List ℕ). TookPart g.K.Sink c.args.sink.now bytes OutOfMemory c.write_all.new.sink)
    (c.as_bytes.ensures ∙ ap encode_utf8_all c.in_ok-text.ensures) took
