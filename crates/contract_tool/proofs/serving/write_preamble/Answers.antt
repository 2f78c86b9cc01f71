use Rattle.std.proofs.Common.{List, ℕ, ap, subst}
use Rattle.std.specs.Prelude.{OnErr, OnOk}
use Rattle.std.specs.Io.KnownBytes.{Appends}
use Rattle.std.proofs.lemmas.Result.{err_from_is_err_and}
use Rattle.line_session.specs.Parts.{AppendsPart}
use Rattle.semver.specs.Identifiers.{parts_of}
use Rattle.api_descriptions.specs.Written.{WritesBy}
use Rattle.contract_tool.proofs.RunLemmas.{part_none, took_none, written_at}
use Rattle.contract_tool.proofs.serving.write_preamble.Goals as goal

pub write-requires : goal.write-requires
write-requires g c = record { ready = rw c.in_ok-definition.ensures.api c.requires }

pub returns-in_err-version-clause-part : goal.returns-in_err-version-clause-part
returns-in_err-version-clause-part g c =
    let made = err_from_is_err_and c.from_residual.result c.from_residual.ensures.1 in
    rw made.1 (part_none (g.K.Sink.taken c.args.sink.now) _)

pub returns-in_err-version-clause-calls : goal.returns-in_err-version-clause-calls
returns-in_err-version-clause-calls g c =
    let made = err_from_is_err_and c.from_residual.result c.from_residual.ensures.1 in
    rw (made.1, made.2) (took_none g.K.Sink c.args.sink.now _)

pub returns-in_err-definition-clause-part : goal.returns-in_err-definition-clause-part
returns-in_err-definition-clause-part g c =
    let residual = c.from_residual-in_err-definition in
    let made = err_from_is_err_and residual.result residual.ensures.1 in
    rw made.1 (part_none (g.K.Sink.taken c.args.sink.now) _)

pub returns-in_err-definition-clause-calls : goal.returns-in_err-definition-clause-calls
returns-in_err-definition-clause-calls g c =
    let residual = c.from_residual-in_err-definition in
    let made = err_from_is_err_and residual.result residual.ensures.1 in
    rw (made.1, made.2) (took_none g.K.Sink c.args.sink.now _)

pub returns-clause-ok : goal.returns-clause-ok
returns-clause-ok g c =
    subst (λ (bytes : List ℕ). OnOk c.write.result
    (Appends (g.K.Sink.taken c.args.sink.now) (g.K.Sink.taken c.write.new.sink) bytes))
    (written_at (λ e. goal.RouteHandler-dyn g (e.handler.vtable, e.handler.value)) c.args.config.now _ _ _ _ _
    c.in_ok-definition.ensures.api c.in_ok-definition.ensures.info c.as_str.ensures
    (ap parts_of c.in_ok-definition.ensures.version) c.in_ok-version.ensures) c.write.ensures.ok

pub returns-clause-part : goal.returns-clause-part
returns-clause-part g c =
    subst (λ (bytes : List ℕ). OnErr c.write.result
    (AppendsPart (g.K.Sink.taken c.args.sink.now) (g.K.Sink.taken c.write.new.sink) bytes))
    (written_at (λ e. goal.RouteHandler-dyn g (e.handler.vtable, e.handler.value)) c.args.config.now _ _ _ _ _
    c.in_ok-definition.ensures.api c.in_ok-definition.ensures.info c.as_str.ensures
    (ap parts_of c.in_ok-definition.ensures.version) c.in_ok-version.ensures) c.write.ensures.part

pub returns-clause-calls : goal.returns-clause-calls
returns-clause-calls g c =
    subst (λ (bytes : List ℕ). WritesBy g.K.Sink bytes c.args.sink.now c.write.new.sink c.write.result)
    (written_at (λ e. goal.RouteHandler-dyn g (e.handler.vtable, e.handler.value)) c.args.config.now _ _ _ _ _
    c.in_ok-definition.ensures.api c.in_ok-definition.ensures.info c.as_str.ensures
    (ap parts_of c.in_ok-definition.ensures.version) c.in_ok-version.ensures) c.write.ensures.calls
