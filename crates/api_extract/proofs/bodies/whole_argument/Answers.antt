use Rattle.std.proofs.Common.{[]}
use Rattle.std.proofs.lemmas.Result.{err_from_is_err_and}
use Rattle.std.specs.declared.result.Result.TheVariants.{Ok, Err}
use Rattle.http_bodies.specs.Bodies.{never_failing}
use Rattle.request_parts.specs.Wire.{wire_of}
use Rattle.api_extract.specs.Denotes.{slot_told, terms}
use Rattle.api_extract.specs.ReadingErrors.{reading_error}
use Rattle.api_extract.proofs.Contents.{content_read, content_told, error_read, error_told, read_came}
use Rattle.api_extract.proofs.GivenAnswers.{fault_of_reading, given_not_reading}
use Rattle.api_extract.proofs.NoFaults.{slot_not_reading}
use Rattle.api_extract.proofs.bodies.whole_argument.Goals as goal

pub returns-in_err-content-clause-came : goal.returns-in_err-content-clause-came
returns-in_err-content-clause-came g c =
    let request = c.args.request.now in
    let reading = c.args.reading in
    let slot = c.args.slot.now in
    let error = c.in_err-content.field-0.0 in
    let p = err_from_is_err_and c.from_residual.result c.from_residual.ensures.1 in
    rw (p.1, p.2) (
    read_came c.args.table.now reading.content_type reading.limit reading.budget request
    (g.S.FrameSource.state c.args.source.now) (g.S.FrameSource.state c.read_whole.new.source)
    slot (Err error) (Err (reading_error error)) c.in_err-content.ensures.came
    (λ exact body reads. error_read
    (terms c.args.table.now reading.content_type reading.limit reading.budget) request body slot c.requires.reads
    error exact reads))

pub returns-clause-came : goal.returns-clause-came
returns-clause-came g c =
    let request = c.args.request.now in
    let reading = c.args.reading in
    let slot = c.args.slot.now in
    let result = c.content_argument.result in
    read_came c.args.table.now reading.content_type reading.limit reading.budget request
    (g.S.FrameSource.state c.args.source.now) (g.S.FrameSource.state c.read_whole.new.source)
    slot (Ok c.in_ok-content.content) result c.in_ok-content.ensures.came
    (λ exact body reads.
    content_read
    (terms c.args.table.now reading.content_type reading.limit reading.budget) request body slot
    c.requires.reads c.in_ok-content.content exact result reads
    (c.content_argument.ensures reading.limit reading.budget body))

pub returns-clause-fault : goal.returns-clause-fault
returns-clause-fault g c =
    let given = terms c.args.table.now c.args.reading.content_type 0 0 in
    let wire = wire_of c.args.request.now c.in_ok-content.content in
    λ e. absurd
    (given_not_reading c.content_argument.result (slot_told given wire (never_failing []) c.args.slot.now)
    (c.content_argument.ensures 0 0 (never_failing []))
    (slot_not_reading given wire (never_failing []) c.args.slot.now)
    (fault_of_reading c.content_argument.result e))

pub returns-in_err-content-clause-read : goal.returns-in_err-content-clause-read
returns-in_err-content-clause-read g c =
    let old = g.S.FrameSource.state c.args.source.now in
    let new = g.S.FrameSource.state c.read_whole.new.source in
    let reading = c.args.reading in
    let p = err_from_is_err_and c.from_residual.result c.from_residual.ensures.1 in
    rw (p.1, p.2) (
    error_told reading.limit reading.budget old.left new.left c.in_err-content.field-0.0 c.in_err-content.ensures.came)

pub returns-clause-read : goal.returns-clause-read
returns-clause-read g c =
    let old = g.S.FrameSource.state c.args.source.now in
    let new = g.S.FrameSource.state c.read_whole.new.source in
    let reading = c.args.reading in
    let given = terms c.args.table.now reading.content_type 0 0 in
    let wire = wire_of c.args.request.now c.in_ok-content.content in
    content_told reading.limit reading.budget old.left new.left c.in_ok-content.content c.content_argument.result
    (slot_told given wire (never_failing []) c.args.slot.now) (c.content_argument.ensures 0 0 (never_failing []))
    (slot_not_reading given wire (never_failing []) c.args.slot.now) c.in_ok-content.ensures.came
