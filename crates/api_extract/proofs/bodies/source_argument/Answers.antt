use Rattle.std.proofs.Common.{◌+◌}
use Rattle.std.proofs.lemmas.Result.{err_from_is_err_and}
use Rattle.body_reading.specs.Whole.{TakesAtMost}
use Rattle.api_extract.specs.Denotes.{terms}
use Rattle.api_extract.specs.Extraction.{slot_extracted, takes_stream}
use Rattle.api_extract.proofs.Contents.{ran_out_behind}
use Rattle.api_extract.proofs.bodies.source_argument.Goals as goal

pub returns-in_err-body-in-StreamBody-clause-came : goal.returns-in_err-body-in-StreamBody-clause-came
returns-in_err-body-in-StreamBody-clause-came g c =
    let old = g.S.FrameSource.state c.args.source.now in
    let new = g.S.FrameSource.state c.gather_frames.new.source in
    let reading = c.args.reading in
    let most : TakesAtMost (reading.budget + 1) old.left new.left = c.in_err-body-in-StreamBody.ensures.most in
    let p = err_from_is_err_and c.from_residual.result c.from_residual.ensures.1 in
    rw (p.1, p.2) (
    ran_out_behind reading.budget (takes_stream c.args.slot.now) old new
    (λ body. slot_extracted
    (terms c.args.table.now reading.content_type reading.limit reading.budget) c.args.request.now body
    c.args.slot.now) most)

pub returns-in_err-body-in-StreamBody-clause-asked : goal.returns-in_err-body-in-StreamBody-clause-asked
returns-in_err-body-in-StreamBody-clause-asked g c =
    let p = err_from_is_err_and c.from_residual.result c.from_residual.ensures.1 in
    rw (p.1, p.2) (λ e. absurd e)
