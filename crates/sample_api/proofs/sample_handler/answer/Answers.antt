use Rattle.sample_api.specs.Handlers.{CountsFolders, Probes, TellsSize, TellsTrue}
use Rattle.sample_api.proofs.Answered.{at_store}
use Rattle.sample_api.proofs.sample_handler.answer.Goals as goal

pub returns-in-PointCreate-clause-allowed : goal.returns-in-PointCreate-clause-allowed
returns-in-PointCreate-clause-allowed c = rw c.in-PointCreate.is c.answer.ensures.creates

pub returns-in-PointProbe-clause-allowed : goal.returns-in-PointProbe-clause-allowed
returns-in-PointProbe-clause-allowed c =
    let reply = c.answer-in-PointProbe.result in
    rw c.in-PointProbe.is
    (at_store Probes c.args.args.now reply c.answer-in-PointProbe.ensures.probes c.args.store.now)

pub returns-in-PointDrop-clause-allowed : goal.returns-in-PointDrop-clause-allowed
returns-in-PointDrop-clause-allowed c = rw c.in-PointDrop.is c.answer-in-PointDrop.ensures.drops

pub returns-in-RawSize-clause-allowed : goal.returns-in-RawSize-clause-allowed
returns-in-RawSize-clause-allowed c =
    let reply = c.answer-in-RawSize.result in
    rw c.in-RawSize.is
    (at_store TellsSize c.args.args.now reply c.answer-in-RawSize.ensures.tells c.args.store.now)

pub returns-in-FolderCount-clause-allowed : goal.returns-in-FolderCount-clause-allowed
returns-in-FolderCount-clause-allowed c =
    let reply = c.answer-in-FolderCount.result in
    rw c.in-FolderCount.is
    (at_store CountsFolders c.args.args.now reply c.answer-in-FolderCount.ensures.counts c.args.store.now)

pub returns-in-Inner-clause-allowed : goal.returns-in-Inner-clause-allowed
returns-in-Inner-clause-allowed c =
    let reply = c.answer-in-Inner.result in
    rw c.in-Inner.is
    (at_store TellsTrue c.args.args.now reply c.answer-in-Inner.ensures.tells c.args.store.now)
