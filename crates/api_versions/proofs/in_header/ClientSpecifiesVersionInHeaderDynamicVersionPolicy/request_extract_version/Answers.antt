use Rattle.std.specs.Prelude.{None, Some}
use Rattle.api_versions.proofs.HeaderAnswers.{given_by, told_by}
use Rattle.api_versions.proofs.in_header.ClientSpecifiesVersionInHeaderDynamicVersionPolicy.request_extract_version.Goals as goal

pub returns-in-Some-clause-given : goal.returns-in-Some-clause-given
returns-in-Some-clause-given c =
    let told = c.version_in in
    rw (← c.in-Some.ensures)
    (given_by c.args.self.now (Some c.in-Some.value.now) told.result told.ensures.version told.ensures.refused)

pub returns-in-Some-clause-told : goal.returns-in-Some-clause-told
returns-in-Some-clause-told c =
    let told = c.version_in in
    rw (← c.in-Some.ensures)
    (told_by c.args.self.now (Some c.in-Some.value.now) told.result told.ensures.version told.ensures.refused)

pub returns-in-None-clause-given : goal.returns-in-None-clause-given
returns-in-None-clause-given c =
    let told = c.version_without in
    rw (← c.in-None.ensures)
    (given_by c.args.self.now None told.result told.ensures.version told.ensures.refused)

pub returns-in-None-clause-told : goal.returns-in-None-clause-told
returns-in-None-clause-told c =
    let told = c.version_without in
    rw (← c.in-None.ensures)
    (told_by c.args.self.now None told.result told.ensures.version told.ensures.refused)
