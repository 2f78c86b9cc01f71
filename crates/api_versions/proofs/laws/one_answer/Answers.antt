use Rattle.header_lists.specs.HeaderLists.{first_of}
use Rattle.api_versions.proofs.HeaderAnswers.{no_fault, one_error, one_version, some_told}
use Rattle.api_versions.proofs.laws.one_answer.Goals as goal

pub returns-clause-answered : goal.returns-clause-answered
returns-clause-answered c = λ policy lines. some_told policy (first_of policy.name lines)

pub returns-clause-apart : goal.returns-clause-apart
returns-clause-apart c = λ policy lines version error given answer.
    no_fault policy (first_of policy.name lines) version answer.fault given answer.stands

pub returns-clause-one_version : goal.returns-clause-one_version
returns-clause-one_version c = λ policy lines. one_version policy (first_of policy.name lines)

pub returns-clause-one_error : goal.returns-clause-one_error
returns-clause-one_error c = λ policy lines. one_error policy (first_of policy.name lines)
