use Rattle.std.proofs.Common.{ap, ◌∙◌}
use Rattle.std.specs.Prelude.{option_and_then}
use Rattle.path_templates.specs.Segments.{wildcard_of}
use Rattle.api_registration.proofs.refusals.Candidate.told.Goals as goal

pub returns-in-InvalidTag-clause-told : goal.returns-in-InvalidTag-clause-told
returns-in-InvalidTag-clause-told g c = rw c.in-InvalidTag.is c.invalid_tag_told.ensures

pub returns-in-PathMismatch-clause-told : goal.returns-in-PathMismatch-clause-told
returns-in-PathMismatch-clause-told g c = rw c.in-PathMismatch.is c.mismatch_told.ensures

pub returns-in-NotScalar-clause-clear : goal.returns-in-NotScalar-clause-clear
returns-in-NotScalar-clause-clear g c =
    let wildcard = c.wildcard-wildcard.ensures ∙ ap (option_and_then wildcard_of) c.requires.template in
    rw c.in-NotScalar.is (rw (c.requires.parameters, wildcard) at c.not_scalar_told.ensures.clear)

pub returns-in-QueryAndPath-clause-told : goal.returns-in-QueryAndPath-clause-told
returns-in-QueryAndPath-clause-told g c = rw c.in-QueryAndPath.is (rw c.requires.parameters at c.tell_first-in-QueryAndPath.ensures.told)

pub returns-in-VisibleWildcard-clause-told : goal.returns-in-VisibleWildcard-clause-told
returns-in-VisibleWildcard-clause-told g c = rw c.in-VisibleWildcard.is c.visible_wildcard_told.ensures

pub returns-in-BadSuccessCode-clause-told : goal.returns-in-BadSuccessCode-clause-told
returns-in-BadSuccessCode-clause-told g c = rw c.in-BadSuccessCode.is c.bad_success_code_told.ensures

pub returns-in-PathClash-clause-told : goal.returns-in-PathClash-clause-told
returns-in-PathClash-clause-told g c = rw c.in-PathClash.is c.path_clash_told.ensures

pub returns-in-DefinitionClash-clause-told : goal.returns-in-DefinitionClash-clause-told
returns-in-DefinitionClash-clause-told g c = rw c.in-DefinitionClash.is c.definition_clash_told.ensures
