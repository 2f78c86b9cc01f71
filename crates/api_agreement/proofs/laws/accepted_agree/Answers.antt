use Rattle.std.proofs.Common.{[], IsTrue}
use Rattle.std.proofs.lemmas.List.Elements.{All-contains}
use Rattle.api_registration.specs.Accepted.{MayStandBehind}
use Rattle.api_registration.proofs.CallerLemmas.{each_accepted}
use Rattle.api_agreement.specs.ShownSlots.{HasShownSlots}
use Rattle.api_agreement.proofs.laws.accepted_agree.Goals as goal

pub returns : goal.returns
returns c = λ ds version configured info registered d is.
    let all =
    each_accepted MayStandBehind (λ e. IsTrue e.visible → HasShownSlots e)
    c.accepted_are_shown.ensures [] ds registered.accepted in
    let shown = All-contains (λ e. IsTrue e.visible → HasShownSlots e) ds d all is.declared is.visible in
    c.requests_agree.ensures version ds configured info
    (c.accepted_may_be_listed.ensures ds version registered) d is shown
