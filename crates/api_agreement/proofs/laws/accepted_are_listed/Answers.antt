use Rattle.api_agreement.proofs.laws.accepted_are_listed.Goals as goal

pub returns-clause-listed : goal.returns-clause-listed
returns-clause-listed c = λ ds version configured info registered.
    c.documents_list.ensures.lists version ds configured info
    (c.accepted_may_be_listed.ensures ds version registered)

pub returns-clause-sound : goal.returns-clause-sound
returns-clause-sound c = λ ds version configured info registered.
    c.documents_sound.ensures version ds configured info (c.accepted_may_be_listed.ensures ds version registered)
