use Rattle.api_endpoints.specs.Endpoints.{declarations_of}
use Rattle.api_exchanges.proofs.CallerLemmas.{handled_as_denoted, handled_or_refused}
use Rattle.api_descriptions.specs.Written.{document_at}
use Rattle.api_descriptions.proofs.Followed.{follows}
use Rattle.api_descriptions.proofs.Registered.{registered_serve}
use Rattle.api_descriptions.proofs.description.ApiDescription.agrees.Goals as goal

pub returns-clause-sound : goal.returns-clause-sound
returns-clause-sound g c = λ info version.
    c.accepted_are_listed.ensures.sound
    (declarations_of (λ e. goal.RouteHandler-dyn g (e.handler.vtable, e.handler.value)) c.args.self.now.endpoints.items)
    version c.args.self.now.tags.tags info c.requires.ready.registered

pub returns-clause-lists : goal.returns-clause-lists
returns-clause-lists g c = λ info version.
    c.accepted_are_listed.ensures.listed
    (declarations_of (λ e. goal.RouteHandler-dyn g (e.handler.vtable, e.handler.value)) c.args.self.now.endpoints.items)
    version c.args.self.now.tags.tags info c.requires.ready.registered

pub returns-clause-written : goal.returns-clause-written
returns-clause-written g c = λ info version.
    let ds = declarations_of (λ e. goal.RouteHandler-dyn g (e.handler.vtable, e.handler.value))
    c.args.self.now.endpoints.items in
    c.documents_list.ensures.written version ds c.args.self.now.tags.tags info
    (c.accepted_may_be_listed.ensures ds version c.requires.ready.registered)

pub returns-clause-agreed : goal.returns-clause-agreed
returns-clause-agreed g c = λ info version d listed.
    c.accepted_agree.ensures
    (declarations_of (λ e. goal.RouteHandler-dyn g (e.handler.vtable, e.handler.value)) c.args.self.now.endpoints.items)
    version c.args.self.now.tags.tags info c.requires.ready.registered d listed

pub returns-clause-followed : goal.returns-clause-followed
returns-clause-followed g c = λ info version asked outcome after answers.
    let ds = declarations_of (λ e. goal.RouteHandler-dyn g (e.handler.vtable, e.handler.value))
    c.args.self.now.endpoints.items in
    follows (λ e. goal.RouteHandler-dyn g (e.handler.vtable, e.handler.value)) c.args.self.now.endpoints.items
    (document_at (λ e. goal.RouteHandler-dyn g (e.handler.vtable, e.handler.value)) c.args.self.now.tags
    c.args.self.now.endpoints.items info version)
    version asked
    (λ d listed serves. c.one_serves.ensures ds version asked.call.request.info.method asked.call.request.template
    c.requires.ready.registered.accepted d listed.declared serves)
    (returns-clause-agreed g c info version) c.answers_have_causes.ensures
    (registered_serve (λ e. goal.RouteHandler-dyn g (e.handler.vtable, e.handler.value)) c.args.self.now.endpoints.items
    c.requires.ready.registered)
    outcome after answers

pub returns-clause-denoted : goal.returns-clause-denoted
returns-clause-denoted g c = λ asked outcome after answers e named valid whole.
    handled_as_denoted (λ e. goal.RouteHandler-dyn g (e.handler.vtable, e.handler.value)) c.args.self.now.endpoints.items
    asked c.answers_have_causes.ensures
    (registered_serve (λ e. goal.RouteHandler-dyn g (e.handler.vtable, e.handler.value)) c.args.self.now.endpoints.items
    c.requires.ready.registered)
    outcome after answers e named valid whole

pub returns-clause-told : goal.returns-clause-told
returns-clause-told g c = λ asked outcome after answers e named valid whole.
    handled_or_refused (λ e. goal.RouteHandler-dyn g (e.handler.vtable, e.handler.value)) c.args.self.now.endpoints.items
    asked outcome after answers e named valid whole
