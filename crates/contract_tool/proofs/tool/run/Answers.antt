use Rattle.std.proofs.Common.{◌∙◌, Err, ap, codes, inl, inr, refl, subst, sym}
use Rattle.line_session.specs.Session.{IsAnswered}
use Rattle.semver.specs.Identifiers.{parts_of}
use Rattle.command_line.specs.Serving.{outside}
use Rattle.command_line.specs.Words.{IsCommandOf}
use Rattle.command_line.proofs.CallerLemmas.{asked_once, command_is, no_usage, not_both}
use Rattle.contract_tool.specs.Ends.{DocumentEnds, SessionEnds}
use Rattle.contract_tool.specs.LineAnswers.{LineAnswers, service}
use Rattle.contract_tool.specs.Sessions.{preamble_of}
use Rattle.contract_tool.proofs.RunLemmas.{appended, documented_as, opened_as, service_as, written_whole}
use Rattle.contract_tool.proofs.tool.run.Goals as goal

-- ---- no command

pub returns-in-Err-Usage-clause-complete : goal.returns-in-Err-Usage-clause-complete
returns-in-Err-Usage-clause-complete g c version asked accepted all left status calls source sink =
    absurd (c.in-Err-Usage.ensures.usage.0 (ap Err c.in-Err-Usage.field-0-is) (version, inl asked))

pub returns-in-Err-Usage-clause-documented : goal.returns-in-Err-Usage-clause-documented
returns-in-Err-Usage-clause-documented g c version asked accepted sink =
    absurd (c.in-Err-Usage.ensures.usage.0 (ap Err c.in-Err-Usage.field-0-is) (version, inr asked))

-- ---- endpoints that are refused

pub returns-in-Err-Refused-clause-ended : goal.returns-in-Err-Refused-clause-ended
returns-in-Err-Refused-clause-ended g c =
    rw c.in-Err-Refused.field-0-is (inl (
      command_is c.args.words.now c.in-Ok.command c.in-Ok.ensures.command,
      c.in-Err-Refused.ensures.refused c.in-Err-Refused.error (ap Err c.in-Err-Refused.field-0-is),
      refl,
    ))

pub returns-in-Err-Refused-clause-complete : goal.returns-in-Err-Refused-clause-complete
returns-in-Err-Refused-clause-complete g c version asked accepted all left status calls source sink =
    absurd (cc (sym c.in-Err-Refused.field-0-is ∙ c.in-Err-Refused.ensures.complete accepted))

pub returns-in-Err-Refused-clause-documented : goal.returns-in-Err-Refused-clause-documented
returns-in-Err-Refused-clause-documented g c version asked accepted sink =
    absurd (cc (sym c.in-Err-Refused.field-0-is ∙ c.in-Err-Refused.ensures.complete accepted))

-- ---- a session

pub returns-in-Session-clause-session : goal.returns-in-Session-clause-session
returns-in-Session-clause-session g c is version asked all earlier left taken =
    let words = c.args.words.now in
    let config = c.args.config.now in
    let made = c.in-Ok-of_endpoints.ensures in
    let laws = c.agrees.ensures in
    let at = parts_of c.in-Session.version in
    let here = subst (IsCommandOf words) c.in-Session.is c.in-Ok.ensures.command in
    let once = (asked_once (codes "session") (codes "session") words at version here asked).0 in
    record {
      opened = opened_as (λ e. goal.RouteHandler-dyn g (e.handler.vtable, e.handler.value)) config version
          made.tags made.endpoints made.accepted laws.sound laws.lists laws.written laws.agreed
          laws.followed laws.denoted laws.told;
      answered = subst (λ s. IsAnswered
          (LineAnswers (λ e. goal.RouteHandler-dyn g (e.handler.vtable, e.handler.value)) s)
          (preamble_of (λ e. goal.RouteHandler-dyn g (e.handler.vtable, e.handler.value)) s) all earlier
          (g.S.Source.left c.run_session.new.source) (g.K.Sink.taken c.run_session.new.sink)
          c.args.store.now c.run_session.new.store) (service_as config made.tags made.endpoints once)
          (c.run_session.ensures.session is all earlier left taken);
    }

pub returns-in-Session-clause-document : goal.returns-in-Session-clause-document
returns-in-Session-clause-document g c is version asked earlier taken =
    absurd (not_both c.args.words.now (parts_of c.in-Session.version) version
    (subst (IsCommandOf c.args.words.now) c.in-Session.is c.in-Ok.ensures.command) asked)

pub returns-in-Session-clause-ended : goal.returns-in-Session-clause-ended
returns-in-Session-clause-ended g c =
    let config = c.args.config.now in
    let at = parts_of c.in-Session.version in
    let made = c.in-Ok-of_endpoints.ensures in
    let laws = c.agrees.ensures in
    inr (inl (record {
      version = at;
      asked = subst (IsCommandOf c.args.words.now) c.in-Session.is c.in-Ok.ensures.command;
      opened = opened_as (λ e. goal.RouteHandler-dyn g (e.handler.vtable, e.handler.value)) config at
          made.tags made.endpoints
          made.accepted laws.sound laws.lists laws.written laws.agreed laws.followed laws.denoted laws.told;
      ends = subst (λ s. SessionEnds (λ e. goal.RouteHandler-dyn g (e.handler.vtable, e.handler.value)) s
          g.S.Source g.K.Sink (outside c.args.source.now c.args.sink.now c.args.store.now)
          (outside c.run_session.new.source c.run_session.new.sink c.run_session.new.store) c.run_session.result)
          (service_as config made.tags made.endpoints refl) c.run_session.ensures.ends;
    }))

pub returns-in-Session-clause-usage : goal.returns-in-Session-clause-usage
returns-in-Session-clause-usage g c = (
  λ is. absurd (no_usage _ _ _ _ _ _ _ _ c.run_session.result c.run_session.ensures.ends is),
  λ none. absurd (none (
    parts_of c.in-Session.version,
    inl (subst (IsCommandOf c.args.words.now) c.in-Session.is c.in-Ok.ensures.command),
  )),
)

pub returns-in-Session-clause-unread : goal.returns-in-Session-clause-unread
returns-in-Session-clause-unread g c version asked =
    absurd (not_both c.args.words.now (parts_of c.in-Session.version) version
    (subst (IsCommandOf c.args.words.now) c.in-Session.is c.in-Ok.ensures.command) asked)

pub returns-in-Session-clause-refused : goal.returns-in-Session-clause-refused
returns-in-Session-clause-refused g c command none = absurd (none c.in-Ok-of_endpoints.ensures.accepted)

pub returns-in-Session-clause-documented : goal.returns-in-Session-clause-documented
returns-in-Session-clause-documented g c version asked accepted sink =
    absurd (not_both c.args.words.now (parts_of c.in-Session.version) version
    (subst (IsCommandOf c.args.words.now) c.in-Session.is c.in-Ok.ensures.command) asked)

-- ---- a document alone

pub returns-clause-document : goal.returns-clause-document
returns-clause-document g c is version asked earlier taken =
    let words = c.args.words.now in
    let config = c.args.config.now in
    let made = c.in-Ok-of_endpoints.ensures in
    let laws = c.agrees.ensures in
    let at = parts_of c.in-Document.version in
    let here = subst (IsCommandOf words) c.in-Document.is c.in-Ok.ensures.command in
    let once = (asked_once (codes "document") (codes "document") words at version here asked).0 in
    record {
      documented = documented_as (λ e. goal.RouteHandler-dyn g (e.handler.vtable, e.handler.value)) config version
          made.tags made.endpoints made.accepted laws.sound laws.lists laws.written laws.agreed;
      document = appended (g.K.Sink.taken c.write_document.new.sink) earlier
          (preamble_of (λ e. goal.RouteHandler-dyn g (e.handler.vtable, e.handler.value))
          (service config c.args.tags c.args.endpoints.items version)) (g.K.Sink.taken c.args.sink.now) taken
          (written_whole g.K.Sink c.args.sink.now c.write_document.new.sink _ c.write_document.result
          (subst (λ s. DocumentEnds g.K.Sink c.args.sink.now c.write_document.new.sink
          (preamble_of (λ e. goal.RouteHandler-dyn g (e.handler.vtable, e.handler.value)) s) c.write_document.result)
          (service_as config made.tags made.endpoints once) c.write_document.ensures.ends) is);
    }

pub returns-clause-ended : goal.returns-clause-ended
returns-clause-ended g c =
    let config = c.args.config.now in
    let at = parts_of c.in-Document.version in
    let made = c.in-Ok-of_endpoints.ensures in
    let laws = c.agrees.ensures in
    inr (inr (record {
      version = at;
      asked = subst (IsCommandOf c.args.words.now) c.in-Document.is c.in-Ok.ensures.command;
      documented = documented_as (λ e. goal.RouteHandler-dyn g (e.handler.vtable, e.handler.value)) config at made.tags
          made.endpoints made.accepted laws.sound laws.lists laws.written laws.agreed;
      ends = subst (λ s. DocumentEnds g.K.Sink c.args.sink.now c.write_document.new.sink
          (preamble_of (λ e. goal.RouteHandler-dyn g (e.handler.vtable, e.handler.value)) s) c.write_document.result)
          (service_as config made.tags made.endpoints refl) c.write_document.ensures.ends;
      unread = (refl, refl);
    }))
