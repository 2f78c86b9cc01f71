use Rattle.std.proofs.Common.{◌≡◌}
use Rattle.std.proofs.lemmas.Result.{IfOk-weaker, err_from_is_err_and}
use Rattle.request_lines.specs.declared.line_error.LineError.TheVariants.{Bad}
use Rattle.request_lines.proofs.LineMeanings.{has_members, says_members}
use Rattle.request_lines.proofs.request_line.read_line.Goals as goal

pub request_in-requires : goal.request_in-requires
request_in-requires c = c.in_ok-json.ensures.sound

pub returns-in_err-json-clause-bad : goal.returns-in_err-json-clause-bad
returns-in_err-json-clause-bad c bad version request frames asks =
    let made = err_from_is_err_and c.from_residual.result c.from_residual.ensures.1 in
    c.in_err-json.ensures.unreadable (made.2.0 (cc (made.1, bad))) asks.has_members.json asks.has_members.reads

pub returns-in_err-json-clause-no_text : goal.returns-in_err-json-clause-no_text
returns-in_err-json-clause-no_text c none =
    let made = err_from_is_err_and c.from_residual.result c.from_residual.ensures.1 in
    let is : made.0 ≡ Bad = made.2.1 (cc (c.in_err-json.ensures.no_text none)) in
    cc (made.1, is)

pub returns-clause-no_text : goal.returns-clause-no_text
returns-clause-no_text c none = absurd (cc (c.in_ok-json.ensures.no_text none))

pub returns-clause-asks : goal.returns-clause-asks
returns-clause-asks c =
    IfOk-weaker c.request_in.result _ _
    (λ asked made. record {
      members = made.0;
      has_members = has_members c.args.line.now c.in_ok-json.json made.0 c.in_ok-json.ensures.ok made.1;
      are_made = made.2;
    })
    c.request_in.ensures.made

pub returns-clause-bad : goal.returns-clause-bad
returns-clause-bad c bad version request frames asks =
    c.request_in.ensures.bad bad asks.members
    (says_members c.args.line.now c.in_ok-json.json asks.members c.in_ok-json.ensures.ok asks.has_members)
    version request frames asks.are_made
