use Rattle.std.proofs.Common.{◌≡◌, inr, [], Some, None, Bor, refl, sym, ap, subst, arith}
use Rattle.std.proofs.lemmas.Result.{IfOk-from_err, err_from_is_err_and}
use Rattle.std.specs.Prelude.{IsTrue, is_err}
use Rattle.std.specs.List.{list_any}
use Rattle.std.specs.declared.result.Result.TheVariants.{Ok, Err}
use Rattle.http_bodies.specs.Bodies.{frames_of, never_failing}
use Rattle.handler_shapes.specs.declared.slot.Slot.{Slot}
use Rattle.api_extract.specs.Answers.{IsGiven}
use Rattle.api_extract.specs.Denotes.{GivenArgs, args_by, terms}
use Rattle.api_extract.specs.Extraction.{plainly_told, takes_stream}
use Rattle.api_extract.proofs.Comes.{comes_denoted, comes_fit, comes_refused}
use Rattle.api_extract.proofs.GivenAnswers.{fault_of_reading}
use Rattle.api_extract.proofs.Joined.{IsAnsweredBehind, all_come, front_comes, front_early, front_not_reading}
use Rattle.api_extract.proofs.Joined.{front_read, given_early, given_in_front, told_in_front}
use Rattle.api_extract.proofs.Joined.{last_asked, last_comes, last_counts, last_early, last_fault, last_moved}
use Rattle.api_extract.proofs.Joined.{last_most, last_read, last_unasked, no_reader, no_stream}
use Rattle.api_extract.proofs.arguments.extract.Goals as goal

-- a slot before the body gives an error
pub returns-in_err-args : goal.returns-in_err-args
returns-in_err-args c =
    let table = c.args.table.now in
    let request = c.args.request.now in
    let slots = c.args.slots.now in
    let front = c.without_body.result.0.now in
    let result = c.from_residual.result in
    let p = err_from_is_err_and c.from_residual.result c.from_residual.ensures.1 in
    let is : result ≡ Err c.in_err-args.field-0.0 = rw (p.1, p.2) refl in
    let given : IsGiven result (args_by (plainly_told table request) front)
    = subst (λ (r : GivenArgs). IsGiven r (args_by (plainly_told table request) front))
    (sym is) c.in_err-args.ensures in
    let error = ap is_err is in
    let told = told_in_front
    (λ (slot : Bor Slot). slot.now) table request slots c.as_slice.result.now front c.without_body.result.1
    c.as_slice.ensures
    c.without_body.ensures.shared c.without_body.ensures.joined c.without_body.ensures.last result error given in
    let all = terms table c.args.content_type c.args.limit c.args.budget in
    let comes = front_comes table request slots result told c.args.content_type c.args.limit c.args.budget
    c.args.body.now in
    record {
      outcome = comes;
      denotes = comes_denoted all slots request c.args.body.now result comes;
      fits =
          comes_fit all slots request c.args.body.now result comes c.requires.served.definitions c.requires.served.each;
      refused = comes_refused all slots request c.args.body.now result comes;
      early = front_early table request slots result told;
      untouched = λ other e. refl;
      unasked = λ e. refl;
      most = inr (record { came = []; taken = refl; most = omega arith });
      moved =
          IfOk-from_err result (λ _. IsTrue (list_any takes_stream slots) → c.args.body.now ≡ never_failing []) error;
      asked = λ e. front_not_reading table request slots result told e;
      read = λ asks. front_read table request slots result told c.args.limit c.args.budget
          (Some (frames_of c.args.body.now)) (Some (frames_of c.args.body.now)) asks.shared;
      fault = λ e. front_not_reading table request slots result told (fault_of_reading result e);
      counts = λ h. inr refl;
      calls = omega arith;
      called = omega arith;
    }

-- the answer of the slot that takes the body is pushed behind the others
pub returns-in-Some : goal.returns-in-Some
returns-in-Some c =
    let table = c.args.table.now in
    let request = c.args.request.now in
    let slots = c.args.slots.now in
    let slot = c.in-Some.slot.now in
    let last = c.body_argument.result in
    let result = c.pushed.result in
    let behind : IsAnsweredBehind table request slots slot last result = record {
      args = c.in_ok-args.args;
      front =
          given_in_front
          (λ (slot : Bor Slot). slot.now) table request slots c.as_slice.result.now c.without_body.result.0.now
          c.without_body.result.1 c.as_slice.ensures
          c.without_body.ensures.shared c.without_body.ensures.joined c.without_body.ensures.last c.in_ok-args.args
          (Some c.in-Some.slot) c.in-Some.is c.in_ok-args.ensures;
      pushed = c.pushed.ensures;
    } in
    let all = terms table c.args.content_type c.args.limit c.args.budget in
    let comes = last_comes table request slots slot last result behind c.args.content_type c.args.limit c.args.budget
    c.args.body.now c.body_argument.ensures.outcome in
    record {
      outcome = comes;
      denotes = comes_denoted all slots request c.args.body.now result comes;
      fits =
          comes_fit all slots request c.args.body.now result comes c.requires.served.definitions c.requires.served.each;
      refused = comes_refused all slots request c.args.body.now result comes;
      early = λ other e. last_early table request slots slot last result behind other e;
      untouched = λ other e. last_early table request slots slot last result behind other e;
      unasked = λ e. last_unasked table request slots slot last result behind e;
      most = last_most table request slots slot last result behind c.body_argument.ensures.most;
      moved = last_moved table request slots slot last result behind c.body_argument.ensures.moved;
      asked = last_asked table request slots slot last result behind c.body_argument.ensures.asked;
      read = λ asks. last_read table request slots slot last result behind c.args.limit c.args.budget
          (Some (frames_of c.args.body.now)) (Some (frames_of c.body_argument.new.body))
          c.body_argument.ensures.read asks.reads;
      fault = last_fault table request slots slot last result behind c.body_argument.ensures.fault;
      counts = last_counts table request slots slot last result behind c.body_argument.ensures.counts;
      calls = c.body_argument.ensures.calls;
      called = c.body_argument.ensures.called;
    }

-- no slot takes the body
pub returns-in-None : goal.returns-in-None
returns-in-None c =
    let table = c.args.table.now in
    let request = c.args.request.now in
    let slots = c.args.slots.now in
    let args = c.in_ok-args.args in
    let front = given_in_front
    (λ (slot : Bor Slot). slot.now) table request slots c.as_slice.result.now c.without_body.result.0.now
    c.without_body.result.1 c.as_slice.ensures
    c.without_body.ensures.shared c.without_body.ensures.joined c.without_body.ensures.last args None c.in-None.is
    c.in_ok-args.ensures in
    let all = terms table c.args.content_type c.args.limit c.args.budget in
    let comes = all_come table request slots args front c.args.content_type c.args.limit c.args.budget c.args.body.now
    in
    record {
      outcome = comes;
      denotes = comes_denoted all slots request c.args.body.now (Ok args) comes;
      fits =
          comes_fit all slots request c.args.body.now
          (Ok args) comes c.requires.served.definitions c.requires.served.each;
      refused = comes_refused all slots request c.args.body.now (Ok args) comes;
      early = λ other e. given_early table request slots [] args front other e;
      untouched = λ other e. refl;
      unasked = λ e. refl;
      most = inr (record { came = []; taken = refl; most = omega arith });
      moved = λ streams. no_stream table request slots args front streams;
      asked = λ e. absurd e;
      read = λ asks. no_reader table request slots args front asks.reads;
      fault = λ e. absurd (cc e);
      counts = λ h. inr refl;
      calls = omega arith;
      called = omega arith;
    }
