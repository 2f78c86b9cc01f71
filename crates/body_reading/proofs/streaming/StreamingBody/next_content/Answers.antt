use Rattle.std.proofs.Common.{◌≡◌, ◌+◌, ◌-◌, ◌≤◌, [], ◌∷◌, Some, ap, arith, length, refl, rules, subst, sym}
use Rattle.std.specs.Prelude.{IfOk, IfSome}
use Rattle.http_bodies.specs.Bodies.{calls_of, frames_of}
use Rattle.http_bodies.specs.declared.frame.Frame.TheVariants.{Bytes, Trailers}
use Rattle.body_reading.specs.Streams.{Advances, StreamState, room_of}
use Rattle.body_reading.specs.Whole.{TakesAtMost}
use Rattle.body_reading.proofs.Passing.{IsPaired, Passes, TakesFirst, judged_advances, judged_called, judged_each, judged_taken}
use Rattle.body_reading.proofs.Passing.{judged_paired, paired_more, passes_called, passes_more, passes_none, passes_taken}
use Rattle.body_reading.proofs.streaming.StreamingBody.next_content.Goals as goal
use Rattle.body_reading.proofs.streaming.StreamingBody.next_content.Goals.{After-judge}

pub passing-init : goal.passing-init
passing-init c = passes_none c.args.self.now

-- a frame with content came, and was judged: what this says of a content that is given, what was taken, and how often
-- the body was called
content_came : (c : After-judge) → IfOk c.judge.result (λ next. Advances c.args.self.now c.judge.new.self)
    × TakesAtMost (room_of c.args.self.now + 1 - room_of c.judge.new.self)
    (Some (frames_of c.args.self.now.body)) (Some (frames_of c.judge.new.self.body))
    × (calls_of c.judge.new.self.body
    ≤ calls_of c.args.self.now.body + (room_of c.args.self.now + 1 - room_of c.judge.new.self))
    × IfOk c.judge.result (λ next. IfSome next (λ _. calls_of c.judge.new.self.body
    ≤ calls_of c.args.self.now.body + (c.judge.new.self.frames - c.args.self.now.frames)))
    × IsPaired c.args.self.now.body c.judge.new.self.body
content_came c =
    let gives = rw (c.in-Ok-Some-Bytes.field-0-is, c.in-Ok-Some-Bytes.field-0-0-is) at c.in-Ok-Some-Bytes.ensures.gives in
    let faults = c.in-Ok-Some-Bytes.ensures.counts (λ failed. search rules) in
    let now : StreamState = record {
      body = c.self.inside.body;
      cap = c.self.inside.cap;
      budget = c.self.inside.budget;
      sum = c.self.inside.sum;
      frames = c.self.inside.frames;
      closed = c.self.inside.closed;
    } in
    let mid : StreamState = record now { body = c.next_frame.new.self } in
    let passes = subst (λ (s : StreamState). Passes c.args.self.now s) (sym c.self.view_is) c.passing.invariant in
    let took : TakesFirst now mid (Bytes c.in-Ok-Some-Bytes.content) = record {
      gives = gives;
      limits = record { cap = refl; budget = refl };
      sum = refl;
      closed = refl;
      faults = faults;
      same = c.next_frame.ensures.goes_on.same;
      once = c.next_frame.ensures.once;
    } in (
      judged_advances c.args.self.now now mid c.judge.new.self c.in-Ok-Some-Bytes.content c.judge.result passes took
          refl c.judge.ensures.counted,
      judged_taken c.args.self.now now mid c.judge.new.self c.in-Ok-Some-Bytes.content c.judge.result passes took
          refl c.judge.ensures.counted c.judge.ensures.kept,
      judged_called c.args.self.now now mid c.judge.new.self c.in-Ok-Some-Bytes.content c.judge.result passes took
          refl c.judge.ensures.counted c.judge.ensures.kept,
      judged_each c.args.self.now now mid c.judge.new.self c.in-Ok-Some-Bytes.content c.judge.result passes took
          refl c.judge.ensures.counted c.judge.ensures.within,
      judged_paired c.args.self.now now mid c.judge.new.self c.in-Ok-Some-Bytes.content c.judge.result passes took
          c.judge.ensures.counted c.judge.ensures.kept,
    )

pub returns-in-Ok-Some-Bytes-clause-advances : goal.returns-in-Ok-Some-Bytes-clause-advances
returns-in-Ok-Some-Bytes-clause-advances c =
    (content_came (goal.at.returns-in-Ok-Some-Bytes-clause-advances c).After-judge).0

pub returns-in-Ok-Some-Bytes-clause-taken : goal.returns-in-Ok-Some-Bytes-clause-taken
returns-in-Ok-Some-Bytes-clause-taken c =
    (content_came (goal.at.returns-in-Ok-Some-Bytes-clause-taken c).After-judge).1

pub returns-in-Ok-Some-Bytes-clause-calls : goal.returns-in-Ok-Some-Bytes-clause-calls
returns-in-Ok-Some-Bytes-clause-calls c =
    (content_came (goal.at.returns-in-Ok-Some-Bytes-clause-calls c).After-judge).2

pub returns-in-Ok-Some-Bytes-clause-each : goal.returns-in-Ok-Some-Bytes-clause-each
returns-in-Ok-Some-Bytes-clause-each c =
    (content_came (goal.at.returns-in-Ok-Some-Bytes-clause-each c).After-judge).3

pub returns-in-Ok-Some-Bytes-clause-called : goal.returns-in-Ok-Some-Bytes-clause-called
returns-in-Ok-Some-Bytes-clause-called c =
    let paired = (content_came (goal.at.returns-in-Ok-Some-Bytes-clause-called c).After-judge).4 in omega arith

pub returns-in-Ok-Some-Bytes-clause-paired : goal.returns-in-Ok-Some-Bytes-clause-paired
returns-in-Ok-Some-Bytes-clause-paired c over =
    (content_came (goal.at.returns-in-Ok-Some-Bytes-clause-paired c).After-judge).4

pub returns-then-self-clause-taken : goal.returns-then-self-clause-taken
returns-then-self-clause-taken c =
    let gives = rw (c.in-Ok-Some-Trailers.field-0-is, c.in-Ok-Some-Trailers.field-0-0-is) at c.in-Ok-Some-Trailers.ensures.gives in
    let now : StreamState = record {
      body = c.self.inside.body;
      cap = c.self.inside.cap;
      budget = c.self.inside.budget;
      sum = c.self.inside.sum;
      frames = c.self.inside.frames;
      closed = c.self.inside.closed;
    } in
    let mid : StreamState = record now { body = c.next_frame.new.self } in
    let passes = subst (λ (s : StreamState). Passes c.args.self.now s) (sym c.self.view_is) c.passing.invariant in
    passes_taken c.args.self.now now mid (Trailers c.in-Ok-Some-Trailers.field-0-0-0 ∷ []) passes gives (omega arith) refl
    (omega arith)

pub returns-then-self-clause-calls : goal.returns-then-self-clause-calls
returns-then-self-clause-calls c =
    let now : StreamState = record {
      body = c.self.inside.body;
      cap = c.self.inside.cap;
      budget = c.self.inside.budget;
      sum = c.self.inside.sum;
      frames = c.self.inside.frames;
      closed = c.self.inside.closed;
    } in
    let mid : StreamState = record now { body = c.next_frame.new.self } in
    let passes = subst (λ (s : StreamState). Passes c.args.self.now s) (sym c.self.view_is) c.passing.invariant in
    passes_called c.args.self.now now mid passes c.next_frame.ensures.once refl refl

pub passing-preserved-else-self : goal.passing-preserved-else-self
passing-preserved-else-self c =
    let gives = rw (c.in-Ok-Some-Trailers.field-0-is, c.in-Ok-Some-Trailers.field-0-0-is) at c.in-Ok-Some-Trailers.ensures.gives in
    let faults = c.in-Ok-Some-Trailers.ensures.counts (λ failed. search rules) in
    let now : StreamState = record {
      body = c.self.inside.body;
      cap = c.self.inside.cap;
      budget = c.self.inside.budget;
      sum = c.self.inside.sum;
      frames = c.self.inside.frames;
      closed = c.self.inside.closed;
    } in
    let after : StreamState = record now { body = c.next_frame.new.self; frames = c.self.inside.frames + 1 } in
    let passes = subst (λ (s : StreamState). Passes c.args.self.now s) (sym c.self.view_is) c.passing.invariant in
    passes_more c.args.self.now now after c.in-Ok-Some-Trailers.field-0-0-0 passes
    (record {
      gives = gives;
      limits = record { cap = refl; budget = refl };
      sum = refl;
      closed = refl;
      faults = faults;
      same = c.next_frame.ensures.goes_on.same;
      once = c.next_frame.ensures.once;
    })
    (omega arith) refl

pub returns-then-self-clause-paired : goal.returns-then-self-clause-paired
returns-then-self-clause-paired c over =
    let gives = rw (c.in-Ok-Some-Trailers.field-0-is, c.in-Ok-Some-Trailers.field-0-0-is) at c.in-Ok-Some-Trailers.ensures.gives in
    let now : StreamState = record {
      body = c.self.inside.body;
      cap = c.self.inside.cap;
      budget = c.self.inside.budget;
      sum = c.self.inside.sum;
      frames = c.self.inside.frames;
      closed = c.self.inside.closed;
    } in
    let passes = subst (λ (s : StreamState). Passes c.args.self.now s) (sym c.self.view_is) c.passing.invariant in
    paired_more c.args.self.now.body now.body c.next_frame.new.self (Trailers c.in-Ok-Some-Trailers.field-0-0-0) passes.paired
    gives c.next_frame.ensures.once

pub returns-then-self-clause-called : goal.returns-then-self-clause-called
returns-then-self-clause-called c =
    let gives = rw (c.in-Ok-Some-Trailers.field-0-is, c.in-Ok-Some-Trailers.field-0-0-is) at c.in-Ok-Some-Trailers.ensures.gives in
    let now : StreamState = record {
      body = c.self.inside.body;
      cap = c.self.inside.cap;
      budget = c.self.inside.budget;
      sum = c.self.inside.sum;
      frames = c.self.inside.frames;
      closed = c.self.inside.closed;
    } in
    let passes = subst (λ (s : StreamState). Passes c.args.self.now s) (sym c.self.view_is) c.passing.invariant in
    let paired = paired_more c.args.self.now.body now.body c.next_frame.new.self (Trailers c.in-Ok-Some-Trailers.field-0-0-0)
    passes.paired gives c.next_frame.ensures.once in
    omega arith

pub returns-in-Ok-None-clause-called : goal.returns-in-Ok-None-clause-called
returns-in-Ok-None-clause-called c =
    let gives = rw c.in-Ok-None.field-0-is at c.in-Ok-None.ensures.gives in
    let same : frames_of c.next_frame.new.self ≡ frames_of c.self.inside.body = cc gives.1 in
    let size = ap length same in
    let now : StreamState = record {
      body = c.self.inside.body;
      cap = c.self.inside.cap;
      budget = c.self.inside.budget;
      sum = c.self.inside.sum;
      frames = c.self.inside.frames;
      closed = c.self.inside.closed;
    } in
    let passes = subst (λ (s : StreamState). Passes c.args.self.now s) (sym c.self.view_is) c.passing.invariant in
    let paired = passes.paired in
    let once = c.next_frame.ensures.once in
    omega arith

pub returns-in-Err-clause-called : goal.returns-in-Err-clause-called
returns-in-Err-clause-called c =
    let size = ap length c.in-Err.ensures.kept in
    let now : StreamState = record {
      body = c.self.inside.body;
      cap = c.self.inside.cap;
      budget = c.self.inside.budget;
      sum = c.self.inside.sum;
      frames = c.self.inside.frames;
      closed = c.self.inside.closed;
    } in
    let passes = subst (λ (s : StreamState). Passes c.args.self.now s) (sym c.self.view_is) c.passing.invariant in
    let paired = passes.paired in
    let once = c.next_frame.ensures.once in
    omega arith
