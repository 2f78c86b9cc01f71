use Rattle.std.proofs.Common.{◌+◌, ◌++◌, arith, refl, sym}
use Rattle.http_bodies.specs.Frames.{data_of}
use Rattle.reply_lines.proofs.BodyReading.{reading_called, reading_ends, reading_fails, reading_more}
use Rattle.reply_lines.proofs.BodyReading.{reading_takes}
use Rattle.reply_lines.proofs.response_body.read_content.Goals as goal

pub returns-in-Ok-None-clause-whole : goal.returns-in-Ok-None-clause-whole
returns-in-Ok-None-clause-whole c =
    let gives = rw c.in-Ok-None.field-0-is at c.in-Ok-None.ensures.gives in
    rw c.from_vec.ensures
    (reading_ends c.args.body.now c.loop.body c.loop.content.items c.loop.counter c.args.budget c.loop.invariant.reading
    (sym c.in-Ok-None.ensures.exactly) gives.0 (omega arith))

pub returns-in-Err-Failed-clause-fault : goal.returns-in-Err-Failed-clause-fault
returns-in-Err-Failed-clause-fault c = λ told.
    reading_fails c.args.body.now c.loop.body c.loop.content.items c.loop.counter c.args.budget
    c.loop.invariant.reading (sym c.in-Err-Failed.ensures.exactly) (omega arith)

pub loop-preserved : goal.loop-preserved
loop-preserved c =
    let gives = rw c.in-Ok-Some.field-0-is at c.in-Ok-Some.ensures.gives in
    let before = c.loop.invariant.calls in
    let once = c.next_frame.ensures.once in
    record {
      reading = rw c.in_ok-append-in-Ok-Some.ensures
          (reading_more c.args.body.now c.loop.body c.next_frame.new.self c.loop.content.items c.loop.counter
          c.in-Ok-Some.frame c.loop.invariant.reading (sym c.in-Ok-Some.ensures.exactly) gives
          c.next_frame.ensures.after);
      calls = omega arith;
    }

pub returns-in-Ok-None-clause-called : goal.returns-in-Ok-None-clause-called
returns-in-Ok-None-clause-called c =
    let gives = rw c.in-Ok-None.field-0-is at c.in-Ok-None.ensures.gives in
    reading_called c.args.body.now c.loop.body c.next_frame.new.self c.loop.content.items c.loop.counter
    c.loop.invariant.reading (cc gives.1) c.loop.invariant.calls c.next_frame.ensures.once

pub returns-in-Err-Failed-clause-called : goal.returns-in-Err-Failed-clause-called
returns-in-Err-Failed-clause-called c =
    reading_called c.args.body.now c.loop.body c.next_frame.new.self c.loop.content.items c.loop.counter
    c.loop.invariant.reading c.in-Err-Failed.ensures.kept c.loop.invariant.calls c.next_frame.ensures.once

pub returns-in-Err-OutOfMemory-clause-called : goal.returns-in-Err-OutOfMemory-clause-called
returns-in-Err-OutOfMemory-clause-called c =
    reading_called c.args.body.now c.loop.body c.next_frame.new.self c.loop.content.items c.loop.counter
    c.loop.invariant.reading c.in-Err-OutOfMemory.ensures.kept c.loop.invariant.calls c.next_frame.ensures.once

pub returns-clause-called : goal.returns-clause-called
returns-clause-called c =
    reading_called c.args.body.now c.loop.body c.loop.body c.loop.content.items c.loop.counter
    c.loop.invariant.reading refl c.loop.invariant.calls (omega arith)

pub returns-in-Ok-None-clause-taken : goal.returns-in-Ok-None-clause-taken
returns-in-Ok-None-clause-taken c =
    let gives = rw c.in-Ok-None.field-0-is at c.in-Ok-None.ensures.gives in
    reading_takes c.args.body.now c.loop.body c.next_frame.new.self c.loop.content.items c.loop.counter (c.args.budget + 1)
    c.loop.invariant.reading (cc gives.1) (omega arith)

pub returns-in-Err-Failed-clause-taken : goal.returns-in-Err-Failed-clause-taken
returns-in-Err-Failed-clause-taken c =
    reading_takes c.args.body.now c.loop.body c.next_frame.new.self c.loop.content.items c.loop.counter (c.args.budget + 1)
    c.loop.invariant.reading c.in-Err-Failed.ensures.kept (omega arith)

pub returns-in-Err-OutOfMemory-clause-taken : goal.returns-in-Err-OutOfMemory-clause-taken
returns-in-Err-OutOfMemory-clause-taken c =
    reading_takes c.args.body.now c.loop.body c.next_frame.new.self c.loop.content.items c.loop.counter (c.args.budget + 1)
    c.loop.invariant.reading c.in-Err-OutOfMemory.ensures.kept (omega arith)

pub returns-clause-taken : goal.returns-clause-taken
returns-clause-taken c =
    reading_takes c.args.body.now c.loop.body c.loop.body c.loop.content.items c.loop.counter (c.args.budget + 1)
    c.loop.invariant.reading refl (omega arith)

pub returns-in_err-append-in-Ok-Some-clause-taken : goal.returns-in_err-append-in-Ok-Some-clause-taken
returns-in_err-append-in-Ok-Some-clause-taken c =
    let gives = rw c.in-Ok-Some.field-0-is at c.in-Ok-Some.ensures.gives in
    let more = reading_more c.args.body.now c.loop.body c.next_frame.new.self c.loop.content.items c.loop.counter
    c.in-Ok-Some.frame c.loop.invariant.reading (sym c.in-Ok-Some.ensures.exactly) gives c.next_frame.ensures.after in
    reading_takes c.args.body.now c.next_frame.new.self c.next_frame.new.self (c.loop.content.items ++ data_of c.in-Ok-Some.frame)
    (c.loop.counter + 1) (c.args.budget + 1) more refl (omega arith)
