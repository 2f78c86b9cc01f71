use Rattle.std.proofs.Common.{arith, refl, rules}
use Rattle.http_bodies.proofs.Dumping.{dumping_more}
use Rattle.http_bodies.proofs.Taken.{called_for}
use Rattle.http_bodies.proofs.dump.http_dump_body.Goals as goal

pub loop-preserved : goal.loop-preserved
loop-preserved g c =
    let gives = rw c.in-Some.is at c.in_ok-frame.ensures.gives in
    let counts = c.in_ok-frame.ensures.counts (λ failed. search rules) in
    let before = c.loop.invariant.calls in
    let once = c.next_frame.ensures.once in
    record {
      dumping = rw (c.saturating_add-sum.ensures, c.data.ensures)
          (dumping_more _ _ _ _ _ _ c.loop.invariant.dumping gives counts c.next_frame.ensures.goes_on);
      spared = λ asks. c.loop.invariant.spared (c.next_frame.ensures.spared asks);
      calls = omega arith;
    }

pub returns-in_err-frame-clause-called : goal.returns-in_err-frame-clause-called
returns-in_err-frame-clause-called g c =
    let d = c.loop.invariant.dumping in
    let counted = d.counted in
    let before = c.loop.invariant.calls in
    let once = c.next_frame.ensures.once in
    called_for _ _ _ d.came _ _ d.taken c.in_err-frame.ensures.kept (omega arith)

pub returns-in-None-clause-called : goal.returns-in-None-clause-called
returns-in-None-clause-called g c =
    let gives = rw c.in-None.is at c.in_ok-frame.ensures.gives in
    let d = c.loop.invariant.dumping in
    let counted = d.counted in
    let before = c.loop.invariant.calls in
    let once = c.next_frame.ensures.once in
    called_for _ _ _ d.came _ _ d.taken gives.1 (omega arith)

pub returns-clause-called : goal.returns-clause-called
returns-clause-called g c =
    let d = c.loop.invariant.dumping in
    let counted = d.counted in
    let calls = c.loop.invariant.calls in
    called_for _ _ _ d.came _ _ d.taken refl (omega arith)
