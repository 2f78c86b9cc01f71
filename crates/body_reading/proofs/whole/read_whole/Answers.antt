use Rattle.std.proofs.Common.{◌≤◌, [], ◌∷◌, ◌++◌, ◌∙◌, arith, inr, refl, rules}
use Rattle.std.proofs.lemmas.Result.{err_from_is_err_and}
use Rattle.std.proofs.lemmas.List.{length-append}
use Rattle.http_bodies.proofs.CallerLemmas.{called_behind, called_for}
use Rattle.body_reading.proofs.Outcomes.{reads_whole}
use Rattle.body_reading.proofs.Reading.{content_came, reading_ends, reading_fails, reading_large, reading_more, reading_over, reading_stops}
use Rattle.body_reading.proofs.Taking.{takes_both}
use Rattle.body_reading.proofs.whole.read_whole.Goals as goal

pub returns-in_err-frame-clause-came : goal.returns-in_err-frame-clause-came
returns-in_err-frame-clause-came g c =
    let p = err_from_is_err_and c.from_residual.result c.from_residual.ensures.1 in
    rw (p.1, p.2)
    (reading_fails (g.S.FrameSource.state c.args.source.now) (g.S.FrameSource.state c.loop-count.source)
    (g.S.FrameSource.state c.next_frame.new.self) c.args.limit c.args.budget c.loop-count.content.items c.loop-count.count
    c.in_err-frame.field-0.0 c.loop-count.invariant.reading c.in_err-frame.ensures.kept (omega arith))

pub returns-in_err-frame-clause-outcome : goal.returns-in_err-frame-clause-outcome
returns-in_err-frame-clause-outcome g c = reads_whole _ _ _ _ _ (returns-in_err-frame-clause-came g c)

pub returns-in_err-frame-clause-called : goal.returns-in_err-frame-clause-called
returns-in_err-frame-clause-called g c =
    let d = c.loop-count.invariant.reading in
    let counted = d.counted in
    let before = c.loop-count.invariant.calls in
    let once = c.next_frame.ensures.once in
    called_for _ _ _ d.came _ _ d.taken c.in_err-frame.ensures.kept (omega arith)

pub returns-in_default-clause-came : goal.returns-in_default-clause-came
returns-in_default-clause-came g c =
    let gives = rw c.in_default.is at c.in_ok-frame.ensures.gives in
    rw c.from_vec.ensures
    (reading_ends (g.S.FrameSource.state c.args.source.now) (g.S.FrameSource.state c.loop-count.source)
    (g.S.FrameSource.state c.next_frame.new.self) c.args.limit c.args.budget c.loop-count.content.items c.loop-count.count
    c.loop-count.invariant.reading gives (omega arith))

pub returns-in_default-clause-outcome : goal.returns-in_default-clause-outcome
returns-in_default-clause-outcome g c = reads_whole _ _ _ _ _ (returns-in_default-clause-came g c)

pub returns-in_default-clause-called : goal.returns-in_default-clause-called
returns-in_default-clause-called g c =
    let gives = rw c.in_default.is at c.in_ok-frame.ensures.gives in
    let d = c.loop-count.invariant.reading in
    let counted = d.counted in
    let before = c.loop-count.invariant.calls in
    let once = c.next_frame.ensures.once in
    called_for _ _ _ d.came _ _ d.taken gives.1 (omega arith)

pub returns-then-sum-limit-clause-came : goal.returns-then-sum-limit-clause-came
returns-then-sum-limit-clause-came g c =
    let gives = rw c.in-Some.is at c.in_ok-frame.ensures.gives in
    reading_large (g.S.FrameSource.state c.args.source.now) (g.S.FrameSource.state c.loop-count.source)
    (g.S.FrameSource.state c.next_frame.new.self) (g.S.FrameSource.state c.too_large.new.source).left
    c.args.limit c.args.budget c.loop-count.content.items c.loop-count.count c.in-Some.frame c.sum_of-sum.result c.too_large.result
    (record {
      reading = c.loop-count.invariant.reading;
      gives = gives;
      allowed = omega arith;
      sum_is = rw (c.sum_of-sum.ensures, c.deref.ensures.value, c.data.ensures) refl;
      above = c.if-sum-limit.true;
      fits = omega arith;
    })
    c.too_large.ensures.told c.too_large.ensures.most c.too_large.ensures.rest

pub returns-then-sum-limit-clause-outcome : goal.returns-then-sum-limit-clause-outcome
returns-then-sum-limit-clause-outcome g c = reads_whole _ _ _ _ _ (returns-then-sum-limit-clause-came g c)

pub returns-then-sum-limit-clause-called : goal.returns-then-sum-limit-clause-called
returns-then-sum-limit-clause-called g c =
    let gives = rw c.in-Some.is at c.in_ok-frame.ensures.gives in
    let d = c.loop-count.invariant.reading in
    let counted = d.counted in
    let before = c.loop-count.invariant.calls in
    let once = c.next_frame.ensures.once in
    called_behind _ _ _ (d.came ++ c.in-Some.frame ∷ []) _ _ _ (takes_both _ _ _ d.came (c.in-Some.frame ∷ []) d.taken gives)
    (omega (arith, length-append d.came (c.in-Some.frame ∷ []))) c.too_large.ensures.called

pub returns-in_err-append-clause-called : goal.returns-in_err-append-clause-called
returns-in_err-append-clause-called g c =
    let gives = rw c.in-Some.is at c.in_ok-frame.ensures.gives in
    let d = c.loop-count.invariant.reading in
    let counted = d.counted in
    let before = c.loop-count.invariant.calls in
    let once = c.next_frame.ensures.once in
    called_for _ _ _ (d.came ++ c.in-Some.frame ∷ []) _ _ (takes_both _ _ _ d.came (c.in-Some.frame ∷ []) d.taken gives) refl
    (omega (arith, length-append d.came (c.in-Some.frame ∷ [])))

pub returns-in_err-append-clause-came : goal.returns-in_err-append-clause-came
returns-in_err-append-clause-came g c =
    let gives = rw c.in-Some.is at c.in_ok-frame.ensures.gives in
    let p = err_from_is_err_and c.from_residual-in_err-append.result c.from_residual-in_err-append.ensures.1 in
    rw (p.1, p.2)
    (reading_stops (g.S.FrameSource.state c.args.source.now) (g.S.FrameSource.state c.loop-count.source)
    (g.S.FrameSource.state c.next_frame.new.self) c.args.limit c.args.budget c.loop-count.content.items c.loop-count.count
    c.in-Some.frame c.loop-count.invariant.reading gives (omega arith))

pub returns-in_err-append-clause-outcome : goal.returns-in_err-append-clause-outcome
returns-in_err-append-clause-outcome g c = reads_whole _ _ _ _ _ (returns-in_err-append-clause-came g c)

pub returns-in_err-append-clause-memory : goal.returns-in_err-append-clause-memory
returns-in_err-append-clause-memory g c is =
    let d = c.loop-count.invariant.reading in
    inr (content_came (g.S.FrameSource.state c.args.source.now).left (g.S.FrameSource.state c.loop-count.source).left d.came d.taken
    (λ nothing. absurd (cc (c.in_err-append.ensures.none (d.content_is ∙ nothing)))))

pub loop-count-preserved : goal.loop-count-preserved
loop-count-preserved g c =
    let gives = rw c.in-Some.is at c.in_ok-frame.ensures.gives in
    let counts = c.in_ok-frame.ensures.counts (λ failed. search rules) in
    let not_above : c.sum_of-sum.result ≤ c.args.limit = omega arith in
    let fits = rw (c.sum_of-sum.ensures, c.deref.ensures.value, c.data.ensures) at not_above in
    let before = c.loop-count.invariant.calls in
    let once = c.next_frame.ensures.once in
    record {
      reading = rw c.in_ok-append.ensures.content
          (reading_more (g.S.FrameSource.state c.args.source.now) (g.S.FrameSource.state c.loop-count.source)
          (g.S.FrameSource.state c.next_frame.new.self) c.args.limit c.loop-count.content.items c.loop-count.count
          c.in-Some.frame c.loop-count.invariant.reading gives counts c.next_frame.ensures.goes_on fits);
      spared = λ asks. c.loop-count.invariant.spared (c.next_frame.ensures.spared asks);
      calls = omega arith;
    }

pub returns-clause-came : goal.returns-clause-came
returns-clause-came g c =
    reading_over (g.S.FrameSource.state c.args.source.now) (g.S.FrameSource.state c.loop-count.source) c.args.limit c.args.budget
    c.loop-count.content.items c.loop-count.count c.loop-count.invariant.reading (omega arith)

pub returns-clause-outcome : goal.returns-clause-outcome
returns-clause-outcome g c = reads_whole _ _ _ _ _ (returns-clause-came g c)

pub returns-clause-called : goal.returns-clause-called
returns-clause-called g c =
    let d = c.loop-count.invariant.reading in
    let counted = d.counted in
    let calls = c.loop-count.invariant.calls in
    called_for _ _ _ d.came _ _ d.taken refl (omega arith)
