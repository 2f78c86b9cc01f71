use Rattle.std.proofs.Common.{◌∙◌, sym, true≢false}
use Rattle.typed_values.proofs.Fields.{AreDistinct-cons}
use Rattle.typed_values.proofs.flaws.are_distinct.Goals as goal

pub returns-then-not-is_new_name : goal.returns-then-not-is_new_name
returns-then-not-is_new_name g c =
    let parts = AreDistinct-cons g.T.HasName.name_of c.in-Some.first.now c.in-Some.others.now in
    let new = rw c.name.ensures at c.is_new_name.ensures in
    let left = rw c.in-Some.ensures.cases.0 at c.loop-first.invariant in (
      λ h. absurd (true≢false (sym h)),
      λ s. sym c.if-not-is_new_name.true ∙ new.1 (parts.0 (left.0 s)).0,
    )

pub loop-first-preserved : goal.loop-first-preserved
loop-first-preserved g c =
    let parts = AreDistinct-cons g.T.HasName.name_of c.in-Some.first.now c.in-Some.others.now in
    let new = rw c.name.ensures at c.is_new_name.ensures in
    let left = rw c.in-Some.ensures.cases.0 at c.loop-first.invariant in (
      λ s. (parts.0 (left.0 s)).1,
      λ r. left.1 (parts.1 (new.0 c.if-not-is_new_name.false, r)),
    )
