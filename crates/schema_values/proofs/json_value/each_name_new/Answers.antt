use Rattle.std.proofs.Common.{◌∙◌, sym, true≢false}
use Rattle.schema_values.proofs.SoundLemmas.{AreDistinct-cons}
use Rattle.schema_values.proofs.json_value.each_name_new.Goals as goal

pub returns-then-not-is_new_name : goal.returns-then-not-is_new_name
returns-then-not-is_new_name c =
    let parts = AreDistinct-cons c.in-Some.first.now c.in-Some.others.now in
    let left = rw c.in-Some.ensures.cases.0 at c.loop-first.invariant in (
      λ h. absurd (true≢false (sym h)),
      λ s. sym c.if-not-is_new_name.true ∙ c.is_new_name.ensures.1 (parts.0 (left.0 s)).0,
    )

pub loop-first-preserved : goal.loop-first-preserved
loop-first-preserved c =
    let parts = AreDistinct-cons c.in-Some.first.now c.in-Some.others.now in
    let left = rw c.in-Some.ensures.cases.0 at c.loop-first.invariant in (
      λ s. (parts.0 (left.0 s)).1,
      λ r. left.1 (parts.1 (c.is_new_name.ensures.0 c.if-not-is_new_name.false, r)),
    )
