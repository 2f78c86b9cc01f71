use Rattle.std.proofs.Common.{ℕ, List, Ok, length, ◌≤◌, ◌∙◌, ap, subst, sym}
use Rattle.body_reading.proofs.Outcomes.{whole_read}
use Rattle.body_reading.proofs.laws.cuts_are_read_alike.Goals as goal

pub returns : goal.returns
returns c limit budget frames others same few few_others small =
    let small_others = subst (λ (bytes : List ℕ). length bytes ≤ limit) same small in
    whole_read limit budget frames few small ∙ ap Ok same ∙ sym (whole_read limit budget others few_others small_others)
