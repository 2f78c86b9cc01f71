use Rattle.std.proofs.Common.{◌≡◌, sym, ◌∙◌, refl, subst}
use Rattle.std.specs.List.{insert}
use Rattle.schema_values.specs.SortedMembers.{placed}
use Rattle.schema_values.proofs.one_pass.put_in_place.Goals as goal

pub returns-clause-ok : goal.returns-clause-ok
returns-clause-ok c =
    let m = c.args.member in
    let index = c.in-Some.index in
    c.in_ok-insert.ensures.ok ∙ sym (subst (λ xs. placed m xs ≡ insert xs index m) c.as_slice.ensures (c.in-Some.ensures.placed m refl))
