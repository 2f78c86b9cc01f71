use Rattle.std.proofs.Common.{sym, ◌∙◌}
use Rattle.std.proofs.lemmas.List.{nil_from_length}
use Rattle.path_templates.specs.Places.{places_at, without_last, without_lasts}
use Rattle.path_templates.proofs.TakenBack.{lasts_same}
use Rattle.path_templates.proofs.place_index.PlaceIndex.take_back.Goals as goal

pub loop-key-preserved : goal.loop-key-preserved
loop-key-preserved c = λ q.
    let were = rw c.in-Some.ensures.cases.0 at (c.loop-key.invariant q) in
    were
    ∙ sym (lasts_same (places_at c.take_last.new.self) (without_last (places_at c.loop-key.self) c.in-Some.key.now)
    c.take_last.ensures c.in-Some.others.now q)

-- none of the keys is left
pub returns : goal.returns
returns c = λ q.
    let none = nil_from_length c.loop-key.rest.now c.in_default.ensures.cases in
    sym (rw none at (c.loop-key.invariant q))
