use Rattle.std.proofs.Common.{rules, ◌≡◌, ◌<◌, ◌∙◌, sym, ap, Some, length, chars, nat_cmp, get_or}
use Rattle.std.proofs.lemmas.Fn.{always_returns_same}
use Rattle.std.specs.Cmp.Lexicographic.{slice_cmp}
use Rattle.descriptors.specs.declared.table.Definition.{Definition}
use Rattle.descriptors.specs.Definitions.{entry_of}
use Rattle.descriptors.specs.Index.{name_at, IsGapFor}
use Rattle.descriptors.proofs.Indexing.{searchable_places, name_at_is, entry_at, absent_entry}
use Rattle.descriptors.proofs.NameOrder.{same_text}
use Rattle.descriptors.proofs.index.search_places.Goals as goal

pub bounds-definitions-place : goal.bounds-definitions-place
bounds-definitions-place c = c.requires.index.within c.in-Ok.at 0 c.in-Ok.ensures.bound

pub returns-in-Ok : goal.returns-in-Ok
returns-in-Ok c =
    let es = c.args.definitions.now in
    let ps = c.args.places.now in
    let name = chars c.args.name.now in
    let place = get_or ps c.in-Ok.at 0 in
    let entry = c.index-definitions-place.result in
    let at = c.in-Ok.ensures.position (λ p. slice_cmp nat_cmp (name_at es p) name) (always_returns_same _ _ _ (λ p r f k. search rules)) in
    let within : place < length es = c.requires.index.within c.in-Ok.at 0 c.in-Ok.ensures.bound in
    let found : entry_of es name ≡ Some entry =
    entry_at es name place entry c.requires.distinct within (sym (name_at_is es place entry within) ∙ same_text (name_at es place) name (at 0))
    ∙ ap (λ (e : Definition). Some e) (sym c.index-definitions-place.is) in
    record { found = found; absent = tt; gap = tt }

pub returns-in-Err : goal.returns-in-Err
returns-in-Err c =
    let es = c.args.definitions.now in
    let ps = c.args.places.now in
    let name = chars c.args.name.now in
    let at = c.in-Err.ensures.position (λ p. slice_cmp nat_cmp (name_at es p) name) (always_returns_same _ _ _ (λ p r f k. search rules)) in
    let gap : IsGapFor es ps name c.in-Err.gap = (c.in-Err.ensures.bound, at (searchable_places es ps name c.requires.index)) in
    record { found = tt; absent = absent_entry es ps name c.in-Err.gap c.requires.index gap; gap = gap }
