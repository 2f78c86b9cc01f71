use Rattle.std.proofs.Common.{◌≡◌, ◌+◌, ℕ, List, [], ◌∷◌, ◌++◌, ap, arith, sym, take, take_all, subst, ◌∙◌}
use Rattle.std.proofs.lemmas.List.{take_more}
use Rattle.path_templates.specs.Places.{places_at, with_places}
use Rattle.path_templates.proofs.TakenBack.{lasts_back, places_more}
use Rattle.path_templates.proofs.place_index.PlaceIndex.add_all.Goals as goal

pub loop-index-preserved : goal.loop-index-preserved
loop-index-preserved c =
    let keys = c.args.keys.now in
    let i = c.loop-index.index in
    let key = c.index-keys-index.result in
    let more : take (i + 1) keys ≡ take i keys ++ key ∷ [] =
    take_more keys i key c.loop-index-test.true ∙ ap (λ k. take i keys ++ k ∷ []) (sym c.index-keys-index.is) in
    rw more
    (places_more (places_at c.args.self.now) c.args.place (take i keys) key (places_at c.loop-index.self) (places_at c.add_copy.new.self)
    c.in_default.ensures.ok c.loop-index.invariant)

pub returns-in-Err-clause-err : goal.returns-in-Err-clause-err
returns-in-Err-clause-err c =
    let keys = take c.loop-index.index c.args.keys.now in
    λ q. c.take_back.ensures q
    ∙ lasts_back (places_at c.args.self.now) c.args.place keys (places_at c.add_copy.new.self)
    (λ r. c.in-Err.ensures.err r ∙ c.loop-index.invariant r) q

pub returns-clause-ok : goal.returns-clause-ok
returns-clause-ok c =
    let keys = c.args.keys.now in
    let i = c.loop-index.index in
    subst (λ (ks : List (List ℕ)). (q : List ℕ) → places_at c.loop-index.self q ≡ with_places (places_at c.args.self.now) ks c.args.place q)
    (take_all i keys (omega (arith, c.loop-index-test.false))) c.loop-index.invariant
