use Rattle.std.proofs.Common.{ℕ, List, [], ◌∷◌, ◌++◌, sym, ◌∙◌, ap}
use Rattle.std.proofs.lemmas.List.{append_assoc, map-append}
use Rattle.api_types.specs.Maps.{pair_of}
use Rattle.api_types.proofs.map.pairs_of.Goals as goal

pub loop-key-preserved : goal.loop-key-preserved
loop-key-preserved g c =
    let l = c.loop-key in
    let done = l.invariant.0 in
    let entry : List ℕ × _ = (c.in-Some.key.now, c.in-Some.value.now) in
    let left = c.next.new.self in
    let tree_of = g.T.ApiType.tree_of in (
      done ++ entry ∷ [],
      l.invariant.1 ∙ ap (λ es. done ++ es) c.in-Some.ensures.steps ∙ sym (append_assoc done (entry ∷ []) left),
      rw (c.in_ok-push.ensures.ok, c.in_ok-key.ensures, c.in_ok-value.ensures) (ap (λ ps. ps ++ pair_of tree_of entry ∷ []) l.invariant.2 ∙ sym (map-append (pair_of tree_of) done (entry ∷ []))),
    )
