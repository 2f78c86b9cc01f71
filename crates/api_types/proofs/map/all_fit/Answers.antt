use Rattle.std.proofs.Common.{◌≡◌, ℕ, List, [], ◌∷◌, ◌++◌, map, sym, ◌∙◌, ap, subst}
use Rattle.std.proofs.lemmas.List.{append_assoc, append-nil, map-append}
use Rattle.std.specs.List.{AllByRecursion}
use Rattle.std.specs.Map.{keys_of}
use Rattle.schema_values.proofs.CallerLemmas.{all-push}
use Rattle.descriptors.specs.declared.tree.Pair.{Pair}
use Rattle.api_types.specs.Maps.{pair_of, value_of}
use Rattle.api_types.specs.Types.{FitsEach}
use Rattle.api_types.proofs.Entries.{ascending_of, pair_keys}
use Rattle.api_types.proofs.map.all_fit.Goals as goal

pub loop-key-preserved : goal.loop-key-preserved
loop-key-preserved g c =
    let l = c.loop-key in
    let done = l.invariant.0 in
    let entry : List ℕ × _ = (c.in-Some.key.now, c.in-Some.value.now) in
    let left = c.next.new.self in
    let tree_of = g.T.ApiType.tree_of in
    let Fit = λ (pair : Pair). FitsEach g.T.ApiType.definitions_of g.T.ApiType.desc_of (value_of pair) in (
      done ++ entry ∷ [],
      l.invariant.1 ∙ ap (λ es. done ++ es) c.in-Some.ensures.steps ∙ sym (append_assoc done (entry ∷ []) left),
      subst (AllByRecursion Fit) (sym (map-append (pair_of tree_of) done (entry ∷ []))) (all-push Fit (map (pair_of tree_of) done) (pair_of tree_of entry) l.invariant.2 c.fits.ensures),
    )

pub returns-clause-ascending : goal.returns-clause-ascending
returns-clause-ascending g c =
    let entries = c.args.values.now.entries in
    rw (pair_keys g.T.ApiType.tree_of entries) (ascending_of (keys_of entries) c.iter-key-items.ensures.ordered)

pub returns-clause-fit : goal.returns-clause-fit
returns-clause-fit g c =
    let l = c.loop-key in
    let done = l.invariant.0 in
    let all : c.args.values.now.entries ≡ done = l.invariant.1 ∙ ap (λ es. done ++ es) c.in-None.ensures.steps.0 ∙ append-nil done in
    rw all l.invariant.2
