use Rattle.std.proofs.Common.{◌≡◌, ℕ, ◌+◌, true, false, List, map, take, drop, refl, sym, ◌∙◌, ap, subst}
use Rattle.semver.specs.Identifiers.{parts_of}
use Rattle.path_templates.specs.Places.{IsIndexOf, places_at, with_place}
use Rattle.api_declarations.specs.Serving.{is_listed}
use Rattle.api_documents.specs.Listed.{listed, path_of}
use Rattle.api_documents.specs.Ordered.{with_texts}
use Rattle.api_documents.specs.Places.{path_keys}
use Rattle.api_documents.proofs.PlacesFound.{index_added, index_kept, paths_added, paths_kept}
use Rattle.api_documents.proofs.listed.listed_paths.Goals as goal
use Rattle.api_documents.proofs.listed.listed_paths.Goals.{then-is_listed+in_ok-path_of+in_ok-add+in_ok-path_of-2+in_ok-insert}
use Rattle.api_documents.proofs.listed.listed_paths.Goals.{else-is_listed}

pub loop-place-preserved : goal.loop-place-preserved
loop-place-preserved c =
    let version = parts_of c.args.version.now in
    let ds = c.args.declarations.now in
    let place = c.loop-place.place in
    let d = c.index-declarations-place.result in
    let at = c.index-declarations-place.is in
    let texts = c.loop-place.paths.keys in
    let later = λ (keys : List (List ℕ)). with_texts keys (map path_of (listed version (drop (place + 1) ds))) in
    let IsNext = IsIndexOf (map (path_keys version) (take (place + 1) ds)) in
    elim c.if-is_listed.branch [
      | then-is_listed+in_ok-path_of+in_ok-add+in_ok-path_of-2+in_ok-insert w ↦
          let shown : is_listed version d ≡ true = sym c.is_listed.ensures ∙ w.if-is_listed.true in
          let paths = c.loop-place.invariant.0 ∙ paths_added version ds place c.loop-place-test.true d at texts shown in
          let added =
          subst (λ key. (q : List ℕ)
          → places_at w.add.new.self q ≡ with_place (places_at c.loop-place.index) key place q)
          w.in_ok-path_of.ensures w.in_ok-add.ensures.ok in (
            paths ∙ ap later (rw (w.paths-is, w.in_ok-insert.ensures.keys, w.in_ok-path_of-2.ensures) refl),
            subst IsNext (sym w.index-is)
                (index_added version ds place c.loop-place-test.true d at c.loop-place.index c.loop-place.invariant.1
                w.add.new.self added shown),
          )
      | else-is_listed w ↦
          let hidden : is_listed version d ≡ false = sym c.is_listed.ensures ∙ w.if-is_listed.false in
          let paths =
          c.loop-place.invariant.0 ∙ paths_kept version ds place c.loop-place-test.true d at texts hidden in (
            paths ∙ ap later (rw w.paths-is refl),
            subst IsNext (sym w.index-is)
                (index_kept version ds place c.loop-place-test.true d at c.loop-place.index c.loop-place.invariant.1
                hidden),
          )
    ]
