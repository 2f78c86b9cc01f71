use Rattle.std.proofs.Common.{map, fold, ap, ◌∙◌, []}
use Rattle.std.specs.List.{flat_map}
use Rattle.semver.specs.Identifiers.{parts_of}
use Rattle.api_documents.specs.Components.{components_of}
use Rattle.api_documents.specs.ErrorNames.{listed_errors, with_error}
use Rattle.api_documents.specs.Listed.{at_path, listed}
use Rattle.api_documents.specs.Operations.{path_item_of, path_items}
use Rattle.api_documents.proofs.DocumentParts.{same_items, same_order}
use Rattle.api_documents.proofs.documents.paths_and_components.Goals as goal

pub returns-clause-paths : goal.returns-clause-paths
returns-clause-paths c =
    let version = parts_of c.args.version.now in
    let shown = listed version c.args.declarations.now in
    let paths = c.in_ok-listed_paths.listed_paths.paths in
    let index = c.in_ok-listed_paths.listed_paths.index in
    let is = c.in_ok-listed_paths.ensures.index in
    let named =
    c.in_ok-named.ensures
    ∙ ap (λ ds. fold with_error [] (listed_errors ds))
    (same_order version c.args.declarations.now index is paths
    ∙ ap (flat_map (at_path shown)) c.in_ok-listed_paths.ensures.paths) in
    c.in_ok-paths.ensures
    ∙ same_items version c.args.declarations.now index is c.as_slice.result.now paths
    ∙ ap (map (λ path. (path, path_item_of c.as_slice.result.now shown path))) c.in_ok-listed_paths.ensures.paths
    ∙ ap (λ n. path_items n shown) (c.as_slice.ensures ∙ named)

pub returns-clause-components : goal.returns-clause-components
returns-clause-components c =
    let version = parts_of c.args.version.now in
    let shown = listed version c.args.declarations.now in
    let paths = c.in_ok-listed_paths.listed_paths.paths in
    let index = c.in_ok-listed_paths.listed_paths.index in
    let is = c.in_ok-listed_paths.ensures.index in
    let named =
    c.in_ok-named.ensures
    ∙ ap (λ ds. fold with_error [] (listed_errors ds))
    (same_order version c.args.declarations.now index is paths
    ∙ ap (flat_map (at_path shown)) c.in_ok-listed_paths.ensures.paths) in
    c.in_ok-components.ensures ∙ ap (λ n. components_of n shown) (c.as_slice-2.ensures ∙ named)
