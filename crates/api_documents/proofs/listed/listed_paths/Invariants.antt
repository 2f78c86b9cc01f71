use Rattle.std.proofs.Common.{◌≡◌, map, take, drop}
use Rattle.semver.specs.Identifiers.{parts_of}
use Rattle.path_templates.specs.Places.{IsIndexOf}
use Rattle.api_documents.specs.Listed.{listed, path_of, paths_in_order}
use Rattle.api_documents.specs.Ordered.{with_texts}
use Rattle.api_documents.specs.Places.{path_keys}
use Rattle.api_documents.proofs.listed.listed_paths.Given as goal

-- the paths so far, with those that are left behind them, and the places so far
abbrev pub invariant-loop-place : goal.invariant-loop-place
invariant-loop-place l =
    (paths_in_order (listed (parts_of l.version) l.declarations)
    ≡ with_texts l.paths.keys (map path_of (listed (parts_of l.version) (drop l.place l.declarations))))
    × IsIndexOf (map (path_keys (parts_of l.version)) (take l.place l.declarations)) l.index
