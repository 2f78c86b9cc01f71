use Rattle.std.proofs.Common.{◌≡◌, drop}
use Rattle.std.specs.List.{flat_map}
use Rattle.semver.specs.Identifiers.{parts_of}
use Rattle.api_documents.specs.Listed.{listed}
use Rattle.api_documents.specs.Ordered.{with_texts}
use Rattle.api_documents.specs.Tags.{tag_names}
use Rattle.api_documents.proofs.tags.tag_names.Given as goal

-- the names so far, with those that are left behind them
abbrev pub invariant-loop-declaration : goal.invariant-loop-declaration
invariant-loop-declaration l =
    tag_names l.configured.entries (listed (parts_of l.version) l.declarations)
    ≡ with_texts l.names.keys
    (flat_map (λ d. d.tags) (listed (parts_of l.version) (drop l.declaration-index l.declarations)))
