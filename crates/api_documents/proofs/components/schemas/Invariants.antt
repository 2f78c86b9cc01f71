use Rattle.std.proofs.Common.{◌≡◌, drop, fold}
use Rattle.std.specs.List.{flat_map}
use Rattle.semver.specs.Identifiers.{parts_of}
use Rattle.api_documents.specs.Components.{schema_entries}
use Rattle.api_documents.specs.Listed.{listed}
use Rattle.api_documents.specs.Ordered.{by_name, with_entry}
use Rattle.api_documents.proofs.components.schemas.Given as goal

-- the schemas so far, with those that are left behind them
abbrev pub invariant-loop-declaration : goal.invariant-loop-declaration
invariant-loop-declaration l =
    by_name (flat_map schema_entries (listed (parts_of l.version) l.declarations))
    ≡ fold with_entry l.schemas.entries
    (flat_map schema_entries (listed (parts_of l.version) (drop l.declaration-index l.declarations)))
