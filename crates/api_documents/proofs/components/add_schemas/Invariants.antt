use Rattle.std.proofs.Common.{◌≡◌, drop, fold, map}
use Rattle.std.specs.Prelude.{filter}
use Rattle.api_documents.specs.Components.{schema_entry}
use Rattle.api_documents.specs.Ordered.{is_among, with_entry}
use Rattle.api_documents.proofs.components.add_schemas.Given as goal

-- the schemas so far, with those that are left behind them
abbrev pub invariant-loop-definition : goal.invariant-loop-definition
invariant-loop-definition l =
    fold with_entry l.initial.schemas.entries
    (map (schema_entry l.shape.table) (filter (λ e. is_among e.name l.names.keys) l.definition-items))
    ≡ fold with_entry l.schemas.entries
    (map (schema_entry l.shape.table)
    (filter (λ e. is_among e.name l.names.keys) (drop l.definition-index l.definition-items)))
