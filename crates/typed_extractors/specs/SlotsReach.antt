-- The definitions that slots reach in the table of a handler's shape.
use Rattle.std.specs.Prelude.{◌↔◌, ◌⊎◌, ℕ, List, [], ◌∷◌, map, Contains}
use Rattle.descriptors.specs.declared.table.Definition.{Definition}
use Rattle.descriptors.specs.Definitions.{definition_name}
use Rattle.typed_values.specs.Reached.{IsReached}
use Rattle.api_types.specs.Types.{HoldsAll}
use Rattle.handler_shapes.specs.declared.slot.Slot.{Slot}
use Rattle.handler_shapes.specs.declared.slot.Slot.TheVariants.{Path, Query, Header, PagedQuery, TypedBody, RawBody, StreamBody}

-- a slot reaches a name by its descriptor; a slot of pages by that of its scan, since a selector has a table of its own
abbrev pub SlotReaches : List Definition → Slot → List ℕ → Type 0
SlotReaches table (Path desc) name = IsReached table desc name
SlotReaches table (Query desc) name = IsReached table desc name
SlotReaches table (Header desc) name = IsReached table desc name
SlotReaches table (PagedQuery scan selector selector_table) name = IsReached table scan name
SlotReaches table (TypedBody desc type_name) name = IsReached table desc name
SlotReaches table RawBody name = ⊥
SlotReaches table StreamBody name = ⊥

-- one of some slots reaches a name
abbrev pub SomeReaches : List Definition → List Slot → List ℕ → Type 0
SomeReaches table [] name = ⊥
SomeReaches table (slot ∷ slots) name = SlotReaches table slot name ⊎ SomeReaches table slots name

-- in each table that has some definitions, a slot reaches the names of these and no other
abbrev pub SlotReachesExactly : List Definition → Slot → Type 0
SlotReachesExactly ds slot =
    (table : List Definition) → HoldsAll table ds → (name : List ℕ)
    → SlotReaches table slot name ↔ Contains (map definition_name ds) name

-- so do some slots together
abbrev pub SlotsReachExactly : List Definition → List Slot → Type 0
SlotsReachExactly ds slots =
    (table : List Definition) → HoldsAll table ds → (name : List ℕ)
    → SomeReaches table slots name ↔ Contains (map definition_name ds) name
