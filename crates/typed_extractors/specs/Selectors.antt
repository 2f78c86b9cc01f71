-- The selectors of slots, each of which has a table of its own.
use Rattle.std.specs.Prelude.{◌≡◌, ⊤, List, [], ◌∷◌}
use Rattle.descriptors.specs.declared.desc.Desc.{Desc}
use Rattle.descriptors.specs.declared.table.Definition.{Definition}
use Rattle.api_types.specs.Additions.{with_all}
use Rattle.api_types.specs.Types.{ReachesExactly}
use Rattle.handler_shapes.specs.declared.slot.Slot.{Slot}
use Rattle.handler_shapes.specs.declared.slot.Slot.TheVariants.{Path, Query, Header, PagedQuery}
use Rattle.handler_shapes.specs.declared.slot.Slot.TheVariants.{TypedBody, RawBody, StreamBody}

-- the selectors of a slot, with their tables: a slot of pages has one
abbrev pub selectors_in : Slot → List (Desc × List Definition)
selectors_in (Path desc) = []
selectors_in (Query desc) = []
selectors_in (Header desc) = []
selectors_in (PagedQuery scan selector selector_table) = (selector, selector_table) ∷ []
selectors_in (TypedBody desc type_name) = []
selectors_in RawBody = []
selectors_in StreamBody = []

-- a table is made of some definitions alone, and a selector reaches the names of these and no other
pub record IsSelectorTable (ds : List Definition) (selector : Desc) (table : List Definition) : Type 0 where
  pub made : table ≡ with_all [] ds
  pub reaches : ReachesExactly ds selector

-- each of some selectors has such a table, of its definitions
abbrev pub HaveOwnTables : List (List Definition) → List (Desc × List Definition) → Type 0
HaveOwnTables [] [] = ⊤
HaveOwnTables [] (one ∷ selectors) = ⊥
HaveOwnTables (ds ∷ definitions) [] = ⊥
HaveOwnTables (ds ∷ definitions) (one ∷ selectors) =
    IsSelectorTable ds one.0 one.1 × HaveOwnTables definitions selectors
