-- Whether an endpoint answers in pages, and what a request for the first page must have (OpenAPI 3.0.3, Specification
-- Extensions; what pages ask is this project's own).
use Rattle.std.specs.Prelude.{◌≡◌, ◌≢◌, ℕ, List, [], ◌∷◌, Option, Some, None, Contains}
use Rattle.std.specs.Option.{option_or}
use Rattle.descriptors.specs.declared.table.Definition.{Definition}
use Rattle.written_texts.specs.PageParameters.{first_page_names}
use Rattle.handler_shapes.specs.declared.slot.Slot.{Slot}
use Rattle.handler_shapes.specs.declared.slot.Slot.TheVariants.{Path, Query, Header, PagedQuery, TypedBody, RawBody}
use Rattle.handler_shapes.specs.declared.slot.Slot.TheVariants.{StreamBody}
use Rattle.endpoint_metadata.specs.declared.extension.ExtensionMode.{ExtensionMode}
use Rattle.endpoint_metadata.specs.declared.extension.ExtensionMode.TheVariants as mode
use Rattle.endpoint_metadata.specs.Structs.{listed_fields}

-- names in order
abbrev pub PageNames : Type 0
PageNames = List (List ℕ)

-- the names that a request for the first page must have, where a slot is that of pages
abbrev pub asked_names : List Definition → Slot → Option PageNames
asked_names table (PagedQuery scan selector selector_table) = Some (first_page_names (listed_fields table scan))
asked_names table (Path desc) = None
asked_names table (Query desc) = None
asked_names table (Header desc) = None
asked_names table (TypedBody desc name) = None
asked_names table RawBody = None
asked_names table StreamBody = None

-- those of the first slot of pages
abbrev pub first_asked : List Definition → List Slot → Option PageNames
first_asked table [] = None
first_asked table (slot ∷ slots) = option_or (asked_names table slot) (first_asked table slots)

-- the mode of an endpoint whose pages ask for some names, or that answers in none
abbrev pub mode_of : Option PageNames → ExtensionMode
mode_of None = mode.None
mode_of (Some names) = mode.Paginated names

-- some slot of pages asks for names
abbrev pub AskFor : List Definition → List Slot → PageNames → Type 0
AskFor table slots names = (slot : Slot) × Contains slots slot × (asked_names table slot ≡ Some names)

-- all slots of pages ask for the same names
abbrev pub AskAlike : List Definition → List Slot → Type 0
AskAlike table slots = (one other : PageNames) → AskFor table slots one → AskFor table slots other → one ≡ other

-- two slots of pages ask for different names
abbrev pub AskDifferently : List Definition → List Slot → Type 0
AskDifferently table slots = (one other : PageNames) × AskFor table slots one × AskFor table slots other × (one ≢ other)
