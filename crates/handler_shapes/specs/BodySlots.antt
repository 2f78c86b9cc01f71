-- Which slots take the body of a request, and that the one that does comes last (OpenAPI 3.0.3, Operation Object: an
-- operation has one request body at most).
use Rattle.std.specs.Prelude.{◌≡◌, ⊤, Bool, true, false, List, [], ◌∷◌}
use Rattle.handler_shapes.specs.declared.slot.Slot.{Slot}
use Rattle.handler_shapes.specs.declared.slot.Slot.TheVariants.{Path, Query, Header, PagedQuery, TypedBody, RawBody, StreamBody}

-- whether a slot takes the body: decoded, as bytes or as a stream
abbrev pub takes_body : Slot → Bool
takes_body (TypedBody desc name) = true
takes_body RawBody = true
takes_body StreamBody = true
takes_body (Path desc) = false
takes_body (Query desc) = false
takes_body (Header desc) = false
takes_body (PagedQuery scan selector selector_table) = false

-- at most one slot takes the body, and it is the last one
abbrev pub BodyComesLast : List Slot → Type 0
BodyComesLast [] = ⊤
BodyComesLast (slot ∷ []) = ⊤
BodyComesLast (slot ∷ next ∷ slots) = (takes_body slot ≡ false) × BodyComesLast (next ∷ slots)
