-- The children of a JSON value as a list.
use Rattle.std.proofs.Common.{◌≡◌, List, ◌∷◌, map, refl, ap}
use mathlib.Core.Former.{Count}
use Rattle.schema_values.specs.declared.json_value.Json.{Json, List as ListOf, List', Object, Object', Row_of-Json, end_of-Json, Row_of-Member, end_of-Member, more_of-Member, items-the_row-Json, items-the_row-Member, items_hidden-the_row-Json-0, items_hidden-the_row-Member-1}
use Rattle.schema_values.specs.declared.json_value.Member.{Member}
use Rattle.schema_values.specs.Member.{name_of}
use Rattle.schema_values.specs.Sound.{names}

abbrev pub items_row : Json → (n : Count) × Row_of-Json n
items_row (List' shape row) = (_, row)
items_row _ = (_, end_of-Json)

abbrev pub members_row : Json → (n : Count) × Row_of-Member n
members_row (Object' shape row) = (_, row)
members_row _ = (_, end_of-Member)

pub items_of_row : (xs : List Json) → items-the_row-Json (items_row (ListOf xs)).0 (items_row (ListOf xs)).1 ≡ xs
items_of_row xs = items_hidden-the_row-Json-0 xs

pub members_of_row : (xs : List Member) → items-the_row-Member (members_row (Object xs)).0 (members_row (Object xs)).1 ≡ xs
members_of_row xs = items_hidden-the_row-Member-1 xs

pub names-items : (n : _) (row : Row_of-Member n) → names row ≡ map name_of (items-the_row-Member n row)
names-items n end_of-Member = refl
names-items n (more_of-Member name value rest) = ap (λ more. name ∷ more) (names-items _ rest)
