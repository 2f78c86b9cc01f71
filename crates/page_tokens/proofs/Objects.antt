-- The object of the first form: how deep it nests, that it is sound, and its members in the order of their names.
use Rattle.std.proofs.Common.{◌≡◌, ◌≤◌, ◌≢◌, ℕ, suc, max, List, [], ◌∷◌, map, Some, codes, refl, ◌∙◌, ap, arith}
use Rattle.schema_values.specs.declared.json_value.Json.{Json, Text as Words, Object, Row_of-Member, end_of-Member, more_of-Member, items-the_row-Member}
use Rattle.schema_values.specs.declared.json_value.Json.TheVariants.{outs-Object}
use Rattle.schema_values.specs.declared.json_value.Member.{Member}
use Rattle.schema_values.specs.Depth.{depth, depth_of_members}
use Rattle.schema_values.specs.Get.{get_of, first_named}
use Rattle.schema_values.specs.Sound.{IsSound}
use Rattle.schema_values.specs.SortedMembers.{in_order_after, sorted_members, sorted_member}
use Rattle.schema_values.proofs.CallerLemmas.{IsSound-Object, sorted-Object, members_row, members_of_row}
use Rattle.schema_values.specs.Member.{member}
use Rattle.page_tokens.specs.Forms.{v1}

abbrev members_with : Json → List Member
members_with start = member (codes "v") (Words (codes "v1")) ∷ member (codes "page_start") start ∷ []

get_of-Object : (name : List ℕ) (ms : List Member) → get_of name (Object ms) ≡ first_named name ms
get_of-Object name ms = rw (outs-Object ms) refl

found : (start : Json) → get_of (codes "page_start") (sorted_members (v1.object start)) ≡ Some (sorted_members start)
found start = ap (get_of (codes "page_start")) (sorted-Object (members_with start)) ∙ get_of-Object (codes "page_start") (in_order_after [] (map sorted_member (members_with start)))

version : (start : Json) → get_of (codes "v") (sorted_members (v1.object start)) ≡ Some (Words (codes "v1"))
version start = ap (get_of (codes "v")) (sorted-Object (members_with start)) ∙ get_of-Object (codes "v") (in_order_after [] (map sorted_member (members_with start)))

pub in_order_starts : (start : Json) → v1.HasStart (sorted_members (v1.object start)) (sorted_members start)
in_order_starts start = (version start, found start)

-- how deep the deepest value of some members nests
abbrev deepest : List Member → ℕ
deepest [] = 0
deepest (m ∷ ms) = max (depth m.value) (deepest ms)

deepest_row : (n : _) (row : Row_of-Member n) → depth_of_members row ≡ deepest (items-the_row-Member n row)
deepest_row n end_of-Member = refl
deepest_row n (more_of-Member name value rest) = ap (max (depth value)) (deepest_row _ rest)

depth-Object : (ms : List Member) → depth (Object ms) ≡ suc (deepest ms)
depth-Object ms = let row = members_row (Object ms) in ap suc (deepest_row row.0 row.1 ∙ ap deepest (members_of_row ms))

pub shallow : (start : Json) → depth start ≤ 126 → depth (v1.object start) ≤ 127
shallow start h = omega (arith, depth-Object (members_with start), h)

other : codes "v" ≢ codes "page_start"
other e = absurd (cc e)

pub object_sound : (start : Json) → IsSound start → IsSound (v1.object start)
object_sound start sound = (IsSound-Object (members_with start)).1 ((tt, (sound, tt)), ((other, tt), (tt, tt)))
