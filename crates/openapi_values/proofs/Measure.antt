-- Why the reading of a schema ends: the value gets smaller, or fewer steps are left at it.
use Rattle.std.proofs.Common.{◌≡◌, ℕ, suc, ◌+◌, ◌*◌, ◌<◌, ◌≤◌, List, length, get_or, Option, Some, option_map, Bor, sym, ap, ◌∙◌, arith}
use denote.Param.Weighed.{most, at_most}
use Rattle.schema_values.specs.declared.json_value.Json.{Json, List as ListOf, Object, out-Json, size-Json}
use Rattle.schema_values.specs.declared.json_value.Json.TheViews.{sized-List, sized-Object}
use Rattle.schema_values.specs.declared.json_value.Member.{Member, size-Member, size_is-Member}
use Rattle.openapi_values.specs.Levels.{as_list, as_object}
use Rattle.openapi_values.proofs.LevelLemmas.{list_is, object_is}

abbrev stride : ℕ → ℕ
stride room = 8 * suc room

unfoldable pub weight : ℕ → Json → ℕ
weight room j = size-Json j * stride room

-- where so much is left at one value
abbrev pub at_measure : ℕ → ℕ → Json → ℕ
at_measure room n j = weight room j + n

unfoldable pub items_measure : ℕ → List Json → ℕ
items_measure room js = suc (most size-Json js) * stride room

unfoldable pub members_measure : ℕ → List Member → ℕ
members_measure room ms = suc (most size-Member ms) * stride room

unfoldable pub member_measure : ℕ → Member → ℕ
member_measure room m = size-Member m * stride room

below_stride : (a b k r : ℕ) → a < b → r < k → a * k + r < b * k
below_stride a b k r p q = grind arith

now_is : {X : Type 0} (o : Option (Bor X)) (x : Bor X) (told : Option X) → option_map (λ y. y.now) o ≡ told → o ≡ Some x → told ≡ Some x.now
now_is o x told e f = sym e ∙ ap (option_map (λ y. y.now)) f

not_above : (a b k : ℕ) → a ≤ b → a * k ≤ b * k
not_above a b k p = grind arith

size_list : (js : List Json) → size-Json (ListOf js) ≡ suc (most size-Json js)
size_list js = sized-List js ∙ omega arith

size_object : (ms : List Member) → size-Json (Object ms) ≡ suc (most size-Member ms)
size_object ms = sized-Object ms ∙ omega arith

size_member : (m : Member) → size-Member m ≡ suc (size-Json m.value)
size_member m = size_is-Member m ∙ omega arith

pub items-lt : (room n : ℕ) (j : Json) (o : Option (Bor (List Json))) (js : Bor (List Json)) → option_map (λ x. x.now) o ≡ as_list (out-Json j) → o ≡ Some js → 0 < n → items_measure room js.now < at_measure room n j
unfolding weight items_measure
items-lt room n j o js told is h = rw (list_is j js.now (now_is o js (as_list (out-Json j)) told is), size_list js.now) (omega arith)

pub members-lt : (room n : ℕ) (j : Json) (o : Option (Bor (List Member))) (ms : Bor (List Member)) → option_map (λ x. x.now) o ≡ as_object (out-Json j) → o ≡ Some ms → 1 < n → members_measure room ms.now + 1 < at_measure room n j
unfolding weight members_measure
members-lt room n j o ms told is h = rw (object_is j ms.now (now_is o ms (as_object (out-Json j)) told is), size_object ms.now) (omega arith)

-- an item, a member, a member's value
pub item-lt : (room : ℕ) (js : List Json) (i : ℕ) (j : Json) → i < length js → j ≡ get_or js i j → at_measure room (8 * room) j < items_measure room js
unfolding weight items_measure
item-lt room js i j h e =
    let s : size-Json j ≤ most size-Json js = rw e (at_most size-Json js i j h) in
    below_stride (size-Json j) (suc (most size-Json js)) (stride room) (8 * room) (omega arith) (omega arith)

pub member-lt : (room : ℕ) (ms : List Member) (i : ℕ) (m : Member) → i < length ms → m ≡ get_or ms i m → member_measure room m < members_measure room ms
unfolding member_measure members_measure
member-lt room ms i m h e =
    let s : size-Member m ≤ most size-Member ms = rw e (at_most size-Member ms i m h) in
    let k = not_above (size-Member m) (most size-Member ms) (stride room) s in
    omega (arith, k)

pub value-lt : (room : ℕ) (m : Member) → at_measure room (8 * room) m.value < member_measure room m
unfolding weight member_measure
value-lt room m = rw (size_member m) (below_stride (size-Json m.value) (suc (size-Json m.value)) (stride room) (8 * room) (omega arith) (omega arith))
