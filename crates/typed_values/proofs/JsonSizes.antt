-- The sizes of what a JSON value is made of.
use Rattle.std.proofs.Common.{◌≡◌, ℕ, suc, Bool, true, false, cond, ◌<◌, ◌≤◌, List, [], ◌∷◌, Option, Some, sym, ◌∙◌, ◌⊎◌, inl, inr, ap, bytes_eq, length, get_or, arith}
use denote.Param.Weighed.{most, at_most}
use Rattle.std.specs.List.{AllByRecursion}
use Rattle.schema_values.specs.declared.json_value.Json.{Json, List as JsonList, Object as JsonObject, size-Json}
use Rattle.schema_values.specs.declared.json_value.Json.TheViews.{sized-List, sized-Object}
use Rattle.schema_values.specs.declared.json_value.Member.{Member, size-Member, size_is-Member}
use Rattle.descriptors.specs.declared.desc.Desc.{Desc}
use Rattle.descriptors.specs.declared.table.Definition.{Definition}
use Rattle.typed_values.specs.Denotes.{value_named, member_name}
use Rattle.schema_values.specs.Order.{sorted_by}
use Rattle.schema_values.proofs.CallerLemmas.{all_sorted}
use Rattle.typed_values.proofs.Measure.{size_alone, alone-lt-next}

size_list : (js : List Json) → size-Json (JsonList js) ≡ suc (most size-Json js)
size_list js = sized-List js ∙ omega arith

-- the size of a list with the items that a slice of it has
pub list_size : (j : Json) (js items : List Json) → j ≡ JsonList js → items ≡ js → size-Json j ≡ suc (most size-Json items)
list_size j js items e same = ap size-Json e ∙ size_list js ∙ ap (λ (xs : List Json). suc (most size-Json xs)) (sym same)

size_object : (ms : List Member) → size-Json (JsonObject ms) ≡ suc (most size-Member ms)
size_object ms = sized-Object ms ∙ omega arith

size_member : (m : Member) → size-Member m ≡ suc (size-Json m.value)
size_member m = size_is-Member m ∙ omega arith

-- a member is greater than its value
pub member_greater : (m : Member) → size-Json m.value < size-Member m
member_greater m = omega (arith, size_member m)

pub item_smaller : (js : List Json) (i : ℕ) (j : Json) → i < length js → j ≡ get_or js i j → size-Json j < suc (most size-Json js)
item_smaller js i j h is = let deep = at_most size-Json js i j h in rw is (omega arith)

pub member_at_most : (ms : List Member) (i : ℕ) (m : Member) → i < length ms → m ≡ get_or ms i m → size-Member m ≤ most size-Member ms
member_at_most ms i m h is = let deep = at_most size-Member ms i m h in rw is (omega (arith, deep))

value_at : (m : Member) (b : Bool) (o : Option Json) (n : ℕ) (j : Json) → ((i : Json) → o ≡ Some i → size-Json i < n) → cond b (Some m.value) o ≡ Some j → (size-Json j ≡ size-Json m.value) ⊎ (size-Json j < n)
value_at m true o n j h e = inl (ap size-Json (cc e))
value_at m false o n j h e = inr (h j e)

-- a member that was found is smaller
pub value_smaller : (ms : List Member) (name : List ℕ) (j : Json) → value_named ms name ≡ Some j → size-Json j < most size-Member ms
value_smaller [] name j e = absurd (cc e)
value_smaller (m ∷ ms) name j e =
    let split = value_at m (bytes_eq m.name name) (value_named ms name) (most size-Member ms) j (value_smaller ms name) e in
    omega (arith, size_member m, split)

each_at_most : (b : ℕ) (ms : List Member) → most size-Member ms ≤ b → AllByRecursion (λ m. size-Member m ≤ b) ms
each_at_most b [] h = tt
each_at_most b (m ∷ ms) h = (omega (arith, h), each_at_most b ms (omega (arith, h)))

most_of_each : (b : ℕ) (ms : List Member) → AllByRecursion (λ m. size-Member m ≤ b) ms → most size-Member ms ≤ b
most_of_each b [] h = omega arith
most_of_each b (m ∷ ms) h = omega (arith, h.0, most_of_each b ms h.1)

-- a member in the order of names is no greater than the greatest
pub entry_at_most : (ms : List Member) (i : ℕ) (m : Member) → i < length (sorted_by member_name ms) → m ≡ get_or (sorted_by member_name ms) i m → size-Member m ≤ most size-Member ms
entry_at_most ms i m h is =
    let some : most size-Member (sorted_by member_name ms) ≤ most size-Member ms =
    most_of_each (most size-Member ms) (sorted_by member_name ms) (all_sorted (λ n. size-Member n ≤ most size-Member ms) member_name ms (each_at_most (most size-Member ms) ms (omega arith))) in
    let deep = at_most size-Member (sorted_by member_name ms) i m h in
    rw is (omega (arith, some, deep))

-- an object's members are measured below the object
pub members-lt-alone : (table : List Definition) (whole : Desc) (j : Json) (ms : List Member) → j ≡ JsonObject ms → suc (suc (size_alone table whole (most size-Member ms))) < size_alone table whole (size-Json j)
members-lt-alone table whole j ms e =
    let size : size-Json j ≡ suc (most size-Member ms) = ap size-Json e ∙ size_object ms in
    rw size (alone-lt-next table whole (most size-Member ms))
