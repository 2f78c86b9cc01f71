use Rattle.std.proofs.Common.{arith, ◌≡◌, ◌<◌, ◌+◌, List, ◌∷◌, ◌++◌, ◌∙◌, [], Some, sym, ap, subst, take, map, option_map}
use denote.Param.Weighed.{most}
use Rattle.std.proofs.lemmas.List.{map-append, take_more, take_all}
use Rattle.std.proofs.lemmas.List.Sums.{fold-append}
use Rattle.std.proofs.Math.Utf8.{encodes, scalars}
use Rattle.std.proofs.lemmas.Str.{encodes-chars, scalars-chars}
use Rattle.serde_json.specs.View.{items_view, members_view}
use Rattle.serde_json.proofs.Views.{view-Array, view-Object}
use Rattle.schema_values.specs.declared.json_value.Json.{Json, List as ListOf, Object, size-Json}
use Rattle.schema_values.specs.declared.json_value.Json.TheViews.{sized-List, sized-Object}
use Rattle.schema_values.specs.declared.json_value.Member.{Member, size-Member}
use Rattle.schema_values.specs.Reading.{json_of, items_of}
use Rattle.schema_values.specs.Scalars.{IsScalarText}
use Rattle.schema_values.specs.SortedMembers.{placed, in_order_after, sorted_member, sorted_members}
use Rattle.schema_values.proofs.AscendingLemmas.{sorted-List, sorted-Object}
use Rattle.schema_values.proofs.Grammar.{Kept, Kept-put, members_of-Kept}
use Rattle.schema_values.proofs.ReadingLemmas.{items-after}
use Rattle.schema_values.proofs.ScalarLemmas.{IsScalarText-from}
use Rattle.schema_values.proofs.SoundLemmas.{items_sound, members_sound}
use Rattle.schema_values.proofs.+to_value.Goals as goal

items_smaller : (j : Json) (items xs : List Json) → j ≡ ListOf items → xs ≡ items → most size-Json xs < size-Json j
items_smaller j items xs is same = rw (is, same) (omega (arith, sized-List items))

members_smaller : (j : Json) (members xs : List Member) → j ≡ Object members → xs ≡ members → most size-Member xs < size-Json j
members_smaller j members xs is same = rw (is, same) (omega (arith, sized-Object members))

pub json_value::Json::to_value-values_of_items-requires : goal.json_value::Json::to_value-values_of_items-requires
json_value::Json::to_value-values_of_items-requires t c =
    let less = items_smaller c.args.self.now c.in-List.items _ c.in-List.is c.as_slice.ensures in
    (omega (arith, c.decreases, less), items_sound c.args.self.now c.in-List.items _ c.in-List.is c.as_slice.ensures c.requires.sound)

pub json_value::Json::to_value-map_of_members-requires : goal.json_value::Json::to_value-map_of_members-requires
json_value::Json::to_value-map_of_members-requires t c =
    let less = members_smaller c.args.self.now c.in-Object.members _ c.in-Object.is c.as_slice-in-Object.ensures in
    (omega (arith, c.decreases, less), members_sound c.args.self.now c.in-Object.members _ c.in-Object.is c.as_slice-in-Object.ensures c.requires.sound)

pub json_value::Json::to_value-returns-in_ok-values_of_items-in-List : goal.json_value::Json::to_value-returns-in_ok-values_of_items-in-List
json_value::Json::to_value-returns-in_ok-values_of_items-in-List t c =
    let items = c.in-List.items in
    ap json_of (view-Array c.in_ok-values_of_items-in-List.field-0)
    ∙ ap (option_map ListOf) (c.in_ok-values_of_items-in-List.ensures ∙ ap (λ xs. Some (map sorted_members xs)) c.as_slice.ensures)
    ∙ ap Some (sym (ap sorted_members c.in-List.is ∙ sorted-List items))

pub json_value::Json::to_value-returns-in_ok-map_of_members-in-Object : goal.json_value::Json::to_value-returns-in_ok-map_of_members-in-Object
json_value::Json::to_value-returns-in_ok-map_of_members-in-Object t c =
    let members = c.in-Object.members in
    ap json_of (view-Object c.in_ok-map_of_members-in-Object.field-0)
    ∙ ap (option_map Object) (c.in_ok-map_of_members-in-Object.ensures ∙ ap (λ ms. Some (in_order_after [] (map sorted_member ms))) c.as_slice-in-Object.ensures)
    ∙ ap Some (sym (ap sorted_members c.in-Object.is ∙ sorted-Object members))

pub value::map_of_members-loop-member-preserved : goal.value::map_of_members-loop-member-preserved
value::map_of_members-loop-member-preserved t c =
    let l = c.loop-member in
    let m = c.member-item.result in
    let ms = c.args.members.now in
    let front = take l.member-index ms in
    let key = c.as_str.result.now in
    let taken : take (l.member-index + 1) ms ≡ front ++ m ∷ [] = take_more ms l.member-index m c.loop-member-test.true ∙ ap (λ x. front ++ x ∷ []) (sym c.member-item.is) in
    let grown = ap (λ xs. in_order_after [] (map sorted_member xs)) taken ∙ ap (in_order_after []) (map-append sorted_member front (m ∷ []))
    ∙ fold-append (λ found m. placed m found) [] (map sorted_member front) (sorted_member m ∷ []) in
    let spelled : key ≡ encodes m.name = sym (ap encodes c.as_str.ensures ∙ encodes-chars key c.as_str.utf8) in
    let scalar : IsScalarText m.name = IsScalarText-from m.name (ap scalars c.as_str.ensures ∙ scalars-chars key c.as_str.utf8) in
    subst (Kept (members_view c.put.new.map.entries)) (sym grown)
    (subst (λ found. Kept found (placed (sorted_member m) (in_order_after [] (map sorted_member front)))) (sym c.in_ok-put.ensures.ok)
    (Kept-put key _ (sorted_member m) (members_view l.entries.entries) (in_order_after [] (map sorted_member front)) spelled scalar c.in_ok-value.ensures l.invariant))

pub value::map_of_members-returns : goal.value::map_of_members-returns
value::map_of_members-returns t c =
    let l = c.loop-member in
    let whole : take l.member-index c.args.members.now ≡ c.args.members.now = take_all l.member-index c.args.members.now (omega (arith, c.loop-member-test.false)) in
    members_of-Kept (members_view l.entries.entries) _ l.invariant ∙ ap (λ xs. Some (in_order_after [] (map sorted_member xs))) whole

pub value::values_of_items-loop-item-preserved : goal.value::values_of_items-loop-item-preserved
value::values_of_items-loop-item-preserved t c =
    let l = c.loop-item in
    let j = c.item-item.result in
    let js = c.args.items.now in
    let front = take l.item-index js in
    let taken : take (l.item-index + 1) js ≡ front ++ j ∷ [] = take_more js l.item-index j c.loop-item-test.true ∙ ap (λ x. front ++ x ∷ []) (sym c.item-item.is) in
    ap (λ vs. items_of (items_view vs)) c.in_ok-push.ensures.items
    ∙ items-after l.values.items _ (map sorted_members front) (sorted_members j) l.invariant c.in_ok-to_value.ensures
    ∙ ap Some (sym (ap (map sorted_members) taken ∙ map-append sorted_members front (j ∷ [])))
