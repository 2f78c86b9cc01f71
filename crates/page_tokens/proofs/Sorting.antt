-- A sound value with its members in the order of their names: level by level, and where a name is looked up.
use Rattle.std.proofs.Common.{◌≡◌, ◌≢◌, ℕ, List, [], ◌∷◌, map, fold, Less, Equal, Greater, nat_cmp, refl, sym, ◌∙◌, ap, subst}
use Rattle.std.specs.List.{AllByRecursion}
use Rattle.std.specs.Cmp.Lexicographic.{slice_cmp}
use Rattle.std.specs.Ordering.{match_ordering}
use Rattle.std.specs.declared.cmp.Ordering.{Ordering}
use Rattle.schema_values.specs.declared.json_value.Json.{Json, out-Json}
use Rattle.schema_values.specs.declared.json_value.Json.TheOpen.{Json-F}
use Rattle.schema_values.specs.declared.json_value.Json.TheVariants as json
use Rattle.schema_values.specs.declared.json_value.Json.TheViews.{roll-Json, roll-out-Json}
use Rattle.schema_values.specs.declared.json_value.Member.{Member}
use Rattle.schema_values.specs.Member.{name_of}
use Rattle.schema_values.specs.Order.{at_place, inserted_by, sorted_by}
use Rattle.schema_values.specs.Sound.{AreDistinct}
use Rattle.schema_values.specs.SortedMembers.{placed, in_order_after, sorted_members, sorted_member}
use Rattle.schema_values.proofs.CallerLemmas.{all_inserted, map_sorted, sorted-List, sorted-Object}
use Rattle.descriptors.proofs.CallerLemmas.{same_text}

-- a member of a new name goes where it goes in the order of names
placed_new : (m : Member) (ms : List Member) → AllByRecursion (λ n. name_of m ≢ name_of n) ms → placed m ms ≡ inserted_by name_of m ms
placed_new m [] new = refl
placed_new m (n ∷ ms) new = by (slice_cmp nat_cmp m.name n.name) refl (placed_new m ms new.1)
  where
    by : (o : Ordering) → slice_cmp nat_cmp m.name n.name ≡ o → placed m ms ≡ inserted_by name_of m ms → match_ordering o (m ∷ n ∷ ms) (record { name = n.name; value = m.value } ∷ ms) (n ∷ placed m ms) ≡ at_place o m n ms (inserted_by name_of m ms)
    by Less e later = refl
    by Equal e later = absurd (new.0 (same_text m.name n.name e))
    by Greater e later = ap (λ (rest : List Member). n ∷ rest) later

-- each member has another name than those that are in order already
abbrev Apart : List Member → List Member → Type 0
Apart found ms = AllByRecursion (λ m. AllByRecursion (λ n. name_of m ≢ name_of n) found) ms

names_apart : (name : List ℕ) (ms : List Member) → AllByRecursion (λ other. name ≢ other) (map name_of ms) → AllByRecursion (λ m. name ≢ name_of m) ms
names_apart name [] new = tt
names_apart name (m ∷ ms) new = (new.0, names_apart name ms new.1)

one_more_apart : (m : Member) (found ms : List Member) → Apart found ms → AllByRecursion (λ n. name_of m ≢ name_of n) ms → Apart (inserted_by name_of m found) ms
one_more_apart m found [] apart new = tt
one_more_apart m found (n ∷ ms) apart new = (all_inserted (λ k. name_of n ≢ name_of k) name_of m found (λ e. new.0 (sym e)) apart.0, one_more_apart m found ms apart.1 new.1)

in_order_by_names : (found ms : List Member) → Apart found ms → AreDistinct (map name_of ms) → in_order_after found ms ≡ fold (λ sorted m. inserted_by name_of m sorted) found ms
in_order_by_names found [] apart distinct = refl
in_order_by_names found (m ∷ ms) apart distinct =
    ap (λ (done : List Member). in_order_after done ms) (placed_new m found apart.0)
    ∙ in_order_by_names (inserted_by name_of m found) ms (one_more_apart m found ms apart.1 (names_apart m.name ms distinct.0)) distinct.1

none_apart : (ms : List Member) → Apart [] ms
none_apart [] = tt
none_apart (m ∷ ms) = (tt, none_apart ms)

pub same_names : (ms : List Member) → map name_of (map sorted_member ms) ≡ map name_of ms
same_names [] = refl
same_names (m ∷ ms) = ap (λ (names : List (List ℕ)). m.name ∷ names) (same_names ms)

-- the members of an object whose names are distinct
pub members_in_order : (ms : List Member) → AreDistinct (map name_of ms) → in_order_after [] (map sorted_member ms) ≡ map sorted_member (sorted_by name_of ms)
members_in_order ms distinct =
    in_order_by_names [] (map sorted_member ms) (none_apart (map sorted_member ms)) (subst AreDistinct (sym (same_names ms)) distinct)
    ∙ sym (map_sorted name_of name_of sorted_member (λ m. refl) ms)

-- one level, with the smaller values in order
abbrev pub level_in_order : Json-F Json Member → Json-F Json Member
level_in_order (Json-F.List js) = Json-F.List (map sorted_members js)
level_in_order (Json-F.Object ms) = Json-F.Object (in_order_after [] (map sorted_member ms))
level_in_order x = x

by_level : (x : Json-F Json Member) → out-Json (sorted_members (roll-Json x)) ≡ level_in_order x
by_level Json-F.Null = ap (λ (j : Json). out-Json (sorted_members j)) json.rolls-Null ∙ json.outs-Null
by_level (Json-F.Bool b) = ap (λ (j : Json). out-Json (sorted_members j)) (json.rolls-Bool b) ∙ json.outs-Bool b
by_level (Json-F.Int n) = ap (λ (j : Json). out-Json (sorted_members j)) (json.rolls-Int n) ∙ json.outs-Int n
by_level (Json-F.Text t) = ap (λ (j : Json). out-Json (sorted_members j)) (json.rolls-Text t) ∙ json.outs-Text t
by_level (Json-F.List js) = ap (λ (j : Json). out-Json (sorted_members j)) (json.rolls-List js) ∙ ap out-Json (sorted-List js) ∙ json.outs-List (map sorted_members js)
by_level (Json-F.Object ms) =
    ap (λ (j : Json). out-Json (sorted_members j)) (json.rolls-Object ms) ∙ ap out-Json (sorted-Object ms) ∙ json.outs-Object (in_order_after [] (map sorted_member ms))

pub level_sorted : (j : Json) → out-Json (sorted_members j) ≡ level_in_order (out-Json j)
level_sorted j = ap (λ (i : Json). out-Json (sorted_members i)) (sym (roll-out-Json j)) ∙ by_level (out-Json j)
