-- Whether lists, structs and choices denote a tree, by whether their parts do.
use Rattle.std.proofs.Common.{◌≡◌, ℕ, ◌+◌, Bool, true, false, ◌&&◌, ◌||◌, not, List, [], ◌∷◌, map, filter, length, Option, Some, None, is_none, is_ok, cond, refl, sym, ◌∙◌, ap}
use Rattle.std.proofs.Math.Bool.{and-true, and-false}
use Rattle.std.specs.List.{list_all, list_any}
use Rattle.std.specs.declared.result.Result.{Result}
use Rattle.std.specs.declared.result.Result.TheVariants.{Ok, Err}
use Rattle.schema_values.specs.declared.json_value.Json.{Json}
use Rattle.schema_values.specs.declared.json_value.Member.{Member}
use Rattle.descriptors.specs.declared.desc.Desc.{Desc}
use Rattle.descriptors.specs.declared.desc.Field.{Field}
use Rattle.descriptors.specs.declared.tree.Tree.{Tree, List as Items, Map as Entries, Fields as Parts}
use Rattle.typed_values.specs.declared.fault.FaultKind.TheVariants.{BadLength}
use Rattle.typed_values.specs.declared.fault.Place.TheVariants.{Name}
use Rattle.typed_values.specs.Bounds.{is_length_within}
use Rattle.typed_values.specs.Faults.{Trouble}
use Rattle.typed_values.specs.Denotes.{Told, below, just, and_rest, and_then, all_told, as_tree, as_pair, entries_told, if_holds, is_declared, least_with, least_name, denied_name, member_name, unless_denied, or_else, first_told, items_told}
use Rattle.schema_values.specs.Order.{sorted_by}

pub ok_below : (place : _) (told : Told) → is_ok (below place told) ≡ is_ok told
ok_below place (Ok tree) = refl
ok_below place (Err trouble) = refl

pub ok_just : (told : Told) → is_ok (just told) ≡ is_ok told
ok_just (Ok tree) = refl
ok_just (Err trouble) = refl

ok_pair : (key : List ℕ) (told : Told) → is_ok (as_pair key told) ≡ is_ok told
ok_pair key (Ok tree) = refl
ok_pair key (Err trouble) = refl

module _ {T : Type 0} where
  ok_rest : (part : T) (rest : Result (List T) Trouble) → is_ok (and_rest part rest) ≡ is_ok rest
  ok_rest part (Ok parts) = refl
  ok_rest part (Err trouble) = refl

  ok_then : (told : Result T Trouble) (rest : Result (List T) Trouble) → is_ok (and_then told rest) ≡ (is_ok told && is_ok rest)
  ok_then (Ok part) rest = ok_rest part rest
  ok_then (Err trouble) rest = refl

  ok_tree : (node : List T → Tree) (parts : Result (List T) Trouble) → is_ok (as_tree node parts) ≡ is_ok parts
  ok_tree node (Ok parts) = refl
  ok_tree node (Err trouble) = refl

module _ {X T : Type 0} (told : ℕ → X → Result T Trouble) (denotes : X → Bool) (same : (i : ℕ) (x : X) → is_ok (told i x) ≡ denotes x) where
  pub ok_all : (i : ℕ) (xs : List X) → is_ok (all_told told i xs) ≡ list_all denotes xs
  ok_all i [] = refl
  ok_all i (x ∷ xs) = ok_then (told i x) (all_told told (i + 1) xs) ∙ ap (λ (b : Bool). b && is_ok (all_told told (i + 1) xs)) (same i x) ∙ ap (λ (b : Bool). denotes x && b) (ok_all (i + 1) xs)

module _ {X : Type 0} (told : ℕ → X → Told) (denotes : X → Bool) (same : (i : ℕ) (x : X) → is_ok (told i x) ≡ denotes x) where
  pub ok_items : (min max : Option ℕ) (xs : List X) → is_ok (items_told told min max xs) ≡ (list_all denotes xs && is_length_within min max (length xs))
  ok_items min max xs = by_length (is_length_within min max (length xs)) ∙ ap (λ (b : Bool). b && is_length_within min max (length xs)) (ok_tree _ (all_told told 0 xs) ∙ ok_all told denotes same 0 xs)
    where
      by_length : (b : Bool) → is_ok (if_holds b BadLength (as_tree Items (all_told told 0 xs))) ≡ (is_ok (as_tree Items (all_told told 0 xs)) && b)
      by_length true = sym (and-true _)
      by_length false = sym (and-false _)

-- a map denotes something where each value does
pub ok_entries : (told : Json → Told) (ms : List Member) → is_ok (entries_told told ms) ≡ list_all (λ m. is_ok (told m.value)) (sorted_by member_name ms)
ok_entries told ms =
    ok_tree Entries (all_told (λ i m. as_pair m.name (below (Name m.name) (told m.value))) 0 (sorted_by member_name ms))
    ∙ ok_all (λ i m. as_pair m.name (below (Name m.name) (told m.value))) (λ m. is_ok (told m.value)) (λ i m. ok_pair m.name (below (Name m.name) (told m.value)) ∙ ok_below (Name m.name) (told m.value)) 0 (sorted_by member_name ms)

module _ (told : Desc → Told) where
  ok_else : (i : ℕ) (first rest : Told) → is_ok (or_else i first rest) ≡ (is_ok first || is_ok rest)
  ok_else i (Ok tree) rest = refl
  ok_else i (Err trouble) rest = refl

  pub ok_first : (i : ℕ) (ds : List Desc) → is_ok (first_told i told ds) ≡ list_any (λ d. is_ok (told d)) ds
  ok_first i [] = refl
  ok_first i (d ∷ ds) = ok_else i (told d) (first_told (i + 1) told ds) ∙ ap (λ (b : Bool). is_ok (told d) || b) (ok_first (i + 1) ds)

some_least : (name : List ℕ) (o : Option (List ℕ)) → is_none (least_with name o) ≡ false
some_least name None = refl
some_least name (Some other) = refl

-- no name is denied where each is declared
none_denied : (fs : List Field) (ms : List Member) → is_none (least_name (filter (λ name. not (is_declared fs name)) (map member_name ms))) ≡ list_all (λ m. is_declared fs m.name) ms
none_denied fs [] = refl
none_denied fs (m ∷ ms) = by_name (is_declared fs m.name) (none_denied fs ms)
  where
    by_name : (b : Bool) → is_none (least_name (filter (λ name. not (is_declared fs name)) (map member_name ms))) ≡ list_all (λ m. is_declared fs m.name) ms
        → is_none (least_name (cond (not b) (m.name ∷ filter (λ name. not (is_declared fs name)) (map member_name ms)) (filter (λ name. not (is_declared fs name)) (map member_name ms)))) ≡ (b && list_all (λ m. is_declared fs m.name) ms)
    by_name true e = e
    by_name false e = some_least m.name _

pub denied_is : (deny : Bool) (fs : List Field) (ms : List Member) → is_none (denied_name deny fs ms) ≡ (not deny || list_all (λ m. is_declared fs m.name) ms)
denied_is true fs ms = none_denied fs ms
denied_is false fs ms = refl

ok_unless : (name : Option (List ℕ)) (told : Told) → is_ok (unless_denied name told) ≡ (is_ok told && is_none name)
ok_unless None (Ok tree) = refl
ok_unless None (Err trouble) = refl
ok_unless (Some name) (Ok tree) = refl
ok_unless (Some name) (Err trouble) = refl

pub ok_struct : (deny : Bool) (fs : List Field) (ms : List Member) (trees : Result (List Tree) Trouble)
    → is_ok (unless_denied (denied_name deny fs ms) (as_tree Parts trees)) ≡ (is_ok trees && (not deny || list_all (λ m. is_declared fs m.name) ms))
ok_struct deny fs ms trees =
    ok_unless (denied_name deny fs ms) (as_tree Parts trees) ∙ ap (λ (b : Bool). b && is_none (denied_name deny fs ms)) (ok_tree Parts trees) ∙ ap (λ (b : Bool). is_ok trees && b) (denied_is deny fs ms)
