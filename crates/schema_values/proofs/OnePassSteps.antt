-- What is read in one pass, a turn at a time.
use Rattle.std.proofs.Common.{◌≡◌, ℕ, List, [], ◌∷◌, ◌++◌, Option, Some, None, option_map, option_and_then, refl, sym, ap, ◌∙◌, ℤ, pos, negsuc, SFits, arith}
use Rattle.std.specs.Int.{w128}
use Rattle.json.specs.Token.{Token}
use Rattle.json.specs.Json as tree
use Rattle.json.specs.Json.{parse_map}
use Rattle.serde_json.specs.Data.{Members, array, object, no_members, put}
use Rattle.serde_json.specs.Read.{of_json, of_items, of_members}
use Rattle.schema_values.specs.declared.json_value.Json.{Json, List as ListOf, Object}
use Rattle.schema_values.specs.declared.json_value.Member.{Member}
use Rattle.schema_values.specs.Reading.{json_of, items_of, members_of}
use Rattle.schema_values.specs.Sound.{IsWhole}
use Rattle.schema_values.proofs.Grammar.{below_63, below_64}
use Rattle.schema_values.proofs.Options.{chained}

-- a whole number of 64 bits fits 128
pub fits_wide : (n : ℤ) → IsWhole n → SFits w128 n
fits_wide (pos n) h = let low = below_64 n h in omega arith
fits_wide (negsuc n) h = let low = below_63 n h in omega arith

-- the tree is read as this value
abbrev pub IsReadAs : tree.Json → Json → Type 0
IsReadAs j json = option_and_then json_of (of_json j) ≡ Some json

pub array_read : (js : tree.Items) (xs : List Json) → option_and_then items_of (of_items js) ≡ Some xs → IsReadAs (tree.array js) (ListOf xs)
array_read js xs e =
    let told = chained items_of (of_items js) xs e in
    ap (λ o. option_and_then json_of (option_map array o)) told.1 ∙ ap (option_map ListOf) told.2

pub object_read : (ms : tree.Members) (xs : List Member) → option_and_then members_of (of_members ms no_members) ≡ Some xs → IsReadAs (tree.object ms) (Object xs)
object_read ms xs e =
    let told = chained members_of (of_members ms no_members) xs e in
    ap (λ o. option_and_then json_of (option_map object o)) told.1 ∙ ap (option_map Object) told.2

pub unmapped : {A : Type 0} (r : Option (A × List Token)) → r ≡ parse_map (λ a. a) r
unmapped None = refl
unmapped (Some p) = refl

-- ---- items

abbrev pub items_before : List tree.Json → tree.Items → tree.Items
items_before [] rest = rest
items_before (j ∷ js) rest = tree.item j (items_before js rest)

items_push : (js : List tree.Json) (j : tree.Json) (rest : tree.Items) → items_before js (tree.item j rest) ≡ items_before (js ++ j ∷ []) rest
items_push [] j rest = refl
items_push (i ∷ js) j rest = ap (tree.item i) (items_push js j rest)

pub one_more_item : (js : List tree.Json) (j : tree.Json) (r : Option (tree.Items × List Token)) → parse_map (items_before js) (parse_map (tree.item j) r) ≡ parse_map (items_before (js ++ j ∷ [])) r
one_more_item js j None = refl
one_more_item js j (Some p) = ap (λ is. Some (is, p.1)) (items_push js j p.0)

abbrev pub AreReadAs : List tree.Json → List Json → Type 0
AreReadAs [] [] = Unit {0}
AreReadAs [] (x ∷ xs) = ⊥
AreReadAs (j ∷ js) [] = ⊥
AreReadAs (j ∷ js) (x ∷ xs) = IsReadAs j x × AreReadAs js xs

pub AreReadAs-push : (js : List tree.Json) (xs : List Json) (j : tree.Json) (x : Json) → AreReadAs js xs → IsReadAs j x → AreReadAs (js ++ j ∷ []) (xs ++ x ∷ [])
AreReadAs-push [] [] j x h e = (e, tt)
AreReadAs-push [] (y ∷ xs) j x h e = absurd h
AreReadAs-push (i ∷ js) [] j x h e = absurd h
AreReadAs-push (i ∷ js) (y ∷ xs) j x h e = (h.0, AreReadAs-push js xs j x h.1 e)

pub items_read : (js : List tree.Json) (xs : List Json) → AreReadAs js xs → option_and_then items_of (of_items (items_before js tree.no_items)) ≡ Some xs
items_read [] [] h = refl
items_read [] (x ∷ xs) h = absurd h
items_read (j ∷ js) [] h = absurd h
items_read (j ∷ js) (x ∷ xs) h =
    let first = chained json_of (of_json j) x h.0 in
    let rest = chained items_of (of_items (items_before js tree.no_items)) xs (items_read js xs h.1) in
    rw (first.1, rest.1) (rw (first.2, rest.2))

-- ---- members

abbrev pub members_before : List (List ℕ × tree.Json) → tree.Members → tree.Members
members_before [] rest = rest
members_before (m ∷ ms) rest = tree.member m.0 m.1 (members_before ms rest)

members_push : (ms : List (List ℕ × tree.Json)) (m : List ℕ × tree.Json) (rest : tree.Members) → members_before (ms ++ m ∷ []) rest ≡ members_before ms (tree.member m.0 m.1 rest)
members_push [] m rest = refl
members_push (n ∷ ms) m rest = ap (tree.member n.0 n.1) (members_push ms m rest)

pub one_more_member : (ms : List (List ℕ × tree.Json)) (m : List ℕ × tree.Json) (r : Option (tree.Members × List Token)) → parse_map (members_before ms) (parse_map (tree.member m.0 m.1) r) ≡ parse_map (members_before (ms ++ m ∷ [])) r
one_more_member ms m None = refl
one_more_member ms m (Some p) = ap (λ is. Some (is, p.1)) (sym (members_push ms m p.0))

-- the members so far are put together as these
abbrev pub ArePut : List (List ℕ × tree.Json) → Members → Type 0
ArePut ms found = (rest : tree.Members) → of_members (members_before ms rest) no_members ≡ of_members rest found

pub ArePut-push : (ms : List (List ℕ × tree.Json)) (found : Members) (k : List ℕ) (j : tree.Json) (d : _) → ArePut ms found → of_json j ≡ Some d → ArePut (ms ++ (k, j) ∷ []) (put k d found)
ArePut-push ms found k j d h e rest =
    ap (λ is. of_members is no_members) (members_push ms (k, j) rest) ∙ h (tree.member k j rest)
    ∙ ap (λ o. option_and_then (λ d. of_members rest (put k d found)) o) e
