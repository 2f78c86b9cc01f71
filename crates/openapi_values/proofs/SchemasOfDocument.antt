-- The schemas of a document's components, and how many JSON values they have.
use Rattle.std.proofs.Common.{◌≡◌, ℕ, ◌+◌, ◌≤◌, Bool, true, false, List, [], ◌∷◌, map, sum, Option, Some, None, bytes_eq, cond, codes, refl, sym, ◌∙◌, ap, arith}
use Rattle.std.proofs.lemmas.List.Sums.{sum_by-cons}
use Rattle.schema_values.specs.declared.json_value.Json.{Json, out-Json}
use Rattle.schema_values.specs.declared.json_value.Json.TheOpen.{Json-F}
use Rattle.schema_values.specs.declared.json_value.Member.{Member}
use Rattle.schema_values.specs.Get.{get_of, first_named}
use Rattle.openapi_values.specs.Lookup.{member_in, definition}
use Rattle.openapi_values.specs.Room.{values}
use Rattle.openapi_values.specs.ValuesOfMembers.{member_values}
use Rattle.openapi_values.proofs.RoomLemmas.{values_is, values_row}

unfoldable pub total : List Member → ℕ
total ms = sum (map member_values ms)

pub total_cons : (m : Member) (ms : List Member) → total (m ∷ ms) ≡ values m.value + total ms
unfolding total
total_cons m ms = sum_by-cons (λ n. n) (member_values m) (map member_values ms)

-- the schemas of a document
abbrev members_at : Json-F Json Member → List Member
members_at (Json-F.Object ms) = ms
members_at _ = []

abbrev members_in : Option Json → List Member
members_in None = []
members_in (Some s) = members_at (out-Json s)

abbrev pub schemas_in : Json → List Member
schemas_in doc = members_in (member_in (get_of (codes "components") doc) (codes "schemas"))

got_at : (name : List ℕ) (s : Json) (x : Json-F Json Member) → out-Json s ≡ x → get_of name s ≡ first_named name (members_at x)
got_at name s Json-F.Null e = rw e refl
got_at name s (Json-F.Bool b) e = rw e refl
got_at name s (Json-F.Int i) e = rw e refl
got_at name s (Json-F.Text w) e = rw e refl
got_at name s (Json-F.List js) e = rw e refl
got_at name s (Json-F.Object ms) e = rw e refl

got_in : (name : List ℕ) (o : Option Json) → member_in o name ≡ first_named name (members_in o)
got_in name None = refl
got_in name (Some s) = got_at name s (out-Json s) refl

pub definition_found : (doc : Json) (name : List ℕ) → definition doc name ≡ first_named name (schemas_in doc)
definition_found doc name = got_in name (member_in (get_of (codes "components") doc) (codes "schemas"))

first_fits : (name : List ℕ) (ms : List Member) (v : Json) → first_named name ms ≡ Some v → values v ≤ total ms
first_fits name [] v f = absurd (cc f)
first_fits name (m ∷ ms) v f = by_name (bytes_eq name m.name) f (first_fits name ms v)
  where
    by_name : (b : Bool) → cond b (Some m.value) (first_named name ms) ≡ Some v → (first_named name ms ≡ Some v → values v ≤ total ms) → values v ≤ total (m ∷ ms)
    by_name true f later = let is : m.value ≡ v = cc f in omega (arith, ap values is, total_cons m ms)
    by_name false f later = omega (arith, total_cons m ms, later f)

members_fit : (s : Json) → total (members_at (out-Json s)) ≤ values s
unfolding total
members_fit s = rw (values_is s) (by_form (out-Json s))
  where
    by_form : (x : Json-F Json Member) → total (members_at x) ≤ values_row x
    by_form Json-F.Null = omega arith
    by_form (Json-F.Bool b) = omega arith
    by_form (Json-F.Int i) = omega arith
    by_form (Json-F.Text w) = omega arith
    by_form (Json-F.List js) = omega arith
    by_form (Json-F.Object ms) = omega arith

got_fits : (name : List ℕ) (s v : Json) → get_of name s ≡ Some v → values v ≤ values s
got_fits name s v f = omega (arith, first_fits name (members_at (out-Json s)) v (sym (got_at name s (out-Json s) refl) ∙ f), members_fit s)

schemas_fit_by : (doc : Json) (components schemas : Option Json) → get_of (codes "components") doc ≡ components → member_in components (codes "schemas") ≡ schemas → total (members_in schemas) ≤ values doc
unfolding total
schemas_fit_by doc components None e f = omega arith
schemas_fit_by doc None (Some s) e f = absurd (cc f)
schemas_fit_by doc (Some c) (Some s) e f = omega (arith, members_fit s, got_fits (codes "schemas") c s f, got_fits (codes "components") doc c e)

-- they are fewer than all values of the document
pub schemas_fit : (doc : Json) → total (schemas_in doc) ≤ values doc
schemas_fit doc = schemas_fit_by doc (get_of (codes "components") doc) (member_in (get_of (codes "components") doc) (codes "schemas")) refl refl
