-- How the steps left are counted, from one level, and how one is taken.
use Rattle.std.proofs.Common.{◌≡◌, ℕ, suc, ◌+◌, List, [], ◌∷◌, map, sum, Bor, refl, sym, ap, ◌∙◌, arith}
use Rattle.std.proofs.lemmas.List.Sums.{sum_by-cons}
use Rattle.schema_values.specs.declared.json_value.Json.{Json, out-Json}
use Rattle.schema_values.specs.declared.json_value.Member.{Member}
use Rattle.openapi_values.specs.declared.admits.Admitter.{Admitter}
use Rattle.openapi_values.specs.declared.room.Steps.{Steps, out-Steps}
use Rattle.openapi_values.specs.declared.room.Steps.TheOpen.{Steps-F}
use Rattle.openapi_values.specs.declared.room.Steps.TheFolds.{fold_out-Steps, map-Steps}
use Rattle.openapi_values.specs.declared.room.Steps.TheVariants.{End, Items, Members, outs-End, outs-Items, outs-Members}
use Rattle.openapi_values.specs.Admitter.{room_at}
use Rattle.openapi_values.specs.JsonAdmits.{admits_within, schema_admits}
use Rattle.openapi_values.specs.Room.{values}
use Rattle.openapi_values.specs.Smaller.{smaller_admits}
use Rattle.openapi_values.specs.Steps.{left_at, left}
use Rattle.openapi_values.specs.ValuesOfMembers.{member_values}
use Rattle.openapi_values.proofs.Steps.{admits-suc}

abbrev row : Steps-F Steps → ℕ
row Steps-F.End = 0
row (Steps-F.Items first later after) = values first.now + sum (map values later.now) + left after.now
row (Steps-F.Members first later after) = member_values first.now + sum (map member_values later.now) + left after.now

row_by_fold : (x : Steps-F Steps) → left_at (map-Steps Steps ℕ left x) ≡ row x
row_by_fold Steps-F.End = refl
row_by_fold (Steps-F.Items first later after) = refl
row_by_fold (Steps-F.Members first later after) = refl

left_is : (s : Steps) → left s ≡ row (out-Steps s)
unfolding left
left_is s = fold_out-Steps ℕ left_at s ∙ row_by_fold (out-Steps s)

pub left_end : left End ≡ 0
left_end = left_is End ∙ ap row outs-End

pub left_items : (first : Bor Json) (later : Bor (List Json)) (after : Bor Steps) → left (Items first later after) ≡ sum (map values (first.now ∷ later.now)) + left after.now
left_items first later after = omega (arith, left_is (Items first later after) ∙ ap row (outs-Items first later after), sum_by-cons (λ n. n) (values first.now) (map values later.now))

pub left_members : (first : Bor Member) (later : Bor (List Member)) (after : Bor Steps) → left (Members first later after) ≡ sum (map member_values (first.now ∷ later.now)) + left after.now
left_members first later after =
    omega (arith, left_is (Members first later after) ∙ ap row (outs-Members first later after), sum_by-cons (λ n. n) (member_values first.now) (map member_values later.now))

-- once the first value is passed, a step fewer is left
pub items_passed : (s : Steps) (first : Bor Json) (later : Bor (List Json)) (after : Bor Steps) (beside inside : ℕ)
    → s ≡ Items first later after → beside ≡ sum (map values later.now) + left after.now → suc inside ≡ values first.now + beside → suc inside ≡ left s
items_passed s first later after beside inside is e f =
    omega (arith, ap left is, e, f, left_items first later after, sum_by-cons (λ n. n) (values first.now) (map values later.now))

pub members_passed : (s : Steps) (first : Bor Member) (later : Bor (List Member)) (after : Bor Steps) (beside inside : ℕ)
    → s ≡ Members first later after → beside ≡ sum (map member_values later.now) + left after.now → suc inside ≡ member_values first.now + beside → suc inside ≡ left s
members_passed s first later after beside inside is e f =
    omega (arith, ap left is, e, f, left_members first later after, sum_by-cons (λ n. n) (member_values first.now) (map member_values later.now))

-- one step of a schema, where so many are left
pub one_step : (a : Admitter) (j : Json) (n steps : ℕ) (s : Json) → suc n ≡ steps
    → schema_admits a.doc.now (smaller_admits a.doc.now (room_at a)) (admits_within a.doc.now (room_at a) j n) j (out-Json j) s ≡ admits_within a.doc.now (room_at a) j steps s
one_step a j n steps s more = sym (admits-suc a.doc.now (room_at a) j n s) ∙ ap (λ (m : ℕ). admits_within a.doc.now (room_at a) j m s) more

-- the steps of one value
pub of_one : (j : Json) (items : List Json) (after n : ℕ) → items ≡ j ∷ [] → n ≡ sum (map values items) + after → n ≡ values j + after
of_one j items after n e f = omega (arith, f, ap (λ xs. sum (map values xs)) e, sum_by-cons (λ n. n) (values j) [])
