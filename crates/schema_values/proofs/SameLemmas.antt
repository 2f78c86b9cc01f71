-- The test of two values tells whether they are equal.
use Rattle.std.proofs.Common.{◌≡◌, ◌↔◌, IsTrue, Bool, true, ◌&&◌, List, ◌∷◌, bytes_eq, refl, sym, ap, ap₂, ◌∙◌, subst}
use Rattle.std.specs.Cmp.Derive.{both_true}
use Rattle.std.specs.Cmp.{booleans_Decides, signed_Decides}
use Rattle.std.proofs.lemmas.Bool.Decides.{same_from_decides}
use Rattle.std.proofs.lemmas.Slice.Eq.{bytes_eq-Decides}
use Rattle.schema_values.specs.declared.json_value.Json.{Json, Null, Bool as BoolOf, Int, Text, List as ListOf, Object, List', Object', Row_of-Json, end_of-Json, more_of-Json, Row_of-Member, end_of-Member, more_of-Member, items-the_row-Json, items-the_row-Member, items_shown-the_row-Json-0, items_shown-the_row-Member-1, roll-Json, roll-out-Json}
use Rattle.schema_values.specs.declared.json_value.Json.TheVariants.{rolls-List, outs-List', rolls-Object, outs-Object'}
use Rattle.schema_values.specs.declared.json_value.Member.{Member}
use Rattle.schema_values.specs.Member.{member}
use Rattle.schema_values.specs.Same.{same_json, same_items, same_members}
use Rattle.schema_values.proofs.Comparisons.{both, never}

list_is : (shape : _) (items : _) → List' shape items ≡ ListOf (items-the_row-Json _ items)
list_is shape items = sym (roll-out-Json (List' shape items)) ∙ ap roll-Json (outs-List' shape items) ∙ rolls-List _ ∙ ap ListOf (items_shown-the_row-Json-0 shape items)

object_is : (shape : _) (members : _) → Object' shape members ≡ Object (items-the_row-Member _ members)
object_is shape members = sym (roll-out-Json (Object' shape members)) ∙ ap roll-Json (outs-Object' shape members) ∙ rolls-Object _ ∙ ap Object (items_shown-the_row-Member-1 shape members)

mutual
  same_is : (json other : Json) → same_json json other ≡ true → json ≡ other
  same_is Null Null e = refl
  same_is Null (BoolOf c) e = never e
  same_is Null (Int m) e = never e
  same_is Null (Text u) e = never e
  same_is Null (List' form others) e = never e
  same_is Null (Object' form others) e = never e
  same_is (BoolOf b) Null e = never e
  same_is (BoolOf b) (BoolOf c) e = ap BoolOf ((booleans_Decides b c).0 e)
  same_is (BoolOf b) (Int m) e = never e
  same_is (BoolOf b) (Text u) e = never e
  same_is (BoolOf b) (List' form others) e = never e
  same_is (BoolOf b) (Object' form others) e = never e
  same_is (Int n) Null e = never e
  same_is (Int n) (BoolOf c) e = never e
  same_is (Int n) (Int m) e = ap Int ((signed_Decides n m).0 e)
  same_is (Int n) (Text u) e = never e
  same_is (Int n) (List' form others) e = never e
  same_is (Int n) (Object' form others) e = never e
  same_is (Text t) Null e = never e
  same_is (Text t) (BoolOf c) e = never e
  same_is (Text t) (Int m) e = never e
  same_is (Text t) (Text u) e = ap Text ((bytes_eq-Decides t u).0 e)
  same_is (Text t) (List' form others) e = never e
  same_is (Text t) (Object' form others) e = never e
  same_is (List' shape items) Null e = never e
  same_is (List' shape items) (BoolOf c) e = never e
  same_is (List' shape items) (Int m) e = never e
  same_is (List' shape items) (Text u) e = never e
  same_is (List' shape items) (List' form others) e = list_is shape items ∙ ap ListOf (items_same _ _ items others e) ∙ sym (list_is form others)
  same_is (List' shape items) (Object' form others) e = never e
  same_is (Object' shape members) Null e = never e
  same_is (Object' shape members) (BoolOf c) e = never e
  same_is (Object' shape members) (Int m) e = never e
  same_is (Object' shape members) (Text u) e = never e
  same_is (Object' shape members) (List' form others) e = never e
  same_is (Object' shape members) (Object' form others) e = object_is shape members ∙ ap Object (members_same _ _ members others e) ∙ sym (object_is form others)

  items_same : (m n : _) (items : Row_of-Json m) (others : Row_of-Json n) → same_items items others ≡ true → items-the_row-Json m items ≡ items-the_row-Json n others
  items_same m n end_of-Json end_of-Json e = refl
  items_same m n end_of-Json (more_of-Json other others) e = never e
  items_same m n (more_of-Json item rest) end_of-Json e = never e
  items_same m n (more_of-Json item rest) (more_of-Json other others) e =
      let b = both (same_json item other) (same_items rest others) e in
      ap₂ (λ (a : Json) (l : List Json). a ∷ l) (same_is item other b.0) (items_same _ _ rest others b.1)

  members_same : (m n : _) (members : Row_of-Member m) (others : Row_of-Member n) → same_members members others ≡ true → items-the_row-Member m members ≡ items-the_row-Member n others
  members_same m n end_of-Member end_of-Member e = refl
  members_same m n end_of-Member (more_of-Member title other others) e = never e
  members_same m n (more_of-Member name value rest) end_of-Member e = never e
  members_same m n (more_of-Member name value rest) (more_of-Member title other others) e =
      let b = both (bytes_eq name title && same_json value other) (same_members rest others) e in
      let c = both (bytes_eq name title) (same_json value other) b.0 in
      ap₂ (λ (a : Member) (l : List Member). a ∷ l) (ap₂ member ((bytes_eq-Decides name title).0 c.0) (same_is value other c.1)) (members_same _ _ rest others b.1)

mutual
  itself : (json : Json) → same_json json json ≡ true
  itself Null = refl
  itself (BoolOf b) = (booleans_Decides b b).1 refl
  itself (Int n) = (signed_Decides n n).1 refl
  itself (Text t) = (bytes_eq-Decides t t).1 refl
  itself (List' shape items) = items_themselves _ items
  itself (Object' shape members) = members_themselves _ members

  items_themselves : (n : _) (items : Row_of-Json n) → same_items items items ≡ true
  items_themselves n end_of-Json = refl
  items_themselves n (more_of-Json item rest) = both_true (itself item) (items_themselves _ rest)

  members_themselves : (n : _) (members : Row_of-Member n) → same_members members members ≡ true
  members_themselves n end_of-Member = refl
  members_themselves n (more_of-Member name value rest) =
      both_true (both_true ((bytes_eq-Decides name name).1 refl) (itself value)) (members_themselves _ rest)

pub same-decides : (json other : Json) → IsTrue (same_json json other) ↔ (json ≡ other)
same-decides json other = (same_is json other, λ e. subst (λ k. same_json json k ≡ true) e (itself json))

-- what answers whether two values are equal answers as the test does
pub same_told : (json other : Json) (b : Bool) → (IsTrue b ↔ (json ≡ other)) → b ≡ same_json json other
same_told json other b told = same_from_decides b (same_json json other) told (same-decides json other)
