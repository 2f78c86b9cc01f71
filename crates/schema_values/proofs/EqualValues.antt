-- The derived comparison of JSON values tells whether they are equal.
use Rattle.std.proofs.Common.{◌≡◌, ◌↔◌, IsTrue, ◌∙◌, Bool, true, map, bytes_eq, refl, sym, ap, subst}
use Rattle.std.proofs.lemmas.Slice.Eq.{bytes_eq-Decides}
use Rattle.std.specs.Bool.{beq}
use Rattle.std.specs.Cmp.{booleans_Decides, signed_Decides}
use Rattle.std.specs.Cmp.Lexicographic.{pointwise}
use Rattle.std.specs.Ordering.{int_eq}
use Rattle.schema_values.specs.contracts.json_value.Json.{enum}
use Rattle.schema_values.specs.contracts.json_value.JsonEq.TheImpl.Laws as json_equal
use Rattle.schema_values.specs.contracts.json_value.JsonPartialEq.TheImpl as json_test
use Rattle.schema_values.specs.contracts.json_value.JsonPartialEq.TheImpl.Laws as json_laws
use Rattle.schema_values.specs.contracts.json_value.MemberEq.TheImpl.Laws as member_equal
use Rattle.schema_values.specs.contracts.json_value.MemberPartialEq.TheImpl as member_test
use Rattle.schema_values.specs.contracts.json_value.MemberPartialEq.TheImpl.Laws as member_laws
use Rattle.schema_values.specs.declared.json_value.Json.{Json}
use Rattle.schema_values.specs.declared.json_value.Json.TheBlock.{split-Json, the_members, the_sigs, the_carrier}
use Rattle.schema_values.specs.declared.json_value.Json.TheFolds.{ind-Json, ind-Member, map-Json, map-Member}
use Rattle.schema_values.specs.declared.json_value.Json.TheOpen.{Json-F, Member-F}
use Rattle.schema_values.specs.declared.json_value.Json.TheViews.{roll-Json, roll-Member, out-roll-Json}
use Rattle.schema_values.specs.declared.json_value.Member.{Member}
use Rattle.schema_values.proofs.Comparisons.{IsSameBy, SameFields, ◌⨾◌, both, same_each, same_value}
use denote.Enum.Compared.{Each}
use denote.Enum.Declared.{Choice}
use denote.Hole.Carrier.{Values as Held}

abbrev pub json_eq : Json → Json → Bool
json_eq = json_test.ghosts.eq

abbrev pub member_eq : Member → Member → Bool
member_eq = member_test.ghosts.eq

abbrev KnownJson : Type 0
KnownJson = (json : Json) × IsSameBy json_eq json

abbrev KnownMember : Type 0
KnownMember = (m : Member) × IsSameBy member_eq m

-- how two values of one variant are compared
abbrev each : Each Bool enum.parts
each = (λ a b. true) ⨾ (λ a b. beq a.0 b.0) ⨾ (λ a b. int_eq a.0 b.0) ⨾ (λ a b. bytes_eq a.0 b.0) ⨾ (λ a b. pointwise json_eq a.0 b.0)
    ⨾ (λ a b. pointwise member_eq a.0 b.0) ⨾ tt

abbrev parts_of : Json-F Json Member → Choice enum.parts
parts_of level = split-Json (Held the_members the_sigs the_carrier) level

same_level : (level : Json-F Json Member) → SameFields enum.parts each (parts_of level) → IsSameBy json_eq (roll-Json level)
same_level level same other e =
    same_value enum each (roll-Json level) other (parts_of level) (ap parts_of (out-roll-Json level)) same (sym (json_laws.is (roll-Json level) other) ∙ e)

row : (level : Json-F KnownJson KnownMember) → IsSameBy json_eq (roll-Json (map-Json KnownJson KnownMember Json Member (λ e. e.0) (λ e. e.0) level))
row Json-F.Null = same_level Json-F.Null (λ v e. refl)
row (Json-F.Bool b) = same_level (Json-F.Bool b) (λ v e. ap (λ c. (c, tt)) ((booleans_Decides b v.0).0 e))
row (Json-F.Int n) = same_level (Json-F.Int n) (λ v e. ap (λ c. (c, tt)) ((signed_Decides n v.0).0 e))
row (Json-F.Text t) = same_level (Json-F.Text t) (λ v e. ap (λ c. (c, tt)) ((bytes_eq-Decides t v.0).0 e))
row (Json-F.List items) = same_level (Json-F.List (map (λ e. e.0) items)) (λ v e. ap (λ c. (c, tt)) (same_each json_eq items v.0 e))
row (Json-F.Object members) = same_level (Json-F.Object (map (λ e. e.0) members)) (λ v e. ap (λ c. (c, tt)) (same_each member_eq members v.0 e))

member_row : (level : Member-F KnownJson KnownMember) → IsSameBy member_eq (roll-Member (map-Member KnownJson KnownMember Json Member (λ e. e.0) (λ e. e.0) level))
member_row level other e =
    let b = both (bytes_eq level.name other.name) (json_eq level.value.0 other.value) (sym (member_laws.is _ other) ∙ e) in
    λ i. record { name = (bytes_eq-Decides level.name other.name).0 b.0 i; value = level.value.1 other.value b.1 i }

at_json : (level : Json-F Json Member) (known : Json-F KnownJson KnownMember) → map-Json KnownJson KnownMember Json Member (λ e. e.0) (λ e. e.0) known ≡ level → IsSameBy json_eq (roll-Json level)
at_json level known is = subst (λ (l : Json-F Json Member). IsSameBy json_eq (roll-Json l)) is (row known)

at_member : (level : Member-F Json Member) (known : Member-F KnownJson KnownMember) → map-Member KnownJson KnownMember Json Member (λ e. e.0) (λ e. e.0) known ≡ level → IsSameBy member_eq (roll-Member level)
at_member level known is = subst (λ (l : Member-F Json Member). IsSameBy member_eq (roll-Member l)) is (member_row known)

pub json_eq-tells : (json other : Json) → IsTrue (json_eq json other) ↔ (json ≡ other)
json_eq-tells json other = (ind-Json (IsSameBy json_eq) (IsSameBy member_eq) at_json at_member json other, λ is. subst (λ (o : Json). json_eq json o ≡ true) is (json_equal.laws-law.refl json))

pub member_eq-tells : (m other : Member) → IsTrue (member_eq m other) ↔ (m ≡ other)
member_eq-tells m other = (ind-Member (IsSameBy json_eq) (IsSameBy member_eq) at_json at_member m other, λ is. subst (λ (o : Member). member_eq m o ≡ true) is (member_equal.laws-law.refl m))
