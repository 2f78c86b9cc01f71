-- What is made of a value, by one step on its level.
use Rattle.std.proofs.Common.{◌≡◌, List, [], ◌∷◌, map, refl, sym, ap, ap₂, ◌∙◌, subst}
use Rattle.schema_values.specs.declared.json_value.Json.{Json, List as ListOf, Object, out-Json, roll-Json, out-roll-Json}
use Rattle.schema_values.specs.declared.json_value.Json.TheFolds.{fold-Json, fold-Member, fold_out-Json, fold_out-Member, ind-Json, map-Json}
use Rattle.schema_values.specs.declared.json_value.Json.TheOpen.{Json-F, Member-F}
use Rattle.schema_values.specs.declared.json_value.Json.TheVariants.{rolls-Null, rolls-Bool, rolls-Int, rolls-Text, rolls-List, rolls-Object}
use Rattle.schema_values.specs.declared.json_value.Member.{Member}
use Rattle.schema_values.specs.Beside.{Beside, MemberBeside, LevelBeside, value_beside, member_beside, value_of_level, same_member, level_beside, made_of, beside_with, member_with, level_with}

module _ {X : Type 0} (step : Json → LevelBeside X → X) where
  abbrev folded : Json → Beside X
  folded = fold-Json (Beside X) (MemberBeside X) (level_beside step) same_member

  abbrev folded_member : Member → MemberBeside X
  folded_member = fold-Member (Beside X) (MemberBeside X) (level_beside step) same_member

  abbrev IsItself : Json → Type 0
  IsItself json = (folded json).value ≡ json

  abbrev Known : Type 0
  Known = (json : Json) × IsItself json

  abbrev KnownMember : Type 0
  KnownMember = (member : Member) × IsItself member.value

  abbrev plain : Json-F Known KnownMember → Json-F Json Member
  plain = map-Json Known KnownMember Json Member (λ e. e.0) (λ e. e.0)

  member_by_fold : (m : Member) → folded_member m ≡ record { name = m.name; value = folded m.value }
  member_by_fold m = fold_out-Member (Beside X) (MemberBeside X) (level_beside step) same_member m

  items_themselves : (es : List Known) → map value_beside (map folded (map (λ e. e.0) es)) ≡ map (λ e. e.0) es
  items_themselves [] = refl
  items_themselves (e ∷ es) = ap₂ (λ (a : Json) (l : List Json). a ∷ l) e.1 (items_themselves es)

  members_themselves : (es : List KnownMember) → map member_beside (map folded_member (map (λ e. e.0) es)) ≡ map (λ e. e.0) es
  members_themselves [] = refl
  members_themselves (e ∷ es) =
      ap₂ (λ (a : Member) (l : List Member). a ∷ l)
      (ap member_beside (member_by_fold e.0) ∙ ap (λ (j : Json). record { name = e.0.name; value = j }) e.1)
      (members_themselves es)

  level_itself : (y : Json-F Known KnownMember) → value_of_level (map-Json Json Member (Beside X) (MemberBeside X) folded folded_member (plain y)) ≡ roll-Json (plain y)
  level_itself Json-F.Null = sym rolls-Null
  level_itself (Json-F.Bool b) = sym (rolls-Bool b)
  level_itself (Json-F.Int n) = sym (rolls-Int n)
  level_itself (Json-F.Text t) = sym (rolls-Text t)
  level_itself (Json-F.List es) = ap ListOf (items_themselves es) ∙ sym (rolls-List _)
  level_itself (Json-F.Object es) = ap Object (members_themselves es) ∙ sym (rolls-Object _)

  by_fold : (json : Json) → folded json ≡ level_beside step (map-Json Json Member (Beside X) (MemberBeside X) folded folded_member (out-Json json))
  by_fold json = fold_out-Json (Beside X) (MemberBeside X) (level_beside step) same_member json

  at_roll : (y : Json-F Known KnownMember) → IsItself (roll-Json (plain y))
  at_roll y =
      ap value_beside (by_fold (roll-Json (plain y)))
      ∙ ap (λ (z : Json-F Json Member). value_of_level (map-Json Json Member (Beside X) (MemberBeside X) folded folded_member z)) (out-roll-Json (plain y))
      ∙ level_itself y

  itself : (json : Json) → IsItself json
  itself = ind-Json IsItself (λ m. IsItself m.value) (λ x y is. subst (λ (z : Json-F Json Member). IsItself (roll-Json z)) is (at_roll y)) (λ x y is. subst (λ (z : Member-F Json Member). IsItself z.value) is y.value.1)

  beside_is : (json : Json) → folded json ≡ beside_with (made_of step) json
  unfolding made_of
  beside_is json = ap (λ (value : Json). record { value = value; made = (folded json).made }) (itself json)

  members_are : (ms : List Member) → map folded_member ms ≡ map (member_with (made_of step)) ms
  members_are [] = refl
  members_are (m ∷ ms) =
      ap₂ (λ (a : MemberBeside X) (l : List (MemberBeside X)). a ∷ l)
      (member_by_fold m ∙ ap (λ (x : Beside X). record { name = m.name; value = x }) (beside_is m.value))
      (members_are ms)

  items_are : (xs : List Json) → map folded xs ≡ map (beside_with (made_of step)) xs
  items_are [] = refl
  items_are (x ∷ xs) = ap₂ (λ (a : Beside X) (l : List (Beside X)). a ∷ l) (beside_is x) (items_are xs)

  level_is : (x : Json-F Json Member) → map-Json Json Member (Beside X) (MemberBeside X) folded folded_member x ≡ level_with (made_of step) x
  level_is Json-F.Null = refl
  level_is (Json-F.Bool b) = refl
  level_is (Json-F.Int n) = refl
  level_is (Json-F.Text t) = refl
  level_is (Json-F.List xs) = ap Json-F.List (items_are xs)
  level_is (Json-F.Object ms) = ap Json-F.Object (members_are ms)

  -- what is made of a value is what the step makes of it and of its level, where each smaller value stands beside what is made of it
  pub made-out : (json : Json) → made_of step json ≡ step json (level_with (made_of step) (out-Json json))
  unfolding made_of
  made-out json =
      let level = map-Json Json Member (Beside X) (MemberBeside X) folded folded_member (out-Json json) in
      let value : value_of_level level ≡ json = ap value_beside (sym (by_fold json)) ∙ itself json in
      ap (λ (x : Beside X). x.made) (by_fold json) ∙ ap₂ step value (level_is (out-Json json))
