-- What holds of each JSON value that it holds of the parts of.
use Rattle.std.proofs.Common.{List, [], ◌∷◌, map, sym, subst}
use Rattle.std.specs.List.{AllByRecursion}
use Rattle.std.specs.Prelude.{⊤}
use Rattle.schema_values.specs.declared.json_value.Json.{Json, out-Json}
use Rattle.schema_values.specs.declared.json_value.Json.TheFolds.{ind-Json, map-Json}
use Rattle.schema_values.specs.declared.json_value.Json.TheOpen.{Json-F, Member-F}
use Rattle.schema_values.specs.declared.json_value.Json.TheViews.{roll-Json, out-roll-Json}
use Rattle.schema_values.specs.declared.json_value.Member.{Member}

module _ (P : Json → Type 0) where
  abbrev pub OfParts : Json-F Json Member → Type 0
  OfParts (Json-F.List js) = AllByRecursion P js
  OfParts (Json-F.Object ms) = AllByRecursion (λ m. P m.value) ms
  OfParts _ = ⊤

  abbrev Item : Type 0
  Item = (j : Json) × P j

  abbrev Entry : Type 0
  Entry = (m : Member) × P m.value

  abbrev plain : Json-F Item Entry → Json-F Json Member
  plain = map-Json Item Entry Json Member (λ e. e.0) (λ e. e.0)

  of_items : (es : List Item) → AllByRecursion P (map (λ e. e.0) es)
  of_items [] = tt
  of_items (e ∷ es) = (e.1, of_items es)

  of_members : (es : List Entry) → AllByRecursion (λ (m : Member). P m.value) (map (λ e. e.0) es)
  of_members [] = tt
  of_members (e ∷ es) = (e.1, of_members es)

  of_parts : (y : Json-F Item Entry) → OfParts (plain y)
  of_parts Json-F.Null = tt
  of_parts (Json-F.Bool b) = tt
  of_parts (Json-F.Int i) = tt
  of_parts (Json-F.Text w) = tt
  of_parts (Json-F.List es) = of_items es
  of_parts (Json-F.Object es) = of_members es

  module _ (step : (j : Json) → OfParts (out-Json j) → P j) where
    of_level : (y : Json-F Item Entry) → P (roll-Json (plain y))
    of_level y = step (roll-Json (plain y)) (subst OfParts (sym (out-roll-Json (plain y))) (of_parts y))

    pub by_parts : (j : Json) → P j
    by_parts = ind-Json P (λ m. P m.value) (λ x y is. subst (λ (z : Json-F Json Member). P (roll-Json z)) is (of_level y)) (λ x y is. subst (λ (z : Member-F Json Member). P z.value) is y.value.1)
