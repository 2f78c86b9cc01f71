-- What the written parts of an array ask of a list.
use Rattle.std.proofs.Common.{◌≡◌, Bool, ◌&&◌, List, [], ◌∷◌, Option, Some, option_map, length, refl, sym, ◌∙◌, ap, ap₂}
use Rattle.std.proofs.Math.Bool.{and-true}
use Rattle.std.specs.List.{list_all, AllByRecursion}
use Rattle.schema_values.specs.declared.json_value.Json.{Json}
use Rattle.schema_values.specs.declared.json_value.Json.TheOpen.{Json-F}
use Rattle.schema_values.specs.declared.json_value.Member.{Member}
use Rattle.schema_values.specs.declared.schema.ArrayParts.{ArrayParts}
use Rattle.schema_values.specs.declared.schema.Items.{Items, out-Items}
use Rattle.schema_values.specs.declared.schema.Items.TheOpen.{Items-F}
use Rattle.schema_values.specs.declared.schema.Schema.{Schema}
use Rattle.openapi_values.specs.Keywords.{is_annotation, bound_or, part_of}
use Rattle.openapi_values.specs.Options.{is_none_or}
use Rattle.openapi_values.specs.Rows.{is_not_too_many}
use Rattle.openapi_values.specs.SchemaJson.{items_written, array_written, count_json}
use Rattle.openapi_values.proofs.CallerLemmas.{array-is}
use Rattle.schema_meaning.specs.Asked.{array_holds, items_hold, places_hold}
use Rattle.schema_meaning.specs.Forms.{ItemsLevel, items_by_form}
use Rattle.schema_meaning.proofs.Combined.{rows}
use Rattle.schema_meaning.proofs.TypeEntries.{least_part, most_part}
use Rattle.schema_meaning.proofs.WrittenLevels.{json_of, one-is}

module _ {X : Type 0} (smaller : X → Json → Bool) (means : X → Schema → Bool) where
  -- the schema means of each of some smaller values what it is written as
  abbrev pub MeansOf : Schema → List X → Type 0
  MeansOf s = AllByRecursion (λ x. smaller x (json_of s) ≡ means x s)

  items_mean : (s : Schema) (xs : List X) → MeansOf s xs → list_all (λ x. smaller x (json_of s)) xs ≡ list_all (λ x. means x s) xs
  items_mean s [] h = refl
  items_mean s (x ∷ xs) h = ap₂ (λ (a b : Bool). a && b) h.0 (items_mean s xs h.1)

  module _ (next : Json → Bool) (value : Json) (schema : List Member) where
    pub array_part : (xs : List X) (a : ArrayParts) (i : Items) (s : Schema) → a.items ≡ Some i → out-Items i ≡ Items-F.One s → MeansOf s xs
        → rows smaller next value (Json-F.List xs) schema (array_written a) ≡ array_holds means xs a
    unfolding is_annotation bound_or part_of
    array_part xs a i s e f h =
        ap (rows smaller next value (Json-F.List xs) schema) (array-is a)
        ∙ ap₂ (λ (x y : Bool). x && y)
        (ap (λ (o : Option Items). is_none_or (option_map items_written o) (λ v. list_all (λ x. smaller x v) xs)) e
        ∙ ap (λ (v : Json). list_all (λ x. smaller x v) xs) (one-is i s f)
        ∙ items_mean s xs h
        ∙ ap (λ (z : ItemsLevel). items_by_form (λ s. list_all (λ x. means x s) xs) (λ ss. places_hold means ss xs) z) (sym f)
        ∙ ap (λ (o : Option Items). is_none_or o (items_hold means xs)) (sym e))
        (ap₂ (λ (x y : Bool). x && y) (least_part a.min (length xs)) (and-true (is_none_or (count_json a.max) (is_not_too_many (length xs))) ∙ most_part a.max (length xs)))
