-- What holds of each descriptor, since it holds of one that is made of those of which it holds.
use Rattle.std.proofs.Common.{List, [], ◌∷◌, map, Option, Some, None, sym, ◌∙◌, subst, ℕ, MatchOption}
use Rattle.std.specs.List.{AllByRecursion}
use Rattle.std.specs.Prelude.{⊤}
use Rattle.descriptors.specs.declared.desc.Desc.{Desc}
use Rattle.descriptors.specs.declared.desc.Desc.TheFolds.{map-Desc, map-Variant, ind-Desc}
use Rattle.descriptors.specs.declared.desc.Desc.TheOpen.{Desc-F, Field-F, TaggedVariant-F, Variant-F}
use Rattle.descriptors.specs.declared.desc.Desc.TheViews.{roll-Desc}
use Rattle.descriptors.specs.declared.desc.Field.{Field}
use Rattle.descriptors.specs.declared.desc.TaggedVariant.{TaggedVariant, out-roll-TaggedVariant}
use Rattle.descriptors.specs.declared.desc.Variant.{Variant}
use Rattle.descriptors.specs.Definitions.{tagged_fields}
use Rattle.typed_values.specs.Levels.{DescLevel}

-- what holds of each item of a list of items of which it holds
pub each_holds : {X : Type 0} (P : X → Type 0) (es : List ((x : X) × P x)) → AllByRecursion P (map (λ e. e.0) es)
each_holds P [] = tt
each_holds P (e ∷ es) = (e.1, each_holds P es)

module _ (P : Desc → Type 0) where
  -- it holds of a field's type
  abbrev pub InField : Field → Type 0
  InField f = P f.desc

  -- it holds of the types of all fields
  abbrev pub InFields : List Field → Type 0
  InFields = AllByRecursion InField

  -- it holds of the types of a tagged variant's fields
  abbrev pub InTagged : TaggedVariant → Type 0
  InTagged v = InFields (tagged_fields v)

  -- it holds of a variant's payload, if it has one
  abbrev pub InVariant : Variant → Type 0
  InVariant v = MatchOption v.payload ⊤ P

  abbrev Known : Type 0
  Known = (d : Desc) × P d

  abbrev KnownField : Type 0
  KnownField = (f : Field) × InField f

  abbrev KnownTagged : Type 0
  KnownTagged = (v : TaggedVariant) × InTagged v

  abbrev KnownVariant : Type 0
  KnownVariant = (v : Variant) × InVariant v

  -- a level made of descriptors of which it holds
  abbrev pub KnownLevel : Type 0
  KnownLevel = Desc-F Known KnownField KnownTagged KnownVariant

  -- the level itself
  abbrev pub firsts : KnownLevel → DescLevel
  firsts = map-Desc Known KnownField KnownTagged KnownVariant Desc Field TaggedVariant Variant (λ e. e.0) (λ e. e.0) (λ e. e.0) (λ e. e.0)

  in_payload : (name : List ℕ) (description : Option (List ℕ)) (payload : Option Known) → MatchOption
      (map-Variant Known KnownField KnownTagged KnownVariant Desc Field TaggedVariant Variant (λ e. e.0) (λ e. e.0) (λ e. e.0) (λ e. e.0) (record { name = name; description = description; payload = payload })).payload
      ⊤ P
  in_payload name description None = tt
  in_payload name description (Some e) = e.1

  pub by_levels : ((y : KnownLevel) → P (roll-Desc (firsts y))) → (d : Desc) → P d
  by_levels step = ind-Desc P InField InTagged InVariant
      (λ x y is. subst (λ (z : DescLevel). P (roll-Desc z)) is (step y))
      (λ x y is. subst (λ (z : Field-F Desc Field TaggedVariant Variant). P z.desc) is y.desc.1)
      (λ x y is. subst (λ (z : TaggedVariant-F Desc Field TaggedVariant Variant). InFields z.fields) (is ∙ sym (out-roll-TaggedVariant x)) (each_holds InField y.fields))
      (λ x y is. subst (λ (z : Variant-F Desc Field TaggedVariant Variant). MatchOption z.payload ⊤ P) is (in_payload y.name y.description y.payload))
