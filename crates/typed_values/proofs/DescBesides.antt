-- What is made of a descriptor, by one step on its level.
use Rattle.std.proofs.Common.{◌≡◌, ℕ, List, [], ◌∷◌, map, Option, Some, None, refl, sym, ap, ap₂, ◌∙◌, MatchOption}
use Rattle.std.specs.Prelude.{⊤}
use Rattle.std.specs.List.{AllByRecursion}
use Rattle.std.specs.Option.{option_map}
use Rattle.descriptors.specs.declared.desc.Desc.{Desc, out-Desc, Option as OptionOf, List as ListOf, Map, Struct, External, Tagged, Untagged}
use Rattle.descriptors.specs.declared.desc.Desc.TheFolds.{fold-Desc, fold-Field, fold-TaggedVariant, fold-Variant, fold_out-Desc, fold_out-Field, fold_out-TaggedVariant, fold_out-Variant, map-Desc, map-Variant}
use Rattle.descriptors.specs.declared.desc.Desc.TheOpen.{Desc-F}
use Rattle.descriptors.specs.declared.desc.Desc.TheVariants.{rolls-Any, rolls-Never, rolls-Null, rolls-Bool, rolls-Char, rolls-Int, rolls-Text, rolls-Enumeration, rolls-Option, rolls-List, rolls-Map, rolls-Struct, rolls-External, rolls-Tagged, rolls-Untagged, rolls-Ref}
use Rattle.descriptors.specs.declared.desc.Desc.TheViews.{roll-Desc, out-roll-Desc}
use Rattle.descriptors.specs.declared.desc.Field.{Field}
use Rattle.descriptors.specs.declared.desc.TaggedVariant.{TaggedVariant, roll-TaggedVariant, roll-out-TaggedVariant}
use Rattle.descriptors.specs.declared.desc.Variant.{Variant}
use Rattle.descriptors.specs.Definitions.{tagged_description, tagged_fields, tagged_name}
use Rattle.typed_values.specs.DescBeside.{Beside, FieldBeside, TaggedBeside, VariantBeside, LevelBeside, desc_beside, field_beside, tagged_beside, variant_beside, desc_of_level, same_field, same_tagged, same_variant, level_beside, made_of, beside_with, field_with, tagged_with, variant_with, level_with}
use Rattle.typed_values.specs.Levels.{DescLevel}
use Rattle.typed_values.proofs.Induction.{InField, InFields, InTagged, InVariant, KnownLevel, firsts, by_levels, each_holds}

module _ {X : Type 0} (step : LevelBeside X → X) where
  abbrev folded : Desc → Beside X
  folded = fold-Desc (Beside X) (FieldBeside X) (TaggedBeside X) (VariantBeside X) (level_beside step) same_field same_tagged same_variant

  abbrev folded_field : Field → FieldBeside X
  folded_field = fold-Field (Beside X) (FieldBeside X) (TaggedBeside X) (VariantBeside X) (level_beside step) same_field same_tagged same_variant

  abbrev folded_tagged : TaggedVariant → TaggedBeside X
  folded_tagged = fold-TaggedVariant (Beside X) (FieldBeside X) (TaggedBeside X) (VariantBeside X) (level_beside step) same_field same_tagged same_variant

  abbrev folded_variant : Variant → VariantBeside X
  folded_variant = fold-Variant (Beside X) (FieldBeside X) (TaggedBeside X) (VariantBeside X) (level_beside step) same_field same_tagged same_variant

  abbrev folded_level : DescLevel → LevelBeside X
  folded_level = map-Desc Desc Field TaggedVariant Variant (Beside X) (FieldBeside X) (TaggedBeside X) (VariantBeside X) folded folded_field folded_tagged folded_variant

  -- ---- the fold, one level down

  by_fold : (d : Desc) → folded d ≡ level_beside step (folded_level (out-Desc d))
  by_fold d = fold_out-Desc (Beside X) (FieldBeside X) (TaggedBeside X) (VariantBeside X) (level_beside step) same_field same_tagged same_variant d

  field_by_fold : (f : Field) → folded_field f ≡ record { name = f.name; desc = folded f.desc; presence = f.presence; description = f.description }
  field_by_fold f = fold_out-Field (Beside X) (FieldBeside X) (TaggedBeside X) (VariantBeside X) (level_beside step) same_field same_tagged same_variant f

  tagged_by_fold : (v : TaggedVariant) → folded_tagged v ≡ record { name = tagged_name v; description = tagged_description v; fields = map folded_field (tagged_fields v) }
  tagged_by_fold v = fold_out-TaggedVariant (Beside X) (FieldBeside X) (TaggedBeside X) (VariantBeside X) (level_beside step) same_field same_tagged same_variant v

  by_payload : (name : List ℕ) (description : Option (List ℕ)) (payload : Option Desc) →
      same_variant (map-Variant Desc Field TaggedVariant Variant (Beside X) (FieldBeside X) (TaggedBeside X) (VariantBeside X) folded folded_field folded_tagged folded_variant (record { name = name; description = description; payload = payload }))
      ≡ record { name = name; description = description; payload = option_map folded payload }
  by_payload name description None = refl
  by_payload name description (Some d) = refl

  variant_by_fold : (v : Variant) → folded_variant v ≡ record { name = v.name; description = v.description; payload = option_map folded v.payload }
  variant_by_fold v =
      fold_out-Variant (Beside X) (FieldBeside X) (TaggedBeside X) (VariantBeside X) (level_beside step) same_field same_tagged same_variant v
      ∙ by_payload v.name v.description v.payload

  -- ---- a descriptor stands in the fold as itself

  abbrev IsItself : Desc → Type 0
  IsItself d = (folded d).desc ≡ d

  descs_themselves : (ds : List Desc) → AllByRecursion IsItself ds → map desc_beside (map folded ds) ≡ ds
  descs_themselves [] all = refl
  descs_themselves (d ∷ ds) all = ap₂ (λ (a : Desc) (l : List Desc). a ∷ l) all.0 (descs_themselves ds all.1)

  field_itself : (f : Field) → InField IsItself f → field_beside (folded_field f) ≡ f
  field_itself f is = ap field_beside (field_by_fold f) ∙ ap (λ (d : Desc). record f { desc = d }) is

  fields_themselves : (fs : List Field) → InFields IsItself fs → map field_beside (map folded_field fs) ≡ fs
  fields_themselves [] all = refl
  fields_themselves (f ∷ fs) all = ap₂ (λ (a : Field) (l : List Field). a ∷ l) (field_itself f all.0) (fields_themselves fs all.1)

  tagged_itself : (v : TaggedVariant) → InTagged IsItself v → tagged_beside (folded_tagged v) ≡ v
  tagged_itself v all =
      ap tagged_beside (tagged_by_fold v)
      ∙ ap (λ (fs : List Field). roll-TaggedVariant (record { name = tagged_name v; description = tagged_description v; fields = fs })) (fields_themselves (tagged_fields v) all)
      ∙ roll-out-TaggedVariant v

  tagged_themselves : (vs : List TaggedVariant) → AllByRecursion (InTagged IsItself) vs → map tagged_beside (map folded_tagged vs) ≡ vs
  tagged_themselves [] all = refl
  tagged_themselves (v ∷ vs) all = ap₂ (λ (a : TaggedVariant) (l : List TaggedVariant). a ∷ l) (tagged_itself v all.0) (tagged_themselves vs all.1)

  payload_itself : (payload : Option Desc) → MatchOption payload ⊤ IsItself → option_map desc_beside (option_map folded payload) ≡ payload
  payload_itself None is = refl
  payload_itself (Some d) is = ap Some is

  variant_itself : (v : Variant) → InVariant IsItself v → variant_beside (folded_variant v) ≡ v
  variant_itself v is = ap variant_beside (variant_by_fold v) ∙ ap (λ (p : Option Desc). record v { payload = p }) (payload_itself v.payload is)

  variants_themselves : (vs : List Variant) → AllByRecursion (InVariant IsItself) vs → map variant_beside (map folded_variant vs) ≡ vs
  variants_themselves [] all = refl
  variants_themselves (v ∷ vs) all = ap₂ (λ (a : Variant) (l : List Variant). a ∷ l) (variant_itself v all.0) (variants_themselves vs all.1)

  level_itself : (y : KnownLevel IsItself) → desc_of_level (folded_level (firsts IsItself y)) ≡ roll-Desc (firsts IsItself y)
  level_itself Desc-F.Any = sym rolls-Any
  level_itself Desc-F.Never = sym rolls-Never
  level_itself Desc-F.Null = sym rolls-Null
  level_itself Desc-F.Bool = sym rolls-Bool
  level_itself Desc-F.Char = sym rolls-Char
  level_itself (Desc-F.Int kind min max) = sym (rolls-Int kind min max)
  level_itself (Desc-F.Text min max format) = sym (rolls-Text min max format)
  level_itself (Desc-F.Enumeration ns) = sym (rolls-Enumeration ns)
  level_itself (Desc-F.Option e) = ap OptionOf e.1 ∙ sym (rolls-Option e.0)
  level_itself (Desc-F.List e min max) = ap (λ (d : Desc). ListOf d min max) e.1 ∙ sym (rolls-List e.0 min max)
  level_itself (Desc-F.Map e) = ap Map e.1 ∙ sym (rolls-Map e.0)
  level_itself (Desc-F.Struct es deny) = ap (λ (fs : List Field). Struct fs deny) (fields_themselves _ (each_holds (InField IsItself) es)) ∙ sym (rolls-Struct _ deny)
  level_itself (Desc-F.External es) = ap External (variants_themselves _ (each_holds (InVariant IsItself) es)) ∙ sym (rolls-External _)
  level_itself (Desc-F.Tagged tag es) = ap (Tagged tag) (tagged_themselves _ (each_holds (InTagged IsItself) es)) ∙ sym (rolls-Tagged tag _)
  level_itself (Desc-F.Untagged es) = ap Untagged (descs_themselves _ (each_holds IsItself es)) ∙ sym (rolls-Untagged _)
  level_itself (Desc-F.Ref name) = sym (rolls-Ref name)

  at_roll : (y : KnownLevel IsItself) → IsItself (roll-Desc (firsts IsItself y))
  at_roll y =
      ap desc_beside (by_fold (roll-Desc (firsts IsItself y)))
      ∙ ap (λ (z : DescLevel). desc_of_level (folded_level z)) (out-roll-Desc (firsts IsItself y))
      ∙ level_itself y

  itself : (d : Desc) → IsItself d
  itself = by_levels IsItself at_roll

  -- ---- and beside what is made of it

  beside_is : (d : Desc) → folded d ≡ beside_with (made_of step) d
  unfolding made_of
  beside_is d = ap (λ (x : Desc). record { desc = x; made = (folded d).made }) (itself d)

  descs_are : (ds : List Desc) → map folded ds ≡ map (beside_with (made_of step)) ds
  descs_are [] = refl
  descs_are (d ∷ ds) = ap₂ (λ (a : Beside X) (l : List (Beside X)). a ∷ l) (beside_is d) (descs_are ds)

  field_is : (f : Field) → folded_field f ≡ field_with (made_of step) f
  field_is f = field_by_fold f ∙ ap (λ (x : Beside X). record { name = f.name; desc = x; presence = f.presence; description = f.description }) (beside_is f.desc)

  fields_are : (fs : List Field) → map folded_field fs ≡ map (field_with (made_of step)) fs
  fields_are [] = refl
  fields_are (f ∷ fs) = ap₂ (λ (a : FieldBeside X) (l : List (FieldBeside X)). a ∷ l) (field_is f) (fields_are fs)

  tagged_is : (v : TaggedVariant) → folded_tagged v ≡ tagged_with (made_of step) v
  tagged_is v =
      tagged_by_fold v
      ∙ ap (λ (fs : List (FieldBeside X)). record { name = tagged_name v; description = tagged_description v; fields = fs }) (fields_are (tagged_fields v))

  tagged_are : (vs : List TaggedVariant) → map folded_tagged vs ≡ map (tagged_with (made_of step)) vs
  tagged_are [] = refl
  tagged_are (v ∷ vs) = ap₂ (λ (a : TaggedBeside X) (l : List (TaggedBeside X)). a ∷ l) (tagged_is v) (tagged_are vs)

  payload_is : (payload : Option Desc) → option_map folded payload ≡ option_map (beside_with (made_of step)) payload
  payload_is None = refl
  payload_is (Some d) = ap Some (beside_is d)

  variant_is : (v : Variant) → folded_variant v ≡ variant_with (made_of step) v
  variant_is v =
      variant_by_fold v
      ∙ ap (λ (p : Option (Beside X)). record { name = v.name; description = v.description; payload = p }) (payload_is v.payload)

  variants_are : (vs : List Variant) → map folded_variant vs ≡ map (variant_with (made_of step)) vs
  variants_are [] = refl
  variants_are (v ∷ vs) = ap₂ (λ (a : VariantBeside X) (l : List (VariantBeside X)). a ∷ l) (variant_is v) (variants_are vs)

  level_is : (y : DescLevel) → folded_level y ≡ level_with (made_of step) y
  level_is Desc-F.Any = refl
  level_is Desc-F.Never = refl
  level_is Desc-F.Null = refl
  level_is Desc-F.Bool = refl
  level_is Desc-F.Char = refl
  level_is (Desc-F.Int kind min max) = refl
  level_is (Desc-F.Text min max format) = refl
  level_is (Desc-F.Enumeration ns) = refl
  level_is (Desc-F.Option d) = ap Desc-F.Option (beside_is d)
  level_is (Desc-F.List d min max) = ap (λ (x : Beside X). Desc-F.List x min max) (beside_is d)
  level_is (Desc-F.Map d) = ap Desc-F.Map (beside_is d)
  level_is (Desc-F.Struct fs deny) = ap (λ (l : List (FieldBeside X)). Desc-F.Struct l deny) (fields_are fs)
  level_is (Desc-F.External vs) = ap Desc-F.External (variants_are vs)
  level_is (Desc-F.Tagged tag vs) = ap (Desc-F.Tagged tag) (tagged_are vs)
  level_is (Desc-F.Untagged ds) = ap Desc-F.Untagged (descs_are ds)
  level_is (Desc-F.Ref name) = refl

  -- what is made of a descriptor is what the step makes of its level, where each smaller descriptor stands beside what is made of it
  pub made_row : (d : Desc) → made_of step d ≡ step (level_with (made_of step) (out-Desc d))
  unfolding made_of
  made_row d = ap (λ (x : Beside X). x.made) (by_fold d) ∙ ap step (level_is (out-Desc d))
