-- The descriptors that stand in a descriptor, or in a definition that it reaches.
use Rattle.std.proofs.Common.{◌≡◌, ℕ, Bool, true, false, List, [], ◌∷◌, Option, Some, None, option_map, bytes_eq, cond, refl, sym, ◌∙◌, ap, subst}
use Rattle.std.specs.Prelude.{Contains}
use Rattle.descriptors.specs.declared.desc.Desc.{Desc, out-Desc}
use Rattle.descriptors.specs.declared.desc.Desc.TheOpen.{Desc-F}
use Rattle.descriptors.specs.declared.desc.Field.{Field}
use Rattle.descriptors.specs.declared.desc.TaggedVariant.{TaggedVariant}
use Rattle.descriptors.specs.declared.desc.Variant.{Variant}
use Rattle.descriptors.specs.declared.table.Definition.{Definition}
use Rattle.descriptors.specs.Definitions.{definition, entry_of, tagged_fields}
use Rattle.typed_values.specs.Parts.{StandsIn, the_whole, in_option, in_list, in_map, in_field, in_payload, in_variant, in_alternative, IsPart, of_whole as part_of_whole, of_table}
use Rattle.typed_values.specs.Reached.{IsReached, directly, through}
use Rattle.descriptors.proofs.CallerLemmas.{definition_is}
use Rattle.schema_values.proofs.CallerLemmas.{contains_first, contains_later}

-- it stands in the whole descriptor, or in a definition that this reaches
pub data IsNeeded (table : List Definition) (whole d : Desc) : Type 0 where
  of_whole : StandsIn whole d → IsNeeded table whole d
  of_reached : (name : List ℕ) (e : Definition) → IsReached table whole name → entry_of table name ≡ Some e → StandsIn e.desc d → IsNeeded table whole d

pub entry_inside : (table : List Definition) (name : List ℕ) (e : Definition) → entry_of table name ≡ Some e → Contains table e
entry_inside [] name e f = absurd (cc f)
entry_inside (x ∷ table) name e f = by_name (bytes_eq x.name name) f (entry_inside table name e)
  where
    by_name : (b : Bool) → cond b (Some x) (entry_of table name) ≡ Some e → (entry_of table name ≡ Some e → Contains table e) → Contains (x ∷ table) e
    by_name true f later = let same : x ≡ e = cc f in subst (Contains (x ∷ table)) same (contains_first x table)
    by_name false f later = contains_later x table e (later f)

module _ (table : List Definition) (whole d : Desc) where
  pub needed_part : IsNeeded table whole d → IsPart table whole d
  needed_part (of_whole s) = part_of_whole s
  needed_part (of_reached name e r f s) = of_table e (entry_inside table name e f) s

  pub option_needed : (x : Desc) → out-Desc d ≡ Desc-F.Option x → IsNeeded table whole d → IsNeeded table whole x
  option_needed x e (of_whole s) = of_whole (in_option x s e)
  option_needed x e (of_reached name y r f s) = of_reached name y r f (in_option x s e)

  pub list_needed : (x : Desc) (min max : Option ℕ) → out-Desc d ≡ Desc-F.List x min max → IsNeeded table whole d → IsNeeded table whole x
  list_needed x min max e (of_whole s) = of_whole (in_list x min max s e)
  list_needed x min max e (of_reached name y r f s) = of_reached name y r f (in_list x min max s e)

  pub map_needed : (x : Desc) → out-Desc d ≡ Desc-F.Map x → IsNeeded table whole d → IsNeeded table whole x
  map_needed x e (of_whole s) = of_whole (in_map x s e)
  map_needed x e (of_reached name y r f s) = of_reached name y r f (in_map x s e)

  pub field_needed : (fs : List Field) (deny : Bool) (g : Field) → out-Desc d ≡ Desc-F.Struct fs deny → Contains fs g → IsNeeded table whole d → IsNeeded table whole g.desc
  field_needed fs deny g e c (of_whole s) = of_whole (in_field fs deny g s e c)
  field_needed fs deny g e c (of_reached name y r f s) = of_reached name y r f (in_field fs deny g s e c)

  pub payload_needed : (vs : List Variant) (v : Variant) (x : Desc) → out-Desc d ≡ Desc-F.External vs → Contains vs v → v.payload ≡ Some x → IsNeeded table whole d → IsNeeded table whole x
  payload_needed vs v x e c p (of_whole s) = of_whole (in_payload vs v x s e c p)
  payload_needed vs v x e c p (of_reached name y r f s) = of_reached name y r f (in_payload vs v x s e c p)

  pub variant_needed : (tag : List ℕ) (vs : List TaggedVariant) (v : TaggedVariant) (g : Field) → out-Desc d ≡ Desc-F.Tagged tag vs → Contains vs v → Contains (tagged_fields v) g → IsNeeded table whole d → IsNeeded table whole g.desc
  variant_needed tag vs v g e c k (of_whole s) = of_whole (in_variant tag vs v g s e c k)
  variant_needed tag vs v g e c k (of_reached name y r f s) = of_reached name y r f (in_variant tag vs v g s e c k)

  pub alternative_needed : (ds : List Desc) (x : Desc) → out-Desc d ≡ Desc-F.Untagged ds → Contains ds x → IsNeeded table whole d → IsNeeded table whole x
  alternative_needed ds x e c (of_whole s) = of_whole (in_alternative ds x s e c)
  alternative_needed ds x e c (of_reached name y r f s) = of_reached name y r f (in_alternative ds x s e c)

  pub reference_reached : (name : List ℕ) → out-Desc d ≡ Desc-F.Ref name → IsNeeded table whole d → IsReached table whole name
  reference_reached name e (of_whole s) = directly name (d, s, e)
  reference_reached name e (of_reached other y r f s) = through other name y r f (d, s, e)

  pub reference_needed : (name : List ℕ) (y : Definition) → out-Desc d ≡ Desc-F.Ref name → entry_of table name ≡ Some y → IsNeeded table whole d → IsNeeded table whole y.desc
  reference_needed name y e f n = of_reached name y (reference_reached name e n) f the_whole

  pub definition_needed : (name : List ℕ) (y : Desc) → out-Desc d ≡ Desc-F.Ref name → definition table name ≡ Some y → IsNeeded table whole d → IsNeeded table whole y
  definition_needed name y e f n = by_entry (entry_of table name) refl
    where
      by_entry : (o : Option Definition) → entry_of table name ≡ o → IsNeeded table whole y
      by_entry None g = absurd (cc (sym f ∙ definition_is table name ∙ ap (option_map (λ e. e.desc)) g))
      by_entry (Some x) g =
          let is : x.desc ≡ y = cc (sym f ∙ definition_is table name ∙ ap (option_map (λ e. e.desc)) g) in
          subst (IsNeeded table whole) is (reference_needed name x e g n)
