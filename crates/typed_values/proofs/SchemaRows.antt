-- The sketch of the schema of each descriptor, with the sketches of those that it is made of.
use Rattle.std.proofs.Common.{◌≡◌, ℕ, Bool, List, map, Option, None, refl, sym, ◌∙◌, ap}
use Rattle.std.specs.Option.{option_map_or}
use Rattle.schema_values.specs.declared.schema.Schema.{Bool as Truth}
use Rattle.descriptors.specs.declared.desc.Desc.{Desc, out-Desc}
use Rattle.descriptors.specs.declared.desc.Desc.TheOpen.{Desc-F}
use Rattle.descriptors.specs.declared.desc.Desc.TheVariants as desc
use Rattle.descriptors.specs.declared.desc.Desc.TheViews.{roll-out-Desc, roll-Desc}
use Rattle.descriptors.specs.declared.desc.Field.{Field}
use Rattle.descriptors.specs.declared.desc.TaggedVariant.{TaggedVariant}
use Rattle.descriptors.specs.declared.desc.Variant.{Variant}
use Rattle.descriptors.specs.declared.table.Definition.{Definition}
use Rattle.typed_values.specs.DescBeside.{Beside, beside_with, level_with}
use Rattle.typed_values.specs.Schemas.{Sketch, object_of, property_of, required_names, struct_parts, choice_of, one_of, external_choices, tagged_choice, other_members, sketch_step, schema_sketch, schema_parts, schema_value, sketch_of_field, sketch_of_tagged, sketch_of_variant}
use Rattle.typed_values.specs.Levels.{DescLevel}
use Rattle.typed_values.proofs.DescBesides.{made_row}
use Rattle.typed_values.proofs.Rows.{two_maps}

module _ (table : List Definition) where
  -- the sketch of one level, with the sketches of the smaller ones
  abbrev pub sketch_level : DescLevel → Sketch
  sketch_level y = sketch_step table (level_with (schema_sketch table) y)

  pub sketch_row : (d : Desc) (y : DescLevel) → out-Desc d ≡ y → schema_sketch table d ≡ sketch_level y
  sketch_row d y e = made_row (sketch_step table) d ∙ ap sketch_level e

  pub parts_row : (d : Desc) (y : DescLevel) → out-Desc d ≡ y → schema_parts table d ≡ (sketch_level y).parts
  parts_row d y e = ap (λ (s : Sketch). s.parts) (sketch_row d y e)

  -- the same of a descriptor that is made in such a way
  pub sketch_are : {d made : Desc} {y : DescLevel} → d ≡ made → out-Desc made ≡ y → schema_sketch table d ≡ sketch_level y
  sketch_are {d} {made} {y} is out = sketch_row d y (ap out-Desc is ∙ out)

  pub parts_are : {d made : Desc} {y : DescLevel} → d ≡ made → out-Desc made ≡ y → schema_parts table d ≡ (sketch_level y).parts
  parts_are {d} {made} {y} is out = parts_row d y (ap out-Desc is ∙ out)

  -- ---- one row for each descriptor that is made of others

  pub struct_parts_are : (d : Desc) (fs : List Field) (deny : Bool) → d ≡ desc.Struct fs deny →
      schema_parts table d ≡ struct_parts (map (property_of table) (map (sketch_of_field table) fs)) (required_names (map (sketch_of_field table) fs)) deny
  struct_parts_are d fs deny e = parts_are e (desc.outs-Struct fs deny)

  pub external_parts_are : (d : Desc) (vs : List Variant) → d ≡ desc.External vs →
      schema_parts table d ≡ one_of (external_choices (map (sketch_of_variant table) vs))
  external_parts_are d vs e = parts_are e (desc.outs-External vs)

  pub tagged_parts_are : (d : Desc) (tag : List ℕ) (vs : List TaggedVariant) → d ≡ desc.Tagged tag vs →
      schema_parts table d ≡ one_of (map (tagged_choice table tag) (map (sketch_of_tagged table) vs))
  tagged_parts_are d tag vs e = parts_are e (desc.outs-Tagged tag vs)

  pub choice_parts_are : (d : Desc) (ds : List Desc) → d ≡ desc.Untagged ds → schema_parts table d ≡ choice_of (map (λ x. object_of (schema_parts table x)) ds)
  choice_parts_are d ds e =
      parts_are e (desc.outs-Untagged ds)
      ∙ ap choice_of (two_maps (λ (s : Beside Sketch). object_of s.made.parts) (beside_with (schema_sketch table)) (λ x. object_of (schema_parts table x)) (λ x. refl) ds)

  -- only what admits every value, or none, is a truth value
  no_truth : (y : DescLevel) → (y ≡ Desc-F.Any → ⊥) → (y ≡ Desc-F.Never → ⊥) → (sketch_level y).truth ≡ None
  no_truth Desc-F.Any not_any not_never = absurd (not_any refl)
  no_truth Desc-F.Never not_any not_never = absurd (not_never refl)
  no_truth _ not_any not_never = refl

  pub other_members_are : (d : Desc) → (d ≡ desc.Any → ⊥) → (d ≡ desc.Never → ⊥) → other_members (schema_sketch table d) ≡ object_of (schema_parts table d)
  other_members_are d not_any not_never =
      let no_level : (y : DescLevel) (made : Desc) → roll-Desc y ≡ made → (d ≡ made → ⊥) → out-Desc d ≡ y → ⊥ =
      λ y made rolls not e. not (sym (roll-out-Desc d) ∙ ap roll-Desc e ∙ rolls) in
      ap (λ (t : Option Bool). option_map_or Truth t (schema_value table d))
      (ap (λ (s : Sketch). s.truth) (sketch_row d (out-Desc d) refl)
      ∙ no_truth (out-Desc d) (no_level Desc-F.Any desc.Any desc.rolls-Any not_any) (no_level Desc-F.Never desc.Never desc.rolls-Never not_never))
