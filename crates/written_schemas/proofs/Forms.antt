-- The schema of each form of descriptor, with the schemas of those that it is made of.
use Rattle.std.proofs.Common.{◌≡◌, ℕ, Bool, List, [], ◌∷◌, map, codes, refl, ◌∙◌, ap}
use Rattle.schema_values.specs.declared.json_value.Json.{Json, List as Items}
use Rattle.schema_values.specs.declared.json_value.Member.{Member}
use Rattle.schema_values.specs.Member.{member}
use Rattle.descriptors.specs.declared.desc.Desc.{Desc, out-Desc}
use Rattle.descriptors.specs.declared.desc.Desc.TheOpen.{Desc-F}
use Rattle.descriptors.specs.declared.desc.Field.{Field}
use Rattle.descriptors.specs.declared.table.Definition.{Definition}
use Rattle.typed_values.specs.DescBeside.{Beside, LevelBeside, level_with, beside_with, field_with}
use Rattle.typed_values.specs.SchemaTable.{Drawn, drawn, drawn_json, drawn_step, plain, property_of, required_names, struct_drawn, schema_json}
use Rattle.typed_values.specs.Levels.{DescLevel}
use Rattle.typed_values.proofs.CallerLemmas.{made_row, two_maps}

module _ (table : List Definition) where
  -- one level of a descriptor, with the schemas of the smaller ones
  abbrev pub drawn_level : DescLevel → LevelBeside Drawn
  drawn_level = level_with (drawn table)

  -- a field as it stands among the properties
  abbrev pub field_property : Field → Member
  field_property f = property_of table (field_with (drawn table) f)

  -- all of some fields as properties
  abbrev pub properties_drawn : List Field → List Member
  properties_drawn fs = map (property_of table) (map (field_with (drawn table)) fs)

  -- the names of those that are required
  abbrev pub names_required : List Field → List (List ℕ)
  names_required fs = required_names (map (field_with (drawn table)) fs)

  -- the schema of their struct
  abbrev pub fields_drawn : List Field → Bool → Drawn
  fields_drawn fs deny = struct_drawn (properties_drawn fs) (names_required fs) deny

  pub drawn_row : (d : Desc) (z : DescLevel) → out-Desc d ≡ z → drawn table d ≡ drawn_step table (drawn_level z)
  drawn_row d z e = made_row (drawn_step table) d ∙ ap (λ (z : DescLevel). drawn_step table (drawn_level z)) e

  pub choice_drawn : (d : Desc) (ds : List Desc) → out-Desc d ≡ Desc-F.Untagged ds → drawn table d ≡ plain (member (codes "anyOf") (Items (map (schema_json table) ds)) ∷ [])
  choice_drawn d ds e =
      drawn_row d (Desc-F.Untagged ds) e
      ∙ ap (λ (js : List Json). plain (member (codes "anyOf") (Items js) ∷ [])) (two_maps (λ (s : Beside Drawn). drawn_json s.made) (beside_with (drawn table)) (schema_json table) (λ x. refl) ds)
