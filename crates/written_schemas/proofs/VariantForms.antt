-- The choices of enumerations with data as the schemas of structs.
use Rattle.std.proofs.Common.{◌≡◌, ℕ, false, List, [], ◌∷◌, None, sym, ap}
use Rattle.descriptors.specs.declared.desc.Desc.{Desc, Enumeration}
use Rattle.descriptors.specs.declared.desc.Desc.TheOpen.{Desc-F}
use Rattle.descriptors.specs.declared.desc.Desc.TheVariants as desc
use Rattle.descriptors.specs.declared.desc.Field.{Field}
use Rattle.descriptors.specs.declared.desc.Named.{Named}
use Rattle.descriptors.specs.declared.desc.Presence.TheVariants.{Required}
use Rattle.descriptors.specs.declared.desc.TaggedVariant.{TaggedVariant}
use Rattle.descriptors.specs.declared.table.Definition.{Definition}
use Rattle.descriptors.specs.Definitions.{tagged_description, tagged_name, tagged_fields}
use Rattle.typed_values.specs.DescBeside.{tagged_with}
use Rattle.typed_values.specs.SchemaTable.{Drawn, drawn, drawn_json, described, enumerated, property, struct_drawn, tagged_choice}
use Rattle.written_schemas.proofs.Forms.{properties_drawn, names_required, fields_drawn, drawn_row}

-- a field that must be there
abbrev pub required_of : List ℕ → Desc → Field
required_of name d = record { name = name; desc = d; presence = Required; description = None }

-- an enumeration of one name
abbrev pub alone : List ℕ → List Named
alone name = record { name = name; description = None } ∷ []

-- the tag of a variant, and its fields
abbrev pub behind_tag : List ℕ → TaggedVariant → List Field
behind_tag tag v = required_of tag (Enumeration (alone (tagged_name v))) ∷ tagged_fields v

module _ (table : List Definition) where
  pub drawn_alone : (name : List ℕ) → drawn table (Enumeration (alone name)) ≡ enumerated (name ∷ [])
  drawn_alone name = drawn_row table (Enumeration (alone name)) (Desc-F.Enumeration (alone name)) (desc.outs-Enumeration (alone name))

  -- the choice of a tagged variant is the schema of the struct of these
  pub tagged_is_struct : (tag : List ℕ) (v : TaggedVariant) → tagged_choice table tag (tagged_with (drawn table) v) ≡ drawn_json (described (tagged_description v) (fields_drawn table (behind_tag tag v) false))
  tagged_is_struct tag v =
      let fs = tagged_fields v in
      ap (λ (x : Drawn). drawn_json (described (tagged_description v) (struct_drawn (property tag x ∷ properties_drawn table fs) (tag ∷ names_required table fs) false))) (sym (drawn_alone (tagged_name v)))
