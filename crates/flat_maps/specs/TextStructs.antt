-- The structs whose maps of texts are read back: named headers, each of one text, of which some may be absent (OpenAPI
-- 3.0.3, Header Object, `required`). That they take unknown names is a rule of this library.
use Rattle.std.specs.Prelude.{◌≡◌, ⊤, ℕ, List, Option, Some, Contains}
use Rattle.descriptors.specs.declared.desc.Desc.{Desc, out-Desc}
use Rattle.descriptors.specs.declared.desc.Desc.TheOpen.{Desc-F}
use Rattle.descriptors.specs.declared.desc.Field.{Field}
use Rattle.descriptors.specs.declared.desc.Presence.{Presence}
use Rattle.descriptors.specs.declared.desc.Presence.TheVariants.{Required, Nullable, Skipped, Default}
use Rattle.descriptors.specs.declared.table.Definition.{Definition}
use Rattle.descriptors.specs.declared.tree.Tree.{None as Nothing}
use Rattle.flat_maps.specs.Flat.{resolved, flat_fields}

-- a text, through references
abbrev pub IsText : List Definition → Desc → Type 0
IsText table d =
    (r : Desc) × (min max : Option ℕ) × (format : Option (List ℕ))
    × (resolved table d ≡ Some r) × (out-Desc r ≡ Desc-F.Text min max format)

-- an option of a text, through references
abbrev pub IsOptionalText : List Definition → Desc → Type 0
IsOptionalText table d =
    (r : Desc) × (x : Desc) × (resolved table d ≡ Some r) × (out-Desc r ≡ Desc-F.Option x) × IsText table x

-- an option that is absent is none
abbrev pub IsNoneIfAbsent : Presence → Type 0
IsNoneIfAbsent Required = ⊥
IsNoneIfAbsent Nullable = ⊤
IsNoneIfAbsent Skipped = ⊤
IsNoneIfAbsent (Default tree) = tree ≡ Nothing

-- a field of texts: a text, or an option of one that is none where the field is absent
pub data IsTextField (table : List Definition) (f : Field) : Type 0 where
  of_text : IsText table f.desc → IsTextField table f
  of_option : IsOptionalText table f.desc → IsNoneIfAbsent f.presence → IsTextField table f

-- a struct that takes unknown names, all of whose fields are such
pub record IsTextStruct (table : List Definition) (desc : Desc) : Type 0 where
  pub fields : List Field
  pub flat : flat_fields (resolved table desc) ≡ Some fields
  pub texts : (f : Field) → Contains fields f → IsTextField table f
