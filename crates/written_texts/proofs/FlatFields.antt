-- The fields of a struct of scalar fields: the document says of each type what the type says.
use Rattle.std.proofs.Common.{◌≡◌, ℕ, zero, suc, true, false, List, Option, Some, None, option_map, option_and_then, refl, sym, ◌∙◌, ap, subst}
use Rattle.std.specs.Prelude.{Contains}
use Rattle.schema_values.specs.declared.json_value.Json.{Json}
use Rattle.descriptors.specs.declared.desc.Desc.{Desc, out-Desc}
use Rattle.descriptors.specs.declared.desc.Desc.TheOpen.{Desc-F}
use Rattle.descriptors.specs.declared.desc.Field.{Field}
use Rattle.descriptors.specs.declared.table.Definition.{Definition}
use Rattle.descriptors.specs.Definitions.{entry_of}
use Rattle.descriptors.proofs.CallerLemmas.{definition_is}
use Rattle.typed_values.specs.Denotes.{room}
use Rattle.typed_values.specs.Levels.{DescLevel}
use Rattle.typed_values.specs.Parts.{the_whole}
use Rattle.typed_values.proofs.CallerLemmas.{IsNeeded, of_whole, field_needed, reference_needed}
use Rattle.flat_maps.specs.Flat.{resolved_by, resolved_at, resolved, fields_by, flat_fields}
use Rattle.written_schemas.specs.Reached.{DefinesReached}
use Rattle.written_schemas.specs.Written.{IsWritten}
use Rattle.written_texts.specs.FlatStructs.{IsFlatStruct, DefinesFields}
use Rattle.written_texts.proofs.WrittenParts.{passes_deeper, defines_deeper}

-- a descriptor that has fields with flat names is a struct of them that takes unknown names
pub record IsStructOf (fs : List Field) (o : Option Desc) : Type 0 where
  pub struct : Desc
  pub there : o ≡ Some struct
  pub level : out-Desc struct ≡ Desc-F.Struct fs false

pub struct_of : (fs : List Field) (o : Option Desc) → flat_fields o ≡ Some fs → IsStructOf fs o
struct_of fs None e = absurd (cc e)
struct_of fs (Some r) e = by_form (out-Desc r) refl e
  where
    by_form : (z : DescLevel) → out-Desc r ≡ z → fields_by z ≡ Some fs → IsStructOf fs (Some r)
    by_form (Desc-F.Struct gs false) is e = let same : gs ≡ fs = cc e in record { struct = r; there = refl; level = is ∙ ap (λ (hs : List Field). Desc-F.Struct hs false) same }
    by_form (Desc-F.Struct gs true) is e = absurd (cc e)
    by_form _ is e = absurd (cc e)

module _ (table : List Definition) (whole : Desc) where
  -- a reference leads to what its definition leads to
  behind_name : (next : Desc → Option Desc) (d r : Desc) (name : List ℕ) → out-Desc d ≡ Desc-F.Ref name → IsNeeded table whole d → ((y : Desc) → next y ≡ Some r → IsNeeded table whole y → IsNeeded table whole r)
      → (o : Option Definition) → entry_of table name ≡ o → option_and_then next (option_map (λ e. e.desc) o) ≡ Some r → IsNeeded table whole r
  behind_name next d r name is need later None f led = absurd (cc led)
  behind_name next d r name is need later (Some y) f led = later y.desc led (reference_needed table whole d name y is f need)

  led_by : (next : Desc → Option Desc) (d r : Desc) → IsNeeded table whole d → ((y : Desc) → next y ≡ Some r → IsNeeded table whole y → IsNeeded table whole r)
      → (z : DescLevel) → out-Desc d ≡ z → resolved_by table next d z ≡ Some r → IsNeeded table whole r
  led_by next d r need later (Desc-F.Ref name) is led = behind_name next d r name is need later (entry_of table name) refl (ap (option_and_then next) (sym (definition_is table name)) ∙ led)
  led_by next d r need later _ is led = let same : d ≡ r = cc led in subst (IsNeeded table whole) same need

  -- what a descriptor leads to is needed where the descriptor is
  led_needed : (n : ℕ) (d r : Desc) → resolved_at table n d ≡ Some r → IsNeeded table whole d → IsNeeded table whole r
  unfolding resolved_at
  led_needed zero d r led need = absurd (cc led)
  led_needed (suc n) d r led need = led_by (resolved_at table n) d r need (λ y e k. led_needed n y r e k) (out-Desc d) refl led

module _ (table : List Definition) (desc : Desc) (fs : List Field) (flat : IsFlatStruct table desc fs) where
  -- the type of each field is needed where the struct is
  field_part : (f : Field) → Contains fs f → IsNeeded table desc f.desc
  unfolding resolved
  field_part f c =
      let struct = struct_of fs (resolved table desc) flat.has_fields in
      field_needed table desc struct.struct fs false f struct.level c (led_needed table desc (room table desc) desc struct.struct struct.there (of_whole the_whole))

  -- so where a document says what the struct says, it does so of each field
  pub fields_defined : (doc : Json) → DefinesReached doc table desc → DefinesFields doc table fs
  fields_defined doc defines f c = defines_deeper table desc f.desc doc defines (field_part f c)

  pub field_written : (doc : Json) → DefinesFields doc table fs → (f : Field) → Contains fs f → IsWritten doc table f.desc
  field_written doc defines f c = record {
    table_passes = flat.table_passes;
    desc_passes = passes_deeper table desc f.desc flat.table_passes flat.desc_passes (field_part f c);
    defined = defines f c;
  }
