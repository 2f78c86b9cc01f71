-- Which types of parameters and of the fields of forms are scalar: those whose values are written as one text (OpenAPI
-- 3.0.3, Parameter Object, Style Values: a primitive type).
use Rattle.std.specs.Prelude.{◌≡◌, List, Some}
use Rattle.descriptors.specs.declared.desc.Desc.{Desc, out-Desc}
use Rattle.descriptors.specs.declared.desc.Desc.TheOpen.{Desc-F}
use Rattle.descriptors.specs.declared.table.Definition.{Definition}
use Rattle.descriptors.specs.Definitions.{entry_of}

-- truth values, characters, numbers, texts, the names of an enumeration, and options of and references to these
pub data IsScalarType (table : List Definition) : Desc → Type 0 where
  a_truth : {d : Desc} → out-Desc d ≡ Desc-F.Bool → IsScalarType table d
  a_character : {d : Desc} → out-Desc d ≡ Desc-F.Char → IsScalarType table d
  a_number : {d : Desc} (kind min max : _) → out-Desc d ≡ Desc-F.Int kind min max → IsScalarType table d
  a_text : {d : Desc} (min max format : _) → out-Desc d ≡ Desc-F.Text min max format → IsScalarType table d
  a_name : {d : Desc} (names : _) → out-Desc d ≡ Desc-F.Enumeration names → IsScalarType table d
  an_option : {d : Desc} (x : Desc) → out-Desc d ≡ Desc-F.Option x → IsScalarType table x → IsScalarType table d
  a_reference : {d : Desc} (name : _) (y : Definition) → out-Desc d ≡ Desc-F.Ref name → entry_of table name ≡ Some y → IsScalarType table y.desc → IsScalarType table d
