-- The descriptors that stand in a table or in a descriptor.
use Rattle.std.specs.Prelude.{◌≡◌, List, Some, Contains}
use Rattle.descriptors.specs.declared.desc.Desc.{Desc, out-Desc}
use Rattle.descriptors.specs.declared.desc.Desc.TheOpen.{Desc-F}
use Rattle.descriptors.specs.declared.desc.Field.{Field}
use Rattle.descriptors.specs.declared.desc.TaggedVariant.{TaggedVariant}
use Rattle.descriptors.specs.declared.desc.Variant.{Variant}
use Rattle.descriptors.specs.declared.table.Definition.{Definition}
use Rattle.descriptors.specs.Definitions.{tagged_fields}

-- a descriptor stands in a whole one: it is the whole, or what one that stands there is made of
pub data StandsIn (whole : Desc) : Desc → Type 0 where
  the_whole : StandsIn whole whole
  in_option : {d : Desc} (x : Desc) → StandsIn whole d → out-Desc d ≡ Desc-F.Option x → StandsIn whole x
  in_list : {d : Desc} (x : Desc) (min max : _) → StandsIn whole d → out-Desc d ≡ Desc-F.List x min max → StandsIn whole x
  in_map : {d : Desc} (x : Desc) → StandsIn whole d → out-Desc d ≡ Desc-F.Map x → StandsIn whole x
  in_field : {d : Desc} (fs : List Field) (deny : _) (f : Field) → StandsIn whole d → out-Desc d ≡ Desc-F.Struct fs deny → Contains fs f → StandsIn whole f.desc
  in_payload : {d : Desc} (vs : List Variant) (v : Variant) (x : Desc) → StandsIn whole d → out-Desc d ≡ Desc-F.External vs → Contains vs v → v.payload ≡ Some x → StandsIn whole x
  in_variant : {d : Desc} (tag : _) (vs : List TaggedVariant) (v : TaggedVariant) (f : Field) → StandsIn whole d → out-Desc d ≡ Desc-F.Tagged tag vs → Contains vs v → Contains (tagged_fields v) f → StandsIn whole f.desc
  in_alternative : {d : Desc} (ds : List Desc) (x : Desc) → StandsIn whole d → out-Desc d ≡ Desc-F.Untagged ds → Contains ds x → StandsIn whole x

-- it stands in a definition of the table, or in the whole descriptor
pub data IsPart (table : List Definition) (whole : Desc) (d : Desc) : Type 0 where
  of_whole : StandsIn whole d → IsPart table whole d
  of_table : (e : Definition) → Contains table e → StandsIn e.desc d → IsPart table whole d
