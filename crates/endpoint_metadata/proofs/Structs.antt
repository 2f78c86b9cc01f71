-- The fields of a descriptor that is a struct, of any other, and of one that requests are read by.
use Rattle.std.proofs.Common.{◌≡◌, Bool, true, false, List, [], Option, Some, None, option_and_then, unwrap_or, refl}
use Rattle.std.proofs.Common.{sym, ◌∙◌, ap}
use Rattle.descriptors.specs.declared.desc.Desc.{Desc, out-Desc}
use Rattle.descriptors.specs.declared.desc.Desc.TheOpen.{Desc-F}
use Rattle.descriptors.specs.declared.desc.Desc.TheVariants as desc
use Rattle.descriptors.specs.declared.desc.Desc.TheViews.{roll-Desc, roll-out-Desc}
use Rattle.descriptors.specs.declared.desc.Field.{Field}
use Rattle.descriptors.specs.declared.table.Definition.{Definition}
use Rattle.typed_values.specs.Levels.{DescLevel}
use Rattle.flat_maps.specs.Flat.{fields_by, flat_fields, resolved}
use Rattle.handler_shapes.specs.SlotFields.{struct_fields}
use Rattle.endpoint_metadata.specs.Structs.{fields_at, listed_fields}

module _ (d : Desc) where
  pub struct : (fs : List Field) (deny : Bool) → d ≡ desc.Struct fs deny → fields_at (out-Desc d) ≡ Some fs
  struct fs deny e = ap fields_at (ap out-Desc e ∙ desc.outs-Struct fs deny)

  pub no_struct : ((fs : List Field) (deny : Bool) → d ≡ desc.Struct fs deny → ⊥) → fields_at (out-Desc d) ≡ None
  no_struct none = by_level (out-Desc d) refl
    where
      by_level : (x : DescLevel) → out-Desc d ≡ x → fields_at x ≡ None
      by_level (Desc-F.Struct fs deny) e =
          absurd (none fs deny (sym (roll-out-Desc d) ∙ ap roll-Desc e ∙ desc.rolls-Struct fs deny))
      by_level _ e = refl

open_level : (fields : List Field) (x : DescLevel) → fields_by x ≡ Some fields → fields_at x ≡ Some fields
open_level fields (Desc-F.Struct fs true) is = absurd (cc is)
open_level fields (Desc-F.Struct fs false) is = is
open_level fields _ is = absurd (cc is)

open_resolved : (fields : List Field) (o : Option Desc) → flat_fields o ≡ Some fields
    → option_and_then (λ d. fields_at (out-Desc d)) o ≡ Some fields
open_resolved fields None is = absurd (cc is)
open_resolved fields (Some d) is = open_level fields (out-Desc d) is

-- the fields of a struct that takes unknown names
pub open_fields : (table : List Definition) (desc : Desc) (fields : List Field) → struct_fields table desc ≡ Some fields
    → listed_fields table desc ≡ fields
open_fields table desc fields is = ap (λ o. unwrap_or o []) (open_resolved fields (resolved table desc) is)
