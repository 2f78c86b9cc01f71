-- The references that stand in a descriptor, and in its parts.
use Rattle.std.proofs.Common.{◌≡◌, ℕ, Bool, true, List, [], ◌∷◌, ◌++◌, map, Option, Some, None, refl, ◌∙◌, ap}
use Rattle.std.specs.List.{flat_map}
use Rattle.std.specs.Prelude.{Contains}
use Rattle.std.proofs.lemmas.Bool.{or_left}
use Rattle.descriptors.specs.declared.desc.Desc.{Desc, out-Desc}
use Rattle.descriptors.specs.declared.desc.Desc.TheFolds.{fold-Field, fold-TaggedVariant, fold-Variant, fold_out-Desc}
use Rattle.descriptors.specs.declared.desc.Desc.TheFolds.{fold_out-Field, fold_out-TaggedVariant, fold_out-Variant}
use Rattle.descriptors.specs.declared.desc.Desc.TheFolds.{map-Desc}
use Rattle.descriptors.specs.declared.desc.Desc.TheOpen.{Desc-F}
use Rattle.descriptors.specs.declared.desc.Desc.TheVariants as desc
use Rattle.descriptors.specs.declared.desc.Field.{Field}
use Rattle.descriptors.specs.declared.desc.TaggedVariant.{TaggedVariant}
use Rattle.descriptors.specs.declared.desc.Variant.{Variant}
use Rattle.descriptors.specs.Definitions.{tagged_fields}
use Rattle.typed_values.specs.Parts.{StandsIn, the_whole, in_option, in_list, in_map, in_field, in_payload, in_variant}
use Rattle.typed_values.specs.Parts.{in_alternative}
use Rattle.typed_values.specs.Reached.{Mentions}
use Rattle.typed_values.specs.Levels.{DescLevel}
use Rattle.api_documents.specs.Ordered.{is_among}
use Rattle.api_documents.specs.References.{Names, all_names, references, references_step, references_of_field}
use Rattle.api_documents.specs.References.{references_of_tagged, references_of_variant, references_in_variant}
use Rattle.api_documents.specs.References.{references_in_fields, references_in_tagged}
use Rattle.api_documents.proofs.Among.{any_contained, at_itself, among_joined}

-- ---- the names of one level

abbrev folded_field : Field → Names
folded_field =
    fold-Field Names Names Names Names
    references_step references_of_field references_of_tagged references_of_variant

abbrev folded_tagged : TaggedVariant → Names
folded_tagged =
    fold-TaggedVariant Names Names Names Names
    references_step references_of_field references_of_tagged references_of_variant

abbrev folded_variant : Variant → Names
folded_variant =
    fold-Variant Names Names Names Names
    references_step references_of_field references_of_tagged references_of_variant

abbrev pub references_level : DescLevel → Names
references_level z =
    references_step
    (map-Desc Desc Field TaggedVariant Variant Names Names Names Names
    references folded_field folded_tagged folded_variant z)

pub references_row : (d : Desc) (y : DescLevel) → out-Desc d ≡ y → references d ≡ references_level y
references_row d y e =
    fold_out-Desc Names Names Names Names
    references_step references_of_field references_of_tagged references_of_variant d
    ∙ ap (λ (z : DescLevel). references_level z) e

joined : {X : Type 0} (g h : X → Names) → ((x : X) → g x ≡ h x)
    → (xs : List X) → all_names (map g xs) ≡ flat_map h xs
joined g h same [] = refl
joined g h same (x ∷ xs) =
    ap (λ (some : Names). some ++ all_names (map g xs)) (same x)
    ∙ ap (λ (rest : Names). h x ++ rest) (joined g h same xs)

field_row : (f : Field) → folded_field f ≡ references f.desc
field_row f =
    fold_out-Field Names Names Names Names
    references_step references_of_field references_of_tagged references_of_variant f

fields_joined : (fs : List Field) → all_names (map folded_field fs) ≡ references_in_fields fs
fields_joined = joined folded_field (λ f. references f.desc) field_row

abbrev variant_with : List ℕ → Option (List ℕ) → Option Desc → Variant
variant_with name description payload = record { name = name; description = description; payload = payload }

variant_by : (name : List ℕ) (description : Option (List ℕ)) (payload : Option Desc)
    → folded_variant (variant_with name description payload)
    ≡ references_in_variant (variant_with name description payload)
variant_by name description None =
    fold_out-Variant Names Names Names Names
    references_step references_of_field references_of_tagged references_of_variant
    (variant_with name description None)
variant_by name description (Some d) =
    fold_out-Variant Names Names Names Names
    references_step references_of_field references_of_tagged references_of_variant
    (variant_with name description (Some d))

variant_row : (v : Variant) → folded_variant v ≡ references_in_variant v
variant_row v = variant_by v.name v.description v.payload

tagged_row : (v : TaggedVariant) → folded_tagged v ≡ references_in_tagged v
tagged_row v =
    fold_out-TaggedVariant Names Names Names Names
    references_step references_of_field references_of_tagged references_of_variant v
    ∙ fields_joined (tagged_fields v)

-- ---- the names of each level that has several parts

pub of_struct : (d : Desc) (fs : List Field) (deny : Bool)
    → out-Desc d ≡ Desc-F.Struct fs deny → references d ≡ references_in_fields fs
of_struct d fs deny e = references_row d (Desc-F.Struct fs deny) e ∙ fields_joined fs

pub of_external : (d : Desc) (vs : List Variant)
    → out-Desc d ≡ Desc-F.External vs → references d ≡ flat_map references_in_variant vs
of_external d vs e =
    references_row d (Desc-F.External vs) e ∙ joined folded_variant references_in_variant variant_row vs

pub of_tagged : (d : Desc) (tag : List ℕ) (vs : List TaggedVariant)
    → out-Desc d ≡ Desc-F.Tagged tag vs → references d ≡ flat_map references_in_tagged vs
of_tagged d tag vs e =
    references_row d (Desc-F.Tagged tag vs) e ∙ joined folded_tagged references_in_tagged tagged_row vs

pub of_choice : (d : Desc) (ds : List Desc) → out-Desc d ≡ Desc-F.Untagged ds → references d ≡ flat_map references ds
of_choice d ds e = references_row d (Desc-F.Untagged ds) e ∙ joined references references (λ x. refl) ds

pub struct_references : (d : Desc) (fs : List Field) (deny : Bool)
    → d ≡ desc.Struct fs deny → references d ≡ references_in_fields fs
struct_references d fs deny e = of_struct d fs deny (ap out-Desc e ∙ desc.outs-Struct fs deny)

pub external_references : (d : Desc) (vs : List Variant)
    → d ≡ desc.External vs → references d ≡ flat_map references_in_variant vs
external_references d vs e = of_external d vs (ap out-Desc e ∙ desc.outs-External vs)

pub tagged_references : (d : Desc) (tag : List ℕ) (vs : List TaggedVariant)
    → d ≡ desc.Tagged tag vs → references d ≡ flat_map references_in_tagged vs
tagged_references d tag vs e = of_tagged d tag vs (ap out-Desc e ∙ desc.outs-Tagged tag vs)

pub choice_references : (d : Desc) (ds : List Desc) → d ≡ desc.Untagged ds → references d ≡ flat_map references ds
choice_references d ds e = of_choice d ds (ap out-Desc e ∙ desc.outs-Untagged ds)

-- the names in a variant are those in its payload
payload_references : (v : Variant) (x : Desc) → v.payload ≡ Some x → references_in_variant v ≡ references x
payload_references v x e = rw e refl

-- ---- a reference that stands in a descriptor

module _ (name : List ℕ) where
  abbrev Has : Desc → Type 0
  Has d = is_among name (references d) ≡ true

  has : (d : Desc) {names : Names} → references d ≡ names → is_among name names ≡ true → Has d
  has d e h = ap (is_among name) e ∙ h

  in_joined : {X : Type 0} (f : X → Names) (xs : List X) (x : X)
      → Contains xs x → is_among name (f x) ≡ true → is_among name (flat_map f xs) ≡ true
  in_joined f xs x c h = among_joined name f xs ∙ any_contained (λ x. is_among name (f x)) xs x c h

  pub in_fields : (fs : List Field) (f : Field)
      → Contains fs f → Has f.desc → is_among name (references_in_fields fs) ≡ true
  in_fields fs f c h = in_joined (λ f. references f.desc) fs f c h

  has_part : (whole d : Desc) → StandsIn whole d → Has d → Has whole
  has_part whole d the_whole h = h
  has_part whole d (in_option {d = p} x s e) h = has_part whole p s (has p (references_row p (Desc-F.Option x) e) h)
  has_part whole d (in_list {d = p} x min max s e) h =
      has_part whole p s (has p (references_row p (Desc-F.List x min max) e) h)
  has_part whole d (in_map {d = p} x s e) h = has_part whole p s (has p (references_row p (Desc-F.Map x) e) h)
  has_part whole d (in_field {d = p} fs deny f s e c) h =
      has_part whole p s (has p (of_struct p fs deny e) (in_fields fs f c h))
  has_part whole d (in_payload {d = p} vs v x s e c q) h =
      let here = ap (is_among name) (payload_references v x q) ∙ h in
      has_part whole p s (has p (of_external p vs e) (in_joined references_in_variant vs v c here))
  has_part whole d (in_variant {d = p} tag vs v f s e c k) h =
      let here = in_fields (tagged_fields v) f k h in
      has_part whole p s (has p (of_tagged p tag vs e) (in_joined references_in_tagged vs v c here))
  has_part whole d (in_alternative {d = p} ds x s e c) h =
      has_part whole p s (has p (of_choice p ds e) (in_joined references ds x c h))

  -- is among its references
  pub mentioned : (whole : Desc) → Mentions whole name → is_among name (references whole) ≡ true
  mentioned whole (d, s, e) =
      has_part whole d s (has d (references_row d (Desc-F.Ref name) e) (or_left _ _ (at_itself name)))
