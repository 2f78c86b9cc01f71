-- The schema of a descriptor is never refused.
use Rattle.std.proofs.Common.{◌≡◌, ℕ, ℤ, List, [], ◌∷◌, ◌++◌, map, filter, Option, Some, None, option_map, option_and_then, unwrap_or, Bool, true, false, if◌then◌else◌, MatchOption, refl, sym, ◌∙◌, ap, subst}
use Rattle.std.specs.List.{AllByRecursion, list_all, list_any}
use Rattle.std.specs.Option.{option_map_or, option_or}
use Rattle.std.specs.Prelude.{⊤}
use Rattle.schema_values.specs.declared.json_value.Json.{Json, Text as Words}
use Rattle.schema_values.specs.declared.json_value.Json.TheVariants as json
use Rattle.schema_values.specs.declared.schema.ArrayParts.{roll-ArrayParts}
use Rattle.schema_values.specs.declared.schema.InstanceType.TheVariants.{Object, Array, String}
use Rattle.schema_values.specs.declared.schema.InstanceTypes.TheVariants.{Single}
use Rattle.schema_values.specs.declared.schema.Items.{One}
use Rattle.schema_values.specs.declared.schema.ObjectParts.{roll-ObjectParts, out-roll-ObjectParts}
use Rattle.schema_values.specs.declared.schema.Property.{Property}
use Rattle.schema_values.specs.declared.schema.Schema.{Schema, Bool as Truth}
use Rattle.schema_values.specs.declared.schema.SchemaObject.{SchemaObject-F, roll-SchemaObject, out-roll-SchemaObject}
use Rattle.schema_values.specs.declared.schema.Subschemas.{Subschemas, roll-Subschemas}
use Rattle.openapi_values.specs.declared.j2oas.J2oasError.TheVariants.{BadEnumValue, BadSubschema}
use Rattle.openapi_values.specs.Refusal.{Refusal, Within, Level, first_of, own_items_refusal, is_value_of, values_refusal, bounds_refusal, object_step, refusal_of, array_within, object_parts_refusal, property_refusal, subschemas_inner}
use Rattle.openapi_values.proofs.CallerLemmas.{truth-refusal, object-refusal, item-refusal, property-refusal, array-refusal, object_parts-refusal, one_kind-refusal, inner-refusal, parts-refusal}
use Rattle.descriptors.specs.declared.desc.Desc.{Desc}
use Rattle.descriptors.specs.declared.desc.Desc.TheOpen.{Desc-F}
use Rattle.descriptors.specs.declared.desc.Desc.TheViews.{out-roll-Desc}
use Rattle.descriptors.specs.declared.desc.Field.{Field}
use Rattle.descriptors.specs.declared.desc.IntKind.{IntKind}
use Rattle.descriptors.specs.declared.desc.Named.{Named}
use Rattle.descriptors.specs.declared.desc.TaggedVariant.{TaggedVariant}
use Rattle.descriptors.specs.declared.desc.Variant.{Variant}
use Rattle.descriptors.specs.declared.table.Definition.{Definition}
use Rattle.descriptors.specs.Definitions.{tagged_description, tagged_fields, tagged_name}
use Rattle.typed_values.specs.DescBeside.{Beside, beside_with}
use Rattle.schema_values.specs.Order.{sorted_by, property_name, same_name}
use Rattle.typed_values.specs.SchemaTable.{bare_names, default_of, is_described, least_shown}
use Rattle.schema_values.specs.Parts.{Parts, no_parts}
use Rattle.typed_values.specs.Schemas.{Sketch, object_of, no_subschemas, of_single, annotatable, with_null, with_default, with_description, property, property_of, required_names, nothing_more, number_bounds, number_parts, list_of, struct_parts, map_of, choice_of, one_of, all_or_none, other_members, texts_of, not_described, enumerated, described_choice, plain_choice, choices_of, enumeration, external_choices, payload_choices, tagged_choice, sketch_step, schema_sketch, schema_parts, sketch_of_field, sketch_of_tagged, sketch_of_variant, schema_value}
use Rattle.schema_values.proofs.CallerLemmas.{all_sorted}
use Rattle.typed_values.proofs.CallerLemmas.{InField, InFields, InTagged, InVariant, KnownLevel, firsts, by_levels, each_holds, parts_row, sketch_level}
use Rattle.written_schemas.proofs.SchemaForms.{StructParts, object_parts, in_all_of, kept, wrapped}

-- parts in which each part with schemas stands as its refusal
abbrev level_of : Parts → Level SchemaObject-F
level_of p = record {
  title = p.title;
  description = p.description;
  default = p.default;
  deprecated = p.deprecated;
  read_only = p.read_only;
  write_only = p.write_only;
  nullable = p.nullable;
  instance_type = p.instance_type;
  format = p.format;
  enum_values = p.enum_values;
  const_value = p.const_value;
  subschemas = option_map subschemas_inner p.subschemas;
  number = p.number;
  string = p.string;
  array = option_map array_within p.array;
  object = option_map object_parts_refusal p.object;
  reference = p.reference;
  extensions = p.extensions;
}

by_parts : (p : Parts) → refusal_of (object_of p) ≡ object_step (level_of p)
by_parts p = object-refusal (roll-SchemaObject p) ∙ parts-refusal (roll-SchemaObject p) ∙ ap (λ (q : Parts). object_step (level_of q)) (out-roll-SchemaObject p)

abbrev Taken : Parts → Type 0
Taken p = refusal_of (object_of p) ≡ None

all_none : {X : Type 0} (f : X → Refusal) (xs : List X) → AllByRecursion (λ x. f x ≡ None) xs → first_of (map f xs) ≡ None
all_none f [] h = refl
all_none f (x ∷ xs) h = ap (λ (r : Refusal). option_or r (first_of (map f xs))) h.0 ∙ all_none f xs h.1

abbrev of_subschemas : Subschemas → Parts
of_subschemas s = record no_parts { subschemas = Some s }

-- subschemas of one kind, none of which is refused
one_kind_taken : (s : Subschemas) → (subschemas_inner s).one_kind ≡ true → (subschemas_inner s).refusal ≡ None → Taken (of_subschemas s)
one_kind_taken s one none =
    by_parts (of_subschemas s)
    ∙ ap (λ (b : Bool). option_or (first_of ((if b then None else Some BadSubschema) ∷ [])) (subschemas_inner s).refusal) one
    ∙ none

all_of_taken : (p : Parts) → Taken p → Taken (of_subschemas (in_all_of p))
all_of_taken p h = one_kind_taken (in_all_of p) (one_kind-refusal (in_all_of p)) (inner-refusal (in_all_of p) ∙ ap (λ (r : Refusal). option_or (option_or r None) None) h)

annotatable_taken_by : (p : Parts) (r : Option (List ℕ)) → p.reference ≡ r → Taken p → Taken (annotatable p)
annotatable_taken_by p None e h = subst Taken (sym (kept p e)) h
annotatable_taken_by p (Some text) e h = subst Taken (sym (wrapped p text e)) (all_of_taken p h)

annotatable_taken : (p : Parts) → Taken p → Taken (annotatable p)
annotatable_taken p h = annotatable_taken_by p p.reference refl h

null_taken : (p : Parts) → Taken p → Taken (with_null p)
null_taken p h = by_parts (with_null p) ∙ sym (by_parts (annotatable p)) ∙ annotatable_taken p h

-- a description changes no refusal
pub described_taken : (description : Option (List ℕ)) (p : Parts) → refusal_of (object_of p) ≡ None → refusal_of (object_of (with_description description p)) ≡ None
described_taken None p h = h
described_taken (Some text) p h = by_parts (with_description (Some text) p) ∙ sym (by_parts (annotatable p)) ∙ annotatable_taken p h

-- nor does a default
defaulted_taken : (default : Option Json) (p : Parts) → Taken p → Taken (with_default default p)
defaulted_taken None p h = h
defaulted_taken (Some json) p h = by_parts (with_default (Some json) p) ∙ sym (by_parts (annotatable p)) ∙ annotatable_taken p h

list_taken : (p : Parts) (min max : Option ℕ) → Taken p → Taken (list_of (object_of p) min max)
list_taken p min max h =
    let array = roll-ArrayParts (record { items = Some (One (object_of p)); min = min; max = max }) in
    by_parts (list_of (object_of p) min max)
    ∙ ap (λ (items : Option Within). option_or (first_of (own_items_refusal (Some (Single Array)) items ∷ [])) (option_or (option_and_then (λ items. items.refusal) items) None))
    (array-refusal array ∙ ap (λ (items : Within). Some items) (item-refusal (object_of p) ∙ ap (λ (r : Refusal). record { by_place = false; refusal = r }) h))

-- an object of which neither a property nor the schema of other members is refused
object_taken : (o : StructParts) → AllByRecursion (λ (p : Property). property_refusal p ≡ None) o.properties → unwrap_or (option_map refusal_of o.additional) None ≡ None
    → Taken (record (of_single Object) { object = Some (roll-ObjectParts o) })
object_taken o properties additional =
    by_parts (record (of_single Object) { object = Some (roll-ObjectParts o) })
    ∙ ap (λ (r : Refusal). option_or r None) (object_parts-refusal (roll-ObjectParts o)
    ∙ ap (λ (q : StructParts). option_or (first_of (map property_refusal q.properties)) (unwrap_or (option_map refusal_of q.additional) None)) (out-roll-ObjectParts o)
    ∙ ap (λ (r : Refusal). option_or r (unwrap_or (option_map refusal_of o.additional) None)) (all_none property_refusal o.properties properties)
    ∙ additional)

nothing_more_taken : (deny : Bool) → unwrap_or (option_map refusal_of (nothing_more deny)) None ≡ None
nothing_more_taken true = truth-refusal false
nothing_more_taken false = refl

truth_or_taken : (truth : Option Bool) (p : Parts) → Taken p → refusal_of (option_map_or Truth truth (object_of p)) ≡ None
truth_or_taken (Some truth) p h = truth-refusal truth
truth_or_taken None p h = h

map_taken : (s : Sketch) → Taken s.parts → Taken (map_of (other_members s))
map_taken s h = object_taken (record { properties = []; required = []; additional = Some (other_members s); min = None; max = None }) tt (truth_or_taken s.truth s.parts h)

abbrev AreTaken : List Schema → Type 0
AreTaken = AllByRecursion (λ (s : Schema). refusal_of s ≡ None)

choice_taken : (schemas : List Schema) → AreTaken schemas → Taken (choice_of schemas)
choice_taken schemas h =
    let chosen = roll-Subschemas (record no_subschemas { any_of = Some schemas }) in
    one_kind_taken chosen (one_kind-refusal chosen) (inner-refusal chosen ∙ ap (λ (r : Refusal). option_or r None) (all_none refusal_of schemas h))

one_of_taken : (schemas : List Schema) → AreTaken schemas → Taken (one_of schemas)
one_of_taken schemas h =
    let chosen = roll-Subschemas (record no_subschemas { one_of = Some schemas }) in
    one_kind_taken chosen (one_kind-refusal chosen) (inner-refusal chosen ∙ ap (λ (r : Refusal). option_or r None) (all_none refusal_of schemas h))

nothing_taken : Taken (all_or_none false).parts
nothing_taken =
    let none = roll-Subschemas (record no_subschemas { not = Some (Truth true) }) in
    one_kind_taken none (one_kind-refusal none) (inner-refusal none ∙ truth-refusal true)

-- each bound stands in one form
bounds_taken : (low high : Option ℤ) → bounds_refusal (number_bounds low high) ≡ None
bounds_taken None None = refl
bounds_taken None (Some high) = refl
bounds_taken (Some low) None = refl
bounds_taken (Some low) (Some high) = refl

int_taken : (kind : IntKind) (min max : Option ℤ) → Taken (number_parts kind min max)
int_taken kind min max = by_parts (number_parts kind min max) ∙ ap (λ (r : Refusal). option_or (first_of (r ∷ [])) None) (bounds_taken (least_shown kind min) max)

-- ---- enumerations

all_texts : (ns : List Named) → list_all (is_value_of String) (texts_of ns) ≡ true
all_texts [] = refl
all_texts (n ∷ ns) = rw (json.outs-Text n.name) (all_texts ns)

texts_taken : (ns : List Named) → values_refusal (Some (Single String)) (texts_of ns) ≡ None
texts_taken [] = refl
texts_taken (n ∷ ns) = ap (λ (b : Bool). if b then None else Some BadEnumValue) (all_texts (n ∷ ns))

listed_taken : (ns : List Named) → Taken (enumerated (texts_of ns))
listed_taken ns = by_parts (enumerated (texts_of ns)) ∙ ap (λ (r : Refusal). option_or (first_of (r ∷ [])) None) (texts_taken ns)

described_choices_taken : (ns : List Named) → AreTaken (map described_choice ns)
described_choices_taken [] = tt
described_choices_taken (n ∷ ns) = (described_taken n.description (enumerated (texts_of (n ∷ []))) (listed_taken (n ∷ [])), described_choices_taken ns)

choices_taken : (ns ds : List Named) → AreTaken (plain_choice (texts_of ns) ++ map described_choice ds)
choices_taken [] ds = described_choices_taken ds
choices_taken (n ∷ ns) ds = (listed_taken (n ∷ ns), described_choices_taken ds)

enumeration_taken : (ns : List Named) → Taken (enumeration ns)
enumeration_taken ns = by_case (list_any is_described ns)
  where
    by_case : (b : Bool) → Taken (if b then one_of (choices_of ns) else enumerated (texts_of ns))
    by_case true = one_of_taken (choices_of ns) (choices_taken (not_described ns) (filter is_described ns))
    by_case false = listed_taken ns

-- ---- structs

abbrev AreTakenProperties : List Property → Type 0
AreTakenProperties = AllByRecursion (λ (p : Property). property_refusal p ≡ None)

property_taken : (name : List ℕ) (p : Parts) → Taken p → property_refusal (property name p) ≡ None
property_taken name p h = property-refusal (property name p) ∙ h

struct_taken : (ps : List Property) (names : List (List ℕ)) (deny : Bool) → AreTakenProperties ps → Taken (struct_parts ps names deny)
struct_taken ps names deny h =
    object_taken (object_parts (sorted_by property_name ps) (sorted_by same_name names) deny) (all_sorted (λ (p : Property). property_refusal p ≡ None) property_name ps h) (nothing_more_taken deny)

both_taken : (ss others : List Schema) → AreTaken ss → AreTaken others → AreTaken (ss ++ others)
both_taken [] others h k = k
both_taken (s ∷ ss) others h k = (h.0, both_taken ss others h.1 k)

module _ (table : List Definition) where
  abbrev IsTaken : Desc → Type 0
  IsTaken d = Taken (schema_parts table d)

  properties_taken : (fs : List Field) → InFields IsTaken fs → AreTakenProperties (map (property_of table) (map (sketch_of_field table) fs))
  properties_taken [] h = tt
  properties_taken (f ∷ fs) h =
      let described = described_taken f.description (schema_parts table f.desc) h.0 in
      (property_taken f.name _ (defaulted_taken (default_of table f.presence f.desc) _ described), properties_taken fs h.1)

  -- ---- variants

  payloads_taken : (vs : List Variant) → AllByRecursion (InVariant IsTaken) vs → AreTaken (payload_choices (map (sketch_of_variant table) vs))
  payloads_taken [] h = tt
  payloads_taken (v ∷ vs) h = by_payload v.payload h.0 (payloads_taken vs h.1)
    where
      by_payload : (payload : Option Desc) → MatchOption payload ⊤ IsTaken → AreTaken (payload_choices (map (sketch_of_variant table) vs))
          → AreTaken (payload_choices (record { name = v.name; description = v.description; payload = option_map (beside_with (schema_sketch table)) payload } ∷ map (sketch_of_variant table) vs))
      by_payload None taken later = later
      by_payload (Some x) taken later =
          (described_taken v.description _ (struct_taken (property v.name (schema_parts table x) ∷ []) (v.name ∷ []) true (property_taken v.name (schema_parts table x) taken, tt)), later)

  external_taken : (vs : List Variant) → AllByRecursion (InVariant IsTaken) vs → AreTaken (external_choices (map (sketch_of_variant table) vs))
  external_taken vs h =
      let names = bare_names (map (sketch_of_variant table) vs) in
      both_taken (choices_of names) (payload_choices (map (sketch_of_variant table) vs)) (choices_taken (not_described names) (filter is_described names)) (payloads_taken vs h)

  tagged_taken : (tag : List ℕ) (vs : List TaggedVariant) → AllByRecursion (InTagged IsTaken) vs → AreTaken (map (tagged_choice table tag) (map (sketch_of_tagged table) vs))
  tagged_taken tag [] h = tt
  tagged_taken tag (v ∷ vs) h =
      let name = enumerated (Words (tagged_name v) ∷ []) in
      let one = listed_taken (record { name = tagged_name v; description = None } ∷ []) in
      let fields = map (sketch_of_field table) (tagged_fields v) in
      (described_taken (tagged_description v) _ (struct_taken (property tag name ∷ map (property_of table) fields) (tag ∷ required_names fields) false (property_taken tag name one, properties_taken (tagged_fields v) h.0)), tagged_taken tag vs h.1)

  -- ---- one row for each descriptor

  alternatives_taken : (ds : List Desc) → AllByRecursion IsTaken ds → AreTaken (map (λ (s : Beside Sketch). object_of s.made.parts) (map (beside_with (schema_sketch table)) ds))
  alternatives_taken [] h = tt
  alternatives_taken (d ∷ ds) h = (h.0, alternatives_taken ds h.1)

  taken_by : (y : KnownLevel IsTaken) → Taken (sketch_level table (firsts IsTaken y)).parts
  taken_by Desc-F.Any = by_parts _
  taken_by Desc-F.Never = nothing_taken
  taken_by Desc-F.Null = by_parts _
  taken_by Desc-F.Bool = by_parts _
  taken_by Desc-F.Char = by_parts _
  taken_by (Desc-F.Int kind min max) = int_taken kind min max
  taken_by (Desc-F.Text min max format) = by_parts (sketch_step table (Desc-F.Text min max format)).parts
  taken_by (Desc-F.Enumeration ns) = enumeration_taken ns
  taken_by (Desc-F.Option e) = null_taken (schema_parts table e.0) e.1
  taken_by (Desc-F.List e min max) = list_taken (schema_parts table e.0) min max e.1
  taken_by (Desc-F.Map e) = map_taken (schema_sketch table e.0) e.1
  taken_by (Desc-F.Struct es deny) = struct_taken _ (required_names (map (sketch_of_field table) (map (λ e. e.0) es))) deny (properties_taken (map (λ e. e.0) es) (each_holds (InField IsTaken) es))
  taken_by (Desc-F.External es) = one_of_taken _ (external_taken (map (λ e. e.0) es) (each_holds (InVariant IsTaken) es))
  taken_by (Desc-F.Tagged tag es) = one_of_taken _ (tagged_taken tag (map (λ e. e.0) es) (each_holds (InTagged IsTaken) es))
  taken_by (Desc-F.Untagged es) = choice_taken _ (alternatives_taken (map (λ e. e.0) es) (each_holds IsTaken es))
  taken_by (Desc-F.Ref name) = by_parts (sketch_step table (Desc-F.Ref name)).parts

  pub never_refused : (d : Desc) → refusal_of (schema_value table d) ≡ None
  never_refused = by_levels IsTaken (λ y. subst Taken (sym (parts_row table _ (firsts IsTaken y) (out-roll-Desc (firsts IsTaken y)))) (taken_by y))
