-- The written schema of a descriptor is that of the table.
use Rattle.std.proofs.Common.{◌≡◌, ℕ, List, [], ◌∷◌, ◌++◌, map, filter, Option, Some, None, Bool, true, false, if◌then◌else◌, MatchOption, inl, inr, refl, sym, ◌∙◌, ap, codes}
use Rattle.std.specs.List.{AllByRecursion, list_any}
use Rattle.std.specs.Option.{option_map, option_map_or}
use Rattle.std.specs.Prelude.{⊤}
use Rattle.std.proofs.lemmas.List.{map-append}
use Rattle.schema_values.specs.Member.{name_of, member}
use Rattle.schema_values.specs.declared.json_value.Json.{Json, Bool as TruthJson, Text as Words, List as ListOf}
use Rattle.schema_values.specs.declared.json_value.Member.{Member}
use Rattle.schema_values.specs.declared.schema.Property.{Property}
use Rattle.schema_values.specs.declared.schema.Schema.{Schema}
use Rattle.openapi_values.specs.SchemaJson.{schema_json, schema_written, additional_json}
use Rattle.openapi_values.proofs.CallerLemmas.{property-is}
use Rattle.descriptors.specs.declared.desc.Desc.{Desc, out-Desc}
use Rattle.descriptors.specs.declared.desc.Desc.TheOpen.{Desc-F}
use Rattle.descriptors.specs.declared.desc.Desc.TheViews.{out-roll-Desc, roll-Desc}
use Rattle.descriptors.specs.declared.desc.Field.{Field}
use Rattle.descriptors.specs.declared.desc.Named.{Named}
use Rattle.descriptors.specs.declared.desc.Presence.{Presence}
use Rattle.descriptors.specs.declared.desc.Presence.TheVariants.{Required, Nullable, Skipped, Default}
use Rattle.descriptors.specs.declared.desc.TaggedVariant.{TaggedVariant}
use Rattle.descriptors.specs.declared.desc.Variant.{Variant}
use Rattle.descriptors.specs.declared.table.Definition.{Definition}
use Rattle.descriptors.specs.Definitions.{listed_name, tagged_description, tagged_fields, tagged_name}
use Rattle.typed_values.specs.DescBeside.{Beside, beside_with, field_with, tagged_with, variant_with}
use Rattle.schema_values.specs.Order.{sorted_by, property_name, same_name}
use Rattle.typed_values.specs.SchemaTable as drawing
use Rattle.typed_values.specs.SchemaTable.{Drawn, plain, bare_names, described, default_of, is_described, if_members, if_names, if_denied, no_remarks, of_type, drawn, drawn_json, drawn_step, least_shown, schema_json_titled, schema_json_described}
use Rattle.typed_values.specs.Schemas as meant
use Rattle.schema_values.specs.Parts.{Parts}
use Rattle.typed_values.specs.Schemas.{Sketch, object_of, with_null, with_description, one_of, texts_of, not_described, sketch, schema_sketch, schema_parts, sketch_of_field, sketch_of_tagged, sketch_of_variant, schema_value}
use Rattle.typed_values.specs.Levels.{DescLevel}
use Rattle.schema_values.proofs.CallerLemmas.{map_sorted}
use Rattle.typed_values.proofs.CallerLemmas.{InField, InFields, InTagged, InVariant, KnownLevel, firsts, by_levels, each_holds, two_maps, parts_row, sketch_level, sketch_row}
use Rattle.written_schemas.proofs.DrawnParts.{Shows, Bare, Dressed, IsAnnotated, written_under, written_bare, written_so, null_shows, described_shows, defaulted_shows}
use Rattle.written_schemas.proofs.Forms.{drawn_level, drawn_row, field_property}
use Rattle.written_schemas.proofs.SchemaForms.{annotatable_is_free, enumeration_is_free, unmarked}
use Rattle.written_schemas.proofs.SchemaMembers.{beside, remarks_of, int_members, text_members, list_members, property_member, struct_members, map_members, truth_or_written, choice_members, one_of_members, nothing_members}

-- a sketch is drawn so, also where it is the schema of other members
record Sketched (s : Sketch) (w : Drawn) : Type 0 where
  shows : Shows s.parts w
  same_truth : s.truth ≡ w.truth

plainly : (p : Parts) (ms : List Member) → p.reference ≡ None → p ≡ unmarked p → p.nullable ≡ false → remarks_of p ≡ no_remarks → beside p ≡ ms → (truth : Option Bool)
    → Sketched (record { parts = p; truth = truth }) (record (plain ms) { truth = truth })
plainly p ms no_reference is_unmarked no_null none same truth = record {
  shows = inr (
    record {
      no_reference = no_reference;
      is_unmarked = is_unmarked;
      no_title_drawn = refl;
      same_null = no_null;
      same_remarks = none;
      stand = same;
    },
    λ is. absurd (cc is),
  );
  same_truth = refl;
}

-- ---- enumerations

listed_shown : (ns : List Named) → Sketched (sketch (meant.enumerated (texts_of ns))) (drawing.enumerated (map listed_name ns))
listed_shown [] = plainly _ _ refl refl refl refl refl None
listed_shown (n ∷ ns) =
    plainly _ _ refl refl refl refl (ap (λ (js : List Json). of_type (codes "string") (member (codes "enum") (ListOf (Words n.name ∷ js)) ∷ [])) (sym (two_maps Words listed_name (λ n. Words n.name) (λ n. refl) ns))) None

plain_choice_same : (ns : List Named) → map (schema_json None) (meant.plain_choice (texts_of ns)) ≡ drawing.plain_choice (map listed_name ns)
plain_choice_same [] = refl
plain_choice_same (n ∷ ns) = ap (λ (j : Json). j ∷ []) (written_so _ _ (listed_shown (n ∷ ns)).shows)

described_same : (ns : List Named) → map (schema_json None) (map meant.described_choice ns) ≡ map drawing.described_choice ns
described_same [] = refl
described_same (n ∷ ns) =
    ap (λ (j : Json). j ∷ map (schema_json None) (map meant.described_choice ns)) (written_so _ _ (described_shows _ _ n.description (listed_shown (n ∷ [])).shows))
    ∙ ap (λ (js : List Json). drawing.described_choice n ∷ js) (described_same ns)

choices_same : (ns : List Named) → map (schema_json None) (meant.choices_of ns) ≡ drawing.choices_of ns
choices_same ns =
    map-append (schema_json None) (meant.plain_choice (texts_of (not_described ns))) (map meant.described_choice (filter is_described ns))
    ∙ ap (λ (js : List Json). js ++ map (schema_json None) (map meant.described_choice (filter is_described ns))) (plain_choice_same (not_described ns))
    ∙ ap (λ (js : List Json). drawing.plain_choice (map listed_name (not_described ns)) ++ js) (described_same (filter is_described ns))

enumeration_shown : (ns : List Named) → Sketched (sketch (meant.enumeration ns)) (drawing.enumeration ns)
enumeration_shown ns = by_case (list_any is_described ns)
  where
    by_case : (b : Bool) → Sketched (sketch (if b then one_of (meant.choices_of ns) else meant.enumerated (texts_of ns))) (if b then plain (member (codes "oneOf") (ListOf (drawing.choices_of ns)) ∷ []) else drawing.enumerated (map listed_name ns))
    by_case true = plainly _ _ refl refl refl refl (one_of_members (meant.choices_of ns) (drawing.choices_of ns) (choices_same ns)) None
    by_case false = listed_shown ns

-- ---- structs

property_same : (name : List ℕ) (p : Parts) (w : Drawn) → Shows p w → property_member (meant.property name p) ≡ drawing.property name w
property_same name p w h = ap (λ pair. member pair.0 pair.1) (property-is (meant.property name p)) ∙ ap (member name) (written_so p w h)

property_named : (p : Property) → name_of (property_member p) ≡ property_name p
property_named p = ap (λ pair. pair.0) (property-is p)

abbrev object_members : List Member → List (List ℕ) → Bool → List Member
object_members properties required deny = of_type (codes "object") (if_members properties (codes "properties") (if_names required (codes "required") (if_denied deny)))

-- the same properties and the same required names make the same struct
struct_shown : (ps : List Property) (ms : List Member) (names others : List (List ℕ)) (deny : Bool) → map property_member ps ≡ ms → names ≡ others
    → Sketched (sketch (meant.struct_parts ps names deny)) (drawing.struct_drawn ms others deny)
struct_shown ps ms names others deny same same_names =
    plainly _ _ refl refl refl refl
    (struct_members (sorted_by property_name ps) (sorted_by same_name names) deny
    ∙ ap (λ (ms : List Member). object_members ms (sorted_by same_name names) deny) (map_sorted property_name name_of property_member property_named ps ∙ ap (sorted_by name_of) same)
    ∙ ap (λ (names : List (List ℕ)). object_members (sorted_by name_of ms) (sorted_by same_name names) deny) same_names) None

module _ (table : List Definition) where
  abbrev Shown : Desc → Type 0
  Shown d = Sketched (schema_sketch table d) (drawn table d)

  field_same : (f : Field) → Shown f.desc → property_member (meant.property_of table (sketch_of_field table f)) ≡ field_property table f
  field_same f h = property_same f.name _ _ (defaulted_shows _ _ (default_of table f.presence f.desc) (described_shows _ _ f.description h.shows))

  properties_same : (fs : List Field) → InFields Shown fs → map property_member (map (meant.property_of table) (map (sketch_of_field table) fs)) ≡ map (drawing.property_of table) (map (field_with (drawn table)) fs)
  properties_same [] h = refl
  properties_same (f ∷ fs) h =
      ap (λ (m : Member). m ∷ map property_member (map (meant.property_of table) (map (sketch_of_field table) fs))) (field_same f h.0)
      ∙ ap (λ (ms : List Member). field_property table f ∷ ms) (properties_same fs h.1)

  required_with : (p : Presence) (f : Field) (fs : List Field) → f.presence ≡ p → meant.required_names (map (sketch_of_field table) fs) ≡ drawing.required_names (map (field_with (drawn table)) fs)
      → meant.required_names (map (sketch_of_field table) (f ∷ fs)) ≡ drawing.required_names (map (field_with (drawn table)) (f ∷ fs))
  required_with Required f fs e same = rw e (ap (λ (names : List (List ℕ)). f.name ∷ names) same)
  required_with Nullable f fs e same = rw e same
  required_with Skipped f fs e same = rw e same
  required_with (Default tree) f fs e same = rw e same

  required_same : (fs : List Field) → meant.required_names (map (sketch_of_field table) fs) ≡ drawing.required_names (map (field_with (drawn table)) fs)
  required_same [] = refl
  required_same (f ∷ fs) = required_with f.presence f fs refl (required_same fs)

  -- ---- variants

  payload_same : (name : List ℕ) (description : Option (List ℕ)) (x : Desc) → Shown x
      → schema_json None (object_of (with_description description (meant.struct_parts (meant.property name (schema_parts table x) ∷ []) (name ∷ []) true)))
      ≡ drawn_json (described description (drawing.struct_drawn (drawing.property name (drawn table x) ∷ []) (name ∷ []) true))
  payload_same name description x h =
      written_so _ _ (described_shows _ _ description (struct_shown (meant.property name (schema_parts table x) ∷ []) _ (name ∷ []) _ true (ap (λ (m : Member). m ∷ []) (property_same name _ _ h.shows)) refl).shows)

  payloads_same : (vs : List Variant) → AllByRecursion (InVariant Shown) vs → map (schema_json None) (meant.payload_choices (map (sketch_of_variant table) vs)) ≡ drawing.payload_choices (map (variant_with (drawn table)) vs)
  payloads_same [] h = refl
  payloads_same (v ∷ vs) h = by_payload v.payload h.0 (payloads_same vs h.1)
    where
      by_payload : (payload : Option Desc) → MatchOption payload ⊤ Shown → map (schema_json None) (meant.payload_choices (map (sketch_of_variant table) vs)) ≡ drawing.payload_choices (map (variant_with (drawn table)) vs)
          → map (schema_json None) (meant.payload_choices (record { name = v.name; description = v.description; payload = option_map (beside_with (schema_sketch table)) payload } ∷ map (sketch_of_variant table) vs))
          ≡ drawing.payload_choices (record { name = v.name; description = v.description; payload = option_map (beside_with (drawn table)) payload } ∷ map (variant_with (drawn table)) vs)
      by_payload None shown later = later
      by_payload (Some x) shown later =
          ap (λ (j : Json). j ∷ map (schema_json None) (meant.payload_choices (map (sketch_of_variant table) vs))) (payload_same v.name v.description x shown)
          ∙ ap (λ (js : List Json). drawn_json (described v.description (drawing.struct_drawn (drawing.property v.name (drawn table x) ∷ []) (v.name ∷ []) true)) ∷ js) later

  names_same : (vs : List Variant) → bare_names (map (sketch_of_variant table) vs) ≡ bare_names (map (variant_with (drawn table)) vs)
  names_same [] = refl
  names_same (v ∷ vs) = by_payload v.payload (names_same vs)
    where
      by_payload : (payload : Option Desc) → bare_names (map (sketch_of_variant table) vs) ≡ bare_names (map (variant_with (drawn table)) vs)
          → bare_names (record { name = v.name; description = v.description; payload = option_map (beside_with (schema_sketch table)) payload } ∷ map (sketch_of_variant table) vs)
          ≡ bare_names (record { name = v.name; description = v.description; payload = option_map (beside_with (drawn table)) payload } ∷ map (variant_with (drawn table)) vs)
      by_payload None later = ap (λ (ns : List Named). record { name = v.name; description = v.description } ∷ ns) later
      by_payload (Some x) later = later

  external_same : (vs : List Variant) → AllByRecursion (InVariant Shown) vs → map (schema_json None) (meant.external_choices (map (sketch_of_variant table) vs)) ≡ drawing.external_choices (map (variant_with (drawn table)) vs)
  external_same vs h =
      let names = bare_names (map (sketch_of_variant table) vs) in
      map-append (schema_json None) (meant.choices_of names) (meant.payload_choices (map (sketch_of_variant table) vs))
      ∙ ap (λ (js : List Json). js ++ map (schema_json None) (meant.payload_choices (map (sketch_of_variant table) vs))) (choices_same names)
      ∙ ap (λ (js : List Json). drawing.choices_of names ++ js) (payloads_same vs h)
      ∙ ap (λ (ns : List Named). drawing.choices_of ns ++ drawing.payload_choices (map (variant_with (drawn table)) vs)) (names_same vs)

  tagged_same : (tag : List ℕ) (v : TaggedVariant) → InTagged Shown v → schema_json None (meant.tagged_choice table tag (sketch_of_tagged table v)) ≡ drawing.tagged_choice table tag (tagged_with (drawn table) v)
  tagged_same tag v h =
      let one = listed_shown (record { name = tagged_name v; description = None } ∷ []) in
      let rest = map (meant.property_of table) (map (sketch_of_field table) (tagged_fields v)) in
      written_so _ _ (described_shows _ _ (tagged_description v) (struct_shown (meant.property tag (meant.enumerated (Words (tagged_name v) ∷ [])) ∷ rest) _ _ _ false
      (ap (λ (m : Member). m ∷ map property_member rest) (property_same tag _ _ one.shows)
      ∙ ap (λ (ms : List Member). drawing.property tag (drawing.enumerated (tagged_name v ∷ [])) ∷ ms) (properties_same (tagged_fields v) h))
      (ap (λ (names : List (List ℕ)). tag ∷ names) (required_same (tagged_fields v)))).shows)

  tagged_choices_same : (tag : List ℕ) (vs : List TaggedVariant) → AllByRecursion (InTagged Shown) vs
      → map (schema_json None) (map (meant.tagged_choice table tag) (map (sketch_of_tagged table) vs)) ≡ map (drawing.tagged_choice table tag) (map (tagged_with (drawn table)) vs)
  tagged_choices_same tag [] h = refl
  tagged_choices_same tag (v ∷ vs) h =
      ap (λ (j : Json). j ∷ map (schema_json None) (map (meant.tagged_choice table tag) (map (sketch_of_tagged table) vs))) (tagged_same tag v h.0)
      ∙ ap (λ (js : List Json). drawing.tagged_choice table tag (tagged_with (drawn table) v) ∷ js) (tagged_choices_same tag vs h.1)

  -- ---- one row for each descriptor

  abbrev schema_beside : Beside Sketch → Schema
  schema_beside s = object_of s.made.parts

  alternatives_same : (ds : List Desc) → AllByRecursion Shown ds → map (schema_json None) (map schema_beside (map (beside_with (schema_sketch table)) ds)) ≡ map (λ s. drawn_json s.made) (map (beside_with (drawn table)) ds)
  alternatives_same [] h = refl
  alternatives_same (d ∷ ds) h =
      ap (λ (j : Json). j ∷ map (schema_json None) (map schema_beside (map (beside_with (schema_sketch table)) ds))) (written_so (schema_parts table d) (drawn table d) h.0.shows)
      ∙ ap (λ (js : List Json). drawn_json (drawn table d) ∷ js) (alternatives_same ds h.1)

  others_same : (s : Sketch) (w : Drawn) → Sketched s w → additional_json (schema_written (meant.other_members s)) ≡ drawing.other_members w
  others_same s w h =
      truth_or_written s.truth s.parts (drawn_json w) (written_so s.parts w h.shows)
      ∙ ap (λ (t : Option Bool). option_map_or TruthJson t (drawn_json w)) h.same_truth

  null_shown : (s : Sketch) (w : Drawn) → Sketched s w → Sketched (sketch (with_null s.parts)) (record w { nullable = true; truth = None })
  null_shown s w h = record { shows = null_shows s.parts w h.shows; same_truth = refl }

  shown_by : (y : KnownLevel Shown) → Sketched (sketch_level table (firsts Shown y)) (drawn_step table (drawn_level table (firsts Shown y)))
  shown_by Desc-F.Any = plainly _ _ refl refl refl refl refl (Some true)
  shown_by Desc-F.Never = plainly _ _ refl refl refl refl nothing_members (Some false)
  shown_by Desc-F.Null = plainly _ _ refl refl refl refl refl None
  shown_by Desc-F.Bool = plainly _ _ refl refl refl refl refl None
  shown_by Desc-F.Char = plainly _ _ refl refl refl refl refl None
  shown_by (Desc-F.Int kind min max) = plainly _ _ refl refl refl refl (int_members kind (least_shown kind min) max) None
  shown_by (Desc-F.Text min max format) = plainly _ _ refl refl refl refl (text_members min max format) None
  shown_by (Desc-F.Enumeration ns) = enumeration_shown ns
  shown_by (Desc-F.Option e) = null_shown (schema_sketch table e.0) (drawn table e.0) e.1
  shown_by (Desc-F.List e min max) =
      plainly _ _ refl refl refl refl (list_members (schema_value table e.0) (drawn_json (drawn table e.0)) min max (written_so (schema_parts table e.0) (drawn table e.0) e.1.shows)) None
  shown_by (Desc-F.Map e) =
      plainly _ _ refl refl refl refl (map_members (meant.other_members (schema_sketch table e.0)) (drawing.other_members (drawn table e.0)) (others_same (schema_sketch table e.0) (drawn table e.0) e.1)) None
  shown_by (Desc-F.Struct es deny) = struct_shown _ _ _ _ deny (properties_same (map (λ e. e.0) es) (each_holds (InField Shown) es)) (required_same (map (λ e. e.0) es))
  shown_by (Desc-F.External es) = plainly _ _ refl refl refl refl (one_of_members _ _ (external_same (map (λ e. e.0) es) (each_holds (InVariant Shown) es))) None
  shown_by (Desc-F.Tagged tag es) = plainly _ _ refl refl refl refl (one_of_members _ _ (tagged_choices_same tag (map (λ e. e.0) es) (each_holds (InTagged Shown) es))) None
  shown_by (Desc-F.Untagged es) = plainly _ _ refl refl refl refl (choice_members _ _ (alternatives_same (map (λ e. e.0) es) (each_holds Shown es))) None
  shown_by (Desc-F.Ref name) = record { shows = inl (record { name = name; parts_are = refl; drawn_is = refl }); same_truth = refl }

  shown : (d : Desc) → Shown d
  shown = by_levels Shown (λ y.
      let x = firsts Shown y in
      rw (sketch_row table (roll-Desc x) x (out-roll-Desc x), drawn_row table (roll-Desc x) x (out-roll-Desc x)) (shown_by y))

  -- ---- the laws

  pub written_plain : (d : Desc) → schema_json None (schema_value table d) ≡ drawing.schema_json table d
  written_plain d = written_so _ _ (shown d).shows

  pub written_described : (description : Option (List ℕ)) (d : Desc) → schema_json None (object_of (with_description description (schema_parts table d))) ≡ schema_json_described table description d
  written_described description d = written_so _ _ (described_shows (schema_parts table d) (drawn table d) description (shown d).shows)

  -- the parts of a descriptor, by its level
  by_level : (d : Desc) (x : DescLevel) → out-Desc d ≡ x → (o : Option (List ℕ)) → (sketch_level table x).parts.reference ≡ o → (schema_parts table d).reference ≡ o
  by_level d x e o f = ap (λ (p : Parts). p.reference) (parts_row table d x e) ∙ f

  dressed_by : (p : Parts) (w : Drawn) → p.reference ≡ None → Shows p w → Dressed p w × IsAnnotated w
  dressed_by p w e (inl b) = absurd (let u : None ≡ Some _ = sym e ∙ ap (λ (q : Parts). q.reference) b.parts_are in cc u)
  dressed_by p w e (inr d) = d

  bare_by : (p : Parts) (w : Drawn) (text : List ℕ) → p.reference ≡ Some text → Shows p w → Bare p w
  bare_by p w text e (inl b) = b
  bare_by p w text e (inr (d, annotated)) = absurd (let u : None ≡ Some text = sym d.no_reference ∙ e in cc u)

  module _ (name : List ℕ) (d : Desc) where
    under_title : (x : DescLevel) → out-Desc d ≡ x → (sketch_level table x).parts.reference ≡ None → schema_json (Some name) (schema_value table d) ≡ drawn_json (record (drawn table d) { title = Some name })
    under_title x e f =
        let (dressed, annotated) = dressed_by (schema_parts table d) (drawn table d) (by_level d x e None f) (shown d).shows in
        written_under (Some name) (schema_parts table d) (drawn table d) dressed annotated

    alone : (reference : List ℕ) → out-Desc d ≡ Desc-F.Ref reference → schema_json (Some name) (schema_value table d) ≡ drawn_json (drawn table d)
    alone reference e = written_bare (Some name) (schema_parts table d) (drawn table d) (bare_by (schema_parts table d) (drawn table d) _ (by_level d (Desc-F.Ref reference) e _ refl) (shown d).shows)

    titled_by : (x : DescLevel) → out-Desc d ≡ x → schema_json (Some name) (schema_value table d) ≡ schema_json_titled table name d
    titled_by Desc-F.Any e = rw e (under_title Desc-F.Any e refl)
    titled_by Desc-F.Never e = rw e (under_title Desc-F.Never e refl)
    titled_by Desc-F.Null e = rw e (under_title Desc-F.Null e refl)
    titled_by Desc-F.Bool e = rw e (under_title Desc-F.Bool e refl)
    titled_by Desc-F.Char e = rw e (under_title Desc-F.Char e refl)
    titled_by (Desc-F.Int kind min max) e = rw e (under_title (Desc-F.Int kind min max) e refl)
    titled_by (Desc-F.Text min max format) e = rw e (under_title (Desc-F.Text min max format) e refl)
    titled_by (Desc-F.Enumeration ns) e = rw e (under_title (Desc-F.Enumeration ns) e (enumeration_is_free ns))
    titled_by (Desc-F.Option x) e = rw e (under_title (Desc-F.Option x) e (annotatable_is_free (schema_parts table x)))
    titled_by (Desc-F.List x min max) e = rw e (under_title (Desc-F.List x min max) e refl)
    titled_by (Desc-F.Map x) e = rw e (under_title (Desc-F.Map x) e refl)
    titled_by (Desc-F.Struct fs deny) e = rw e (under_title (Desc-F.Struct fs deny) e refl)
    titled_by (Desc-F.External vs) e = rw e (under_title (Desc-F.External vs) e refl)
    titled_by (Desc-F.Tagged tag vs) e = rw e (under_title (Desc-F.Tagged tag vs) e refl)
    titled_by (Desc-F.Untagged ds) e = rw e (under_title (Desc-F.Untagged ds) e refl)
    titled_by (Desc-F.Ref reference) e = rw e (alone reference e)

    -- under a title a reference stays as it is
    pub written_titled : schema_json (Some name) (schema_value table d) ≡ schema_json_titled table name d
    written_titled = titled_by (out-Desc d) refl
