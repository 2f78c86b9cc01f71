-- The schema of a descriptor that passes its checks is sound.
use Rattle.std.proofs.Common.{◌≡◌, ◌≢◌, ℕ, ℤ, Bool, true, false, List, [], ◌∷◌, map, Option, Some, None, option_map, MatchOption, refl, sym, ◌∙◌, ap, subst}
use Rattle.std.specs.List.{AllByRecursion}
use Rattle.std.specs.Prelude.{⊤, Contains}
use Rattle.std.proofs.lemmas.Bool.{and_parts, true_from_ne_false}
use Rattle.schema_values.specs.declared.json_value.Member.{Member}
use Rattle.schema_values.specs.Member.{name_of}
use Rattle.schema_values.specs.Sound.{IsSound, IsWhole, AreDistinct}
use Rattle.schema_values.specs.SoundMembers.{HasSoundValue, HasSoundMembers}
use Rattle.schema_values.proofs.CallerLemmas.{contains_first, contains_later}
use Rattle.openapi_values.specs.SoundContents.{IsCount}
use Rattle.descriptors.specs.declared.desc.Desc.{Desc, out-Desc}
use Rattle.descriptors.specs.declared.desc.Desc.TheOpen.{Desc-F}
use Rattle.descriptors.specs.declared.desc.Desc.TheViews.{out-roll-Desc, roll-Desc}
use Rattle.descriptors.specs.declared.desc.Field.{Field}
use Rattle.descriptors.specs.declared.desc.IntKind.{IntKind}
use Rattle.descriptors.specs.declared.desc.IntKind.TheVariants.{I8, I16, I32, I64, U8, U16, U32, U64}
use Rattle.descriptors.specs.declared.desc.Presence.{Presence}
use Rattle.descriptors.specs.declared.desc.Presence.TheVariants.{Required, Nullable, Skipped, Default}
use Rattle.descriptors.specs.declared.desc.TaggedVariant.{TaggedVariant}
use Rattle.descriptors.specs.declared.desc.Variant.{Variant}
use Rattle.descriptors.specs.declared.table.Definition.{Definition}
use Rattle.typed_values.specs.Checks.{are_bounds_right, is_bound_of, is_number_order, names_of_fields, IsBadField, IsPlainlyRight, default_misfits, of_struct, of_variant, TablePasses, DescPasses}
use Rattle.descriptors.specs.Definitions.{field_name, tagged_description, tagged_fields, tagged_name}
use Rattle.typed_values.specs.DescBeside.{Beside, beside_with, field_with, level_with, tagged_with, variant_with}
use Rattle.typed_values.specs.Fits.{fits_under}
use Rattle.typed_values.specs.Lengths.{are_lengths_short, is_short, HasShortLengths}
use Rattle.typed_values.specs.Levels.{DescLevel}
use Rattle.typed_values.specs.Parts.{StandsIn, the_whole, in_option, in_list, in_map, in_field, in_payload, in_variant, in_alternative}
use Rattle.typed_values.specs.Schemas.{in_header, in_query}
use Rattle.typed_values.specs.SchemaTable.{Drawn, bare_names, choices_of, default_of, defaulted, described, drawn, drawn_json, drawn_step, enumerated, external_choices, least_shown, payload_choices, property, property_of, required_names, schema_json, schema_json_described, schema_json_titled, tagged_choice, titled}
use Rattle.typed_values.proofs.CallerLemmas.{distinct_at, fields_distinct, names_apart, InField, InFields, InTagged, InVariant, KnownLevel, firsts, by_levels, each_holds, made_row, kind_whole, stands_through, read_back}
use Rattle.written_schemas.proofs.KeyedMembers.{IsSoundlyDrawn, defaulted_sound, described_sound, drawn_sound, null_sound, titled_sound}
use Rattle.written_schemas.proofs.SoundForms.{any_sound, appended, character_sound, choice_sound, choices_sound, enumerated_sound, enumeration_sound, every_sound, length_is_count, list_sound, map_sound, null_alone_sound, number_sound, reference_sound, struct_sound, text_sound, truth_sound}

-- ---- bounds

bound_whole : (kind : IntKind) (bound : Option ℤ) → is_bound_of kind bound ≡ true → MatchOption bound ⊤ IsWhole
bound_whole kind None e = tt
bound_whole kind (Some n) e = kind_whole kind n e

least_whole : (kind : IntKind) (min : Option ℤ) → is_bound_of kind min ≡ true → MatchOption (least_shown kind min) ⊤ IsWhole
least_whole kind (Some n) e = kind_whole kind n e
least_whole I8 None e = tt
least_whole I16 None e = tt
least_whole I32 None e = tt
least_whole I64 None e = tt
least_whole U8 None e = length_is_count 0 refl
least_whole U16 None e = length_is_count 0 refl
least_whole U32 None e = length_is_count 0 refl
least_whole U64 None e = length_is_count 0 refl

length_counted : (length : Option ℕ) → is_short length ≡ true → MatchOption length ⊤ IsCount
length_counted None e = tt
length_counted (Some n) e = length_is_count n e

module _ (table : List Definition) (d : Desc) (right : IsPlainlyRight table d) where
  ranged : (z : DescLevel) → out-Desc d ≡ z → are_bounds_right z ≡ true
  ranged z e = true_from_ne_false (are_bounds_right z) (λ no. right.ranges (ap are_bounds_right e ∙ no))

-- ---- fields, variants and alternatives

-- a tag that no field has as its name
new_tag : (tag : List ℕ) (fs : List Field) → ((f : Field) → Contains fs f → f.name ≡ tag → ⊥) → AllByRecursion (λ other. tag ≢ other) (map field_name fs)
new_tag tag [] none = tt
new_tag tag (f ∷ fs) none = (λ e. none f (contains_first f fs) (sym e), new_tag tag fs (λ g c. none g (contains_later f fs g c)))

module _ (table : List Definition) (whole : Desc) (passes : TablePasses table) (right : DescPasses table whole) (short : HasShortLengths whole) where
  abbrev SoundWhere : Desc → Type 0
  SoundWhere d = StandsIn whole d → IsSoundlyDrawn (drawn table d)

  abbrev properties : List Field → List Member
  properties fs = map (property_of table) (map (field_with (drawn table)) fs)

  module _ (f : Field) (stands : StandsIn whole f.desc) (not_bad : IsBadField table f → ⊥) where
    default_is_sound : (p : Presence) → f.presence ≡ p → MatchOption (default_of table p f.desc) ⊤ IsSound
    default_is_sound Required q = tt
    default_is_sound Nullable q = tt
    default_is_sound Skipped q = tt
    default_is_sound (Default tree) q =
        let fit : fits_under table f.desc tree f.desc ≡ true = true_from_ne_false _ (λ no. not_bad (default_misfits tree q (λ yes. let w : false ≡ true = sym no ∙ yes in cc w))) in
        (read_back table f.desc passes (λ d s. right d (stands_through stands s)) tree fit).0

    field_sound : IsSoundlyDrawn (drawn table f.desc) → IsSound (drawn_json (defaulted (default_of table f.presence f.desc) (described f.description (drawn table f.desc))))
    field_sound h =
        let under = described_sound f.description (drawn table f.desc) h in
        drawn_sound _ (defaulted_sound (default_of table f.presence f.desc) (described f.description (drawn table f.desc)) (default_is_sound f.presence refl) under)

  properties_sound : (fs : List Field) → ((f : Field) → Contains fs f → StandsIn whole f.desc) → ((f : Field) → Contains fs f → IsBadField table f → ⊥) → InFields SoundWhere fs → AllByRecursion HasSoundValue (properties fs)
  properties_sound [] stand good h = tt
  properties_sound (f ∷ fs) stand good h =
      let stands = stand f (contains_first f fs) in (
        field_sound f stands (good f (contains_first f fs)) (h.0 stands),
        properties_sound fs (λ g c. stand g (contains_later f fs g c)) (λ g c. good g (contains_later f fs g c)) h.1,
      )

  properties_named : (fs : List Field) → map name_of (properties fs) ≡ map field_name fs
  properties_named [] = refl
  properties_named (f ∷ fs) = ap (λ (names : List (List ℕ)). f.name ∷ names) (properties_named fs)

  fields_sound : (d : Desc) (fs : List Field) (deny : Bool) → StandsIn whole d → out-Desc d ≡ Desc-F.Struct fs deny → InFields SoundWhere fs → HasSoundMembers (properties fs)
  fields_sound d fs deny s e h = (
    properties_sound fs (λ f c. in_field fs deny f s e c) (λ f c bad. (right d s).presences (f, of_struct fs deny e c, bad)) h,
    subst AreDistinct (sym (properties_named fs)) (fields_distinct table d fs deny e (right d s)),
  )

  -- ---- variants

  module _ (d : Desc) (all : List Variant) (s : StandsIn whole d) (e : out-Desc d ≡ Desc-F.External all) where
    payloads_sound : (vs : List Variant) → ((v : Variant) → Contains vs v → Contains all v) → AllByRecursion (InVariant SoundWhere) vs → AllByRecursion IsSound (payload_choices (map (variant_with (drawn table)) vs))
    payloads_sound [] among h = tt
    payloads_sound (v ∷ vs) among h = by_payload v.payload refl h.0 (payloads_sound vs (λ w c. among w (contains_later v vs w c)) h.1)
      where
        by_payload : (payload : Option Desc) → v.payload ≡ payload → MatchOption payload ⊤ SoundWhere → AllByRecursion IsSound (payload_choices (map (variant_with (drawn table)) vs))
            → AllByRecursion IsSound (payload_choices (record { name = v.name; description = v.description; payload = option_map (beside_with (drawn table)) payload } ∷ map (variant_with (drawn table)) vs))
        by_payload None is known later = later
        by_payload (Some x) is known later =
            let value = drawn_sound (drawn table x) (known (in_payload all v x s e (among v (contains_first v vs)) is)) in
            let choice = struct_sound (property v.name (drawn table x) ∷ []) (v.name ∷ []) true ((value, tt), (tt, tt)) in
            (drawn_sound _ (described_sound v.description _ choice), later)

    external_sound : AllByRecursion (InVariant SoundWhere) all → AllByRecursion IsSound (external_choices (map (variant_with (drawn table)) all))
    external_sound h =
        let names = bare_names (map (variant_with (drawn table)) all) in
        appended IsSound (choices_of names) _ (choices_sound names) (payloads_sound all (λ v c. c) h)

  module _ (d : Desc) (tag : List ℕ) (all : List TaggedVariant) (s : StandsIn whole d) (e : out-Desc d ≡ Desc-F.Tagged tag all) where
    variant_sound : (v : TaggedVariant) → Contains all v → InTagged SoundWhere v → IsSound (tagged_choice table tag (tagged_with (drawn table) v))
    variant_sound v c h =
        let fs = tagged_fields v in
        let one = drawn_sound (enumerated (tagged_name v ∷ [])) (enumerated_sound (tagged_name v ∷ [])) in
        let values = properties_sound fs (λ f k. in_variant tag all v f s e c k) (λ f k bad. (right d s).presences (f, of_variant tag all v e c k, bad)) h in
        let apart : AreDistinct (map field_name fs) = distinct_at names_of_fields all v (names_apart table d (Desc-F.Tagged tag all) e (right d s)).1 c in
        let new = new_tag tag fs (λ f k is. (right d s).tags (tag, all, v, f, e, c, k, is)) in
        let names : AreDistinct (tag ∷ map name_of (properties fs)) = subst (λ (names : List (List ℕ)). AreDistinct (tag ∷ names)) (sym (properties_named fs)) (new, apart) in
        let object = struct_sound (property tag (enumerated (tagged_name v ∷ [])) ∷ properties fs) (tag ∷ required_names (map (field_with (drawn table)) fs)) false ((one, values), names) in
        drawn_sound _ (described_sound (tagged_description v) _ object)

    variants_sound : (vs : List TaggedVariant) → ((v : TaggedVariant) → Contains vs v → Contains all v) → AllByRecursion (InTagged SoundWhere) vs → AllByRecursion IsSound (map (tagged_choice table tag) (map (tagged_with (drawn table)) vs))
    variants_sound [] among h = tt
    variants_sound (v ∷ vs) among h = (variant_sound v (among v (contains_first v vs)) h.0, variants_sound vs (λ w c. among w (contains_later v vs w c)) h.1)

  alternatives_sound : (ds : List Desc) → ((x : Desc) → Contains ds x → StandsIn whole x) → AllByRecursion SoundWhere ds → AllByRecursion IsSound (map (λ (s : Beside Drawn). drawn_json s.made) (map (beside_with (drawn table)) ds))
  alternatives_sound [] stand h = tt
  alternatives_sound (x ∷ ds) stand h = (drawn_sound (drawn table x) (h.0 (stand x (contains_first x ds))), alternatives_sound ds (λ y c. stand y (contains_later x ds y c)) h.1)

  -- ---- one row for each descriptor

  counted : (d : Desc) → StandsIn whole d → (z : DescLevel) → out-Desc d ≡ z → are_lengths_short z ≡ true
  counted d s z e = sym (ap are_lengths_short e) ∙ short d s

  row_sound : (y : KnownLevel SoundWhere) (d : Desc) → StandsIn whole d → out-Desc d ≡ firsts SoundWhere y → IsSoundlyDrawn (drawn_step table (level_with (drawn table) (firsts SoundWhere y)))
  row_sound Desc-F.Any d s e = every_sound true
  row_sound Desc-F.Never d s e = every_sound false
  row_sound Desc-F.Null d s e = null_alone_sound
  row_sound Desc-F.Bool d s e = truth_sound
  row_sound Desc-F.Char d s e = character_sound
  row_sound (Desc-F.Int kind min max) d s e =
      let (ordered, bounds) = and_parts (is_number_order min max) _ (ranged table d (right d s) (Desc-F.Int kind min max) e) in
      let (low, high) = and_parts (is_bound_of kind min) (is_bound_of kind max) bounds in
      number_sound kind _ max (least_whole kind min low) (bound_whole kind max high)
  row_sound (Desc-F.Text min max format) d s e =
      let (low, high) = and_parts (is_short min) (is_short max) (counted d s (Desc-F.Text min max format) e) in
      text_sound min max format (length_counted min low) (length_counted max high)
  row_sound (Desc-F.Enumeration ns) d s e = enumeration_sound ns
  row_sound (Desc-F.Option x) d s e = null_sound (drawn table x.0) (x.1 (in_option x.0 s e))
  row_sound (Desc-F.List x min max) d s e =
      let (low, high) = and_parts (is_short min) (is_short max) (counted d s (Desc-F.List x.0 min max) e) in
      list_sound (drawn_json (drawn table x.0)) min max (drawn_sound (drawn table x.0) (x.1 (in_list x.0 min max s e))) (length_counted min low) (length_counted max high)
  row_sound (Desc-F.Map x) d s e = map_sound (drawn table x.0) (x.1 (in_map x.0 s e))
  row_sound (Desc-F.Struct fs deny) d s e =
      struct_sound _ (required_names (map (field_with (drawn table)) (map (λ f. f.0) fs))) deny (fields_sound d (map (λ f. f.0) fs) deny s e (each_holds (InField SoundWhere) fs))
  row_sound (Desc-F.External vs) d s e = choice_sound _ (external_sound d (map (λ v. v.0) vs) s e (each_holds (InVariant SoundWhere) vs))
  row_sound (Desc-F.Tagged tag vs) d s e = choice_sound _ (variants_sound d tag (map (λ v. v.0) vs) s e (map (λ v. v.0) vs) (λ v c. c) (each_holds (InTagged SoundWhere) vs))
  row_sound (Desc-F.Untagged ds) d s e = any_sound _ (alternatives_sound (map (λ x. x.0) ds) (λ x c. in_alternative (map (λ x. x.0) ds) x s e c) (each_holds SoundWhere ds))
  row_sound (Desc-F.Ref name) d s e = reference_sound name

  drawn_is_sound : (d : Desc) → SoundWhere d
  drawn_is_sound = by_levels SoundWhere (λ y s.
      let x = firsts SoundWhere y in
      subst IsSoundlyDrawn (sym (made_row (drawn_step table) (roll-Desc x) ∙ ap (λ (z : DescLevel). drawn_step table (level_with (drawn table) z)) (out-roll-Desc x))) (row_sound y (roll-Desc x) s (out-roll-Desc x)))

  -- ---- the laws

  pub plain_sound : IsSound (schema_json table whole)
  plain_sound = drawn_sound (drawn table whole) (drawn_is_sound whole the_whole)

  pub schema_described_sound : (description : Option (List ℕ)) → IsSound (schema_json_described table description whole)
  schema_described_sound description = drawn_sound _ (described_sound description (drawn table whole) (drawn_is_sound whole the_whole))

  pub schema_titled_sound : (name : List ℕ) → IsSound (schema_json_titled table name whole)
  schema_titled_sound name = drawn_sound (titled table name whole) (by_form (out-Desc whole) refl)
    where
      h : IsSoundlyDrawn (drawn table whole)
      h = drawn_is_sound whole the_whole

      under : IsSoundlyDrawn (record (drawn table whole) { title = Some name })
      under = titled_sound name (drawn table whole) h

      by_form : (z : DescLevel) → out-Desc whole ≡ z → IsSoundlyDrawn (titled table name whole)
      by_form Desc-F.Any e = rw e under
      by_form Desc-F.Never e = rw e under
      by_form Desc-F.Null e = rw e under
      by_form Desc-F.Bool e = rw e under
      by_form Desc-F.Char e = rw e under
      by_form (Desc-F.Int kind min max) e = rw e under
      by_form (Desc-F.Text min max format) e = rw e under
      by_form (Desc-F.Enumeration ns) e = rw e under
      by_form (Desc-F.Option x) e = rw e under
      by_form (Desc-F.List x min max) e = rw e under
      by_form (Desc-F.Map x) e = rw e under
      by_form (Desc-F.Struct fs deny) e = rw e under
      by_form (Desc-F.External vs) e = rw e under
      by_form (Desc-F.Tagged tag vs) e = rw e under
      by_form (Desc-F.Untagged ds) e = rw e under
      by_form (Desc-F.Ref other) e = rw e h

-- ---- in a header and in a query

-- what stands in what a header shows of a descriptor stands in the descriptor
pub in_header_stands : (d x : Desc) → StandsIn (in_header d) x → StandsIn d x
in_header_stands d x = by_form (out-Desc d) refl
  where
    by_form : (z : DescLevel) → out-Desc d ≡ z → StandsIn (in_header d) x → StandsIn d x
    by_form (Desc-F.Option y) e = rw e (stands_through (in_option y the_whole e))
    by_form _ e = rw e (λ s. s)

-- and so does what stands in what a query shows
pub in_query_stands : (d x : Desc) → StandsIn (in_query d) x → StandsIn d x
in_query_stands d x = by_form (out-Desc d) refl
  where
    by_inner : (y : Desc) (z : DescLevel) → out-Desc y ≡ z → out-Desc d ≡ Desc-F.Option y → StandsIn (in_query d) x → StandsIn d x
    by_inner y (Desc-F.Ref name) f e = rw (e, f) (stands_through (in_option y the_whole e))
    by_inner y _ f e = rw (e, f) (λ s. s)

    by_form : (z : DescLevel) → out-Desc d ≡ z → StandsIn (in_query d) x → StandsIn d x
    by_form (Desc-F.Option y) e = by_inner y (out-Desc y) refl e
    by_form _ e = rw e (λ s. s)

-- a descriptor is shown by another, in which nothing stands that does not stand in the first
module _ (table : List Definition) (whole shown : Desc) (passes : TablePasses table) (right : DescPasses table whole) (short : HasShortLengths whole) (stands : (x : Desc) → StandsIn shown x → StandsIn whole x) where
  shown_passes : DescPasses table shown
  shown_passes d s = right d (stands d s)

  shown_short : HasShortLengths shown
  shown_short d s = short d (stands d s)

  pub shown_plain_sound : IsSound (schema_json table shown)
  shown_plain_sound = plain_sound table shown passes shown_passes shown_short

  pub shown_titled_sound : (name : List ℕ) → IsSound (schema_json_titled table name shown)
  shown_titled_sound = schema_titled_sound table shown passes shown_passes shown_short
