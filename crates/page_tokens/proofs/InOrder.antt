-- A sound value denotes with its members in order what it denotes as it is, where nothing takes any value.
use Rattle.std.proofs.Common.{◌≡◌, ℕ, zero, suc, ◌+◌, Bool, false, List, [], ◌∷◌, length, map, inl, inr, Option, Some, None, option_map, refl, sym, ◌∙◌, ap, subst, arith, MatchOption}
use Rattle.std.proofs.lemmas.List.{length-map}
use Rattle.std.specs.List.{AllByRecursion}
use Rattle.std.specs.Prelude.{⊤, Contains}
use Rattle.std.specs.declared.result.Result.{Result}
use Rattle.schema_values.specs.declared.json_value.Json.{Json, out-Json}
use Rattle.schema_values.specs.declared.json_value.Json.TheOpen.{Json-F}
use Rattle.schema_values.specs.declared.json_value.Json.TheVariants as json
use Rattle.schema_values.specs.declared.json_value.Json.TheViews.{roll-Json, roll-out-Json}
use Rattle.schema_values.specs.declared.json_value.Member.{Member}
use Rattle.schema_values.specs.Member.{name_of}
use Rattle.schema_values.specs.Order.{sorted_by}
use Rattle.schema_values.specs.Sound.{IsSound, AreDistinct}
use Rattle.schema_values.specs.SoundMembers.{HasSoundValue}
use Rattle.schema_values.specs.SortedMembers.{sorted_members, sorted_member}
use Rattle.schema_values.proofs.CallerLemmas.{IsSound-List, IsSound-Object, OfParts, by_parts, all_sorted, contains_cases, contains_first, contains_later, map_sorted}
use Rattle.descriptors.specs.declared.desc.Desc.{Desc, out-Desc}
use Rattle.descriptors.specs.declared.desc.Desc.TheOpen.{Desc-F}
use Rattle.descriptors.specs.declared.desc.Field.{Field}
use Rattle.descriptors.specs.declared.desc.TaggedVariant.{TaggedVariant}
use Rattle.descriptors.specs.declared.desc.Variant.{Variant}
use Rattle.descriptors.specs.declared.table.Definition.{Definition}
use Rattle.descriptors.specs.declared.tree.Tree.{Tree, List as Items, Map as Entries, Fields as Parts}
use Rattle.descriptors.specs.Definitions.{definition, tagged_fields, variant_name}
use Rattle.typed_values.specs.declared.fault.FaultKind.TheVariants.{BadLength, NotListed}
use Rattle.typed_values.specs.declared.fault.Place.TheVariants.{Item, Name}
use Rattle.typed_values.specs.Bounds.{is_length_within}
use Rattle.typed_values.specs.Checks.{TablePasses}
use Rattle.typed_values.specs.Denotes.{Told, told, room, below, refused, all_told, as_tree, as_pair, if_holds, items_told, entries_told, by_presence, value_named, unless_denied, denied_name, external, tagged, at_tag, by_tag, chosen, named_from, with_payload, first_told, or_else, at_definition}
use Rattle.typed_values.specs.Faults.{Trouble}
use Rattle.typed_values.specs.Levels.{DescLevel}
use Rattle.typed_values.specs.Resting.{EachRests, Rests, RestsBy}
use Rattle.typed_values.specs.Rows.{told_item, told_entry, value_denotes, told_field, told_fields, told_struct, list_row, map_row, struct_row, row}
use Rattle.typed_values.proofs.CallerLemmas.{IsNeeded, of_whole, of_reached, needed_part, option_needed, list_needed, map_needed, field_needed, payload_needed, variant_needed, alternative_needed, guarded_rests, row_at, sorted_ascends, found_inside, definition_needed, sorted_stays}
use Rattle.page_tokens.specs.Reaching.{IsAny, ReachesNoAny}
use Rattle.page_tokens.proofs.Sorting.{level_in_order, level_sorted, members_in_order}
use Rattle.page_tokens.proofs.LevelsInOrder.{told_alike, told_mapped, each, weaker, both, same_nought, same_truth, same_character, same_number, same_words, same_one_of_names, same_optional, named_in_order, found_holds, same_denied, several, external_several, same_found, same_payload, by_same}

-- ---- the parts of a sound value are sound

abbrev AreSoundIn : Json-F Json Member → Type 0
AreSoundIn (Json-F.List js) = AllByRecursion IsSound js
AreSoundIn (Json-F.Object ms) = AllByRecursion HasSoundValue ms × AreDistinct (map name_of ms)
AreSoundIn _ = ⊤

sound_in : (x : Json-F Json Member) → IsSound (roll-Json x) → AreSoundIn x
sound_in Json-F.Null h = tt
sound_in (Json-F.Bool b) h = tt
sound_in (Json-F.Int n) h = tt
sound_in (Json-F.Text w) h = tt
sound_in (Json-F.List js) h = (IsSound-List js).0 (subst IsSound (json.rolls-List js) h)
sound_in (Json-F.Object ms) h = (IsSound-Object ms).0 (subst IsSound (json.rolls-Object ms) h)

sound_parts : (j : Json) → IsSound j → AreSoundIn (out-Json j)
sound_parts j h = sound_in (out-Json j) (subst IsSound (sym (roll-out-Json j)) h)

module _ (table : List Definition) (whole : Desc) (passes : TablePasses table) (none : ReachesNoAny table whole) where
  abbrev Needed : Desc → Type 0
  Needed = IsNeeded table whole

  abbrev denoted : Json → Desc → Told
  denoted = told table whole

  -- in order it denotes what it denotes as it is
  abbrev IsSame : Json → Type 0
  IsSame j = (d : Desc) → Needed d → denoted (sorted_members j) d ≡ denoted j d

  abbrev Same : Json → Type 0
  Same j = IsSound j → IsSame j

  rests : (d : Desc) → Needed d → Rests table (room table whole) d
  rests d need = guarded_rests table whole passes.guarded d (needed_part table whole d need)

  never_any : (d : Desc) → Needed d → IsAny d → ⊥
  never_any d (of_whole s) is = none.in_desc d s is
  never_any d (of_reached name e r f s) is = none.in_reached name e r f d s is

  list_same : (d : Desc) → Needed d → (min max : Option ℕ) (js : List Json) → AllByRecursion IsSame js
      → items_told (told_item table whole d) min max (map sorted_members js) ≡ items_told (told_item table whole d) min max js
  list_same d need min max js same =
      ap (λ (n : ℕ). if_holds (is_length_within min max n) BadLength (as_tree Items (all_told (told_item table whole d) 0 (map sorted_members js)))) (length-map js sorted_members)
      ∙ ap (λ (ts : Result (List Tree) Trouble). if_holds (is_length_within min max (length js)) BadLength (as_tree Items ts))
      (told_mapped sorted_members (told_item table whole d) 0 js (weaker IsSame (λ j. (k : ℕ) → told_item table whole d k (sorted_members j) ≡ told_item table whole d k j) js (λ j h k. ap (below (Item k)) (h d need)) same))

  module _ (ms : List Member) (distinct : AreDistinct (map name_of ms)) (same : AllByRecursion (λ m. IsSame m.value) ms) where
    -- the members by name
    abbrev by_name : List Member
    by_name = sorted_by name_of ms

    -- and with their values in order
    abbrev in_order : List Member
    in_order = map sorted_member by_name

    in_order_stays : sorted_by name_of in_order ≡ in_order
    in_order_stays =
        sym (map_sorted name_of name_of sorted_member (λ m. refl) by_name)
        ∙ ap (map sorted_member) (sorted_stays name_of by_name (sorted_ascends name_of ms distinct))

    map_same : (d : Desc) → Needed d → entries_told (λ j. denoted j d) in_order ≡ entries_told (λ j. denoted j d) ms
    map_same d need =
        ap (λ (ns : List Member). as_tree Entries (all_told (λ i m. told_entry table whole d m) 0 ns)) in_order_stays
        ∙ ap (as_tree Entries)
        (told_mapped sorted_member (λ i m. told_entry table whole d m) 0 by_name
        (weaker (λ m. IsSame m.value) (λ m. (k : ℕ) → told_entry table whole d (sorted_member m) ≡ told_entry table whole d m) by_name
        (λ m h k. ap (λ (t : Told). as_pair m.name (below (Name m.name) t)) (h d need)) (all_sorted (λ m. IsSame m.value) name_of ms same)))

    value_same : (d : Desc) → Needed d → (o : Option Json) → MatchOption o ⊤ IsSame → value_denotes table whole d (option_map sorted_members o) ≡ value_denotes table whole d o
    value_same d need None h = refl
    value_same d need (Some j) h = ap (λ (t : Told). Some t) (h d need)

    field_same : (f : Field) → Needed f.desc → told_field table whole in_order f ≡ told_field table whole ms f
    field_same f need =
        ap (by_presence f) (ap (value_denotes table whole f.desc) (named_in_order ms f.name) ∙ value_same f.desc need (value_named ms f.name) (found_holds IsSame ms f.name same))

    struct_same : (fs : List Field) (deny : Bool) → ((f : Field) → Contains fs f → Needed f.desc) → told_struct table whole fs deny in_order ≡ told_struct table whole fs deny ms
    struct_same fs deny need =
        ap (λ (name : Option (List ℕ)). unless_denied name (as_tree Parts (told_fields table whole in_order fs))) (same_denied deny fs ms)
        ∙ ap (λ (ts : Result (List Tree) Trouble). unless_denied (denied_name deny fs ms) (as_tree Parts ts))
        (told_alike (λ i f. told_field table whole in_order f) (λ i f. told_field table whole ms f) 0 fs
        (each (λ f. (k : ℕ) → told_field table whole in_order f ≡ told_field table whole ms f) fs (λ f c k. field_same f (need f c))))

    tagged_same : (tag : List ℕ) (vs : List TaggedVariant) → ((v : TaggedVariant) → Contains vs v → (f : Field) → Contains (tagged_fields v) f → Needed f.desc)
        → by_tag tag (at_tag tag (λ i v. chosen i (told_struct table whole (tagged_fields v) false in_order)) vs) (option_map (λ j. j) (value_named in_order tag))
        ≡ by_tag tag (at_tag tag (λ i v. chosen i (told_struct table whole (tagged_fields v) false ms)) vs) (option_map (λ j. j) (value_named ms tag))
    tagged_same tag vs need =
        ap (λ (o : Option Json). by_tag tag (at_tag tag (λ i v. chosen i (told_struct table whole (tagged_fields v) false in_order)) vs) (option_map (λ j. j) o)) (named_in_order ms tag)
        ∙ by_same tag vs (λ i v. chosen i (told_struct table whole (tagged_fields v) false in_order)) (λ i v. chosen i (told_struct table whole (tagged_fields v) false ms))
        (λ i v c. ap (chosen i) (struct_same (tagged_fields v) false (need v c))) (value_named ms tag)

  external_same : (ms : List Member) → AllByRecursion (λ m. IsSame m.value) ms → (vs : List Variant) → ((v : Variant) → Contains vs v → (d : Desc) → v.payload ≡ Some d → Needed d)
      → external denoted vs (Json-F.Object (map sorted_member (sorted_by name_of ms))) ≡ external denoted vs (Json-F.Object ms)
  external_same [] same vs need = refl
  external_same (m ∷ []) same vs need =
      same_found (refused NotListed) (with_payload (denoted (sorted_members m.value))) (with_payload (denoted m.value)) (named_from variant_name 0 vs m.name)
      (λ found is. same_payload (denoted (sorted_members m.value)) (denoted m.value) found.0 found.1 (λ d e. same.0 d (need found.1 (found_inside variant_name vs m.name found is) d e)))
  external_same (m ∷ n ∷ ms) same vs need = external_several denoted vs (map sorted_member (sorted_by name_of (m ∷ n ∷ ms))) (several m n ms)

  first_same : (j : Json) (i : ℕ) (ds : List Desc) → ((d : Desc) → Contains ds d → denoted (sorted_members j) d ≡ denoted j d) → first_told i (denoted (sorted_members j)) ds ≡ first_told i (denoted j) ds
  first_same j i [] same = refl
  first_same j i (d ∷ ds) same =
      ap (λ (t : Told). or_else i t (first_told (i + 1) (denoted (sorted_members j)) ds)) (same d (contains_first d ds))
      ∙ ap (or_else i (denoted j d)) (first_same j (i + 1) ds (λ e c. same e (contains_later d ds e c)))

  each_rests : (Next : Desc → Type 0) (ds : List Desc) (d : Desc) → EachRests Next ds → Contains ds d → Next d
  each_rests Next [] d rest c = absurd (omega (arith, c.1))
  each_rests Next (e ∷ ds) d rest c = elim (contains_cases e ds d c) [ inl is ↦ subst Next is rest.0 | inr later ↦ each_rests Next ds d rest.1 later ]

  -- the rows of objects and lists
  list_level : (d : Desc) → Needed d → (min max : Option ℕ) (x : Json-F Json Member) → OfParts Same x → AreSoundIn x → list_row table whole d min max (level_in_order x) ≡ list_row table whole d min max x
  list_level d need min max Json-F.Null parts sound = refl
  list_level d need min max (Json-F.Bool b) parts sound = refl
  list_level d need min max (Json-F.Int n) parts sound = refl
  list_level d need min max (Json-F.Text w) parts sound = refl
  list_level d need min max (Json-F.List js) parts sound = list_same d need min max js (both IsSound IsSame js sound parts)
  list_level d need min max (Json-F.Object ms) parts sound = refl

  -- what is told of an object is told of it in order
  object_level : (f : Json-F Json Member → Told) (x : Json-F Json Member) → OfParts Same x → AreSoundIn x
      → ((y : Json-F Json Member) → ((ms : List Member) → y ≡ Json-F.Object ms → ⊥) → f (level_in_order y) ≡ f y)
      → ((ms : List Member) → AreDistinct (map name_of ms) → AllByRecursion (λ m. IsSame m.value) ms → f (Json-F.Object (map sorted_member (sorted_by name_of ms))) ≡ f (Json-F.Object ms))
      → f (level_in_order x) ≡ f x
  object_level f (Json-F.Object ms) parts sound other same =
      ap (λ (ns : List Member). f (Json-F.Object ns)) (members_in_order ms sound.1) ∙ same ms sound.1 (both HasSoundValue (λ m. IsSame m.value) ms sound.0 parts)
  object_level f Json-F.Null parts sound other same = other Json-F.Null (λ ms q. absurd (cc q))
  object_level f (Json-F.Bool b) parts sound other same = other (Json-F.Bool b) (λ ms q. absurd (cc q))
  object_level f (Json-F.Int n) parts sound other same = other (Json-F.Int n) (λ ms q. absurd (cc q))
  object_level f (Json-F.Text w) parts sound other same = other (Json-F.Text w) (λ ms q. absurd (cc q))
  object_level f (Json-F.List js) parts sound other same = other (Json-F.List js) (λ ms q. absurd (cc q))

  no_map : (d : Desc) (y : Json-F Json Member) → ((ms : List Member) → y ≡ Json-F.Object ms → ⊥) → map_row table whole d (level_in_order y) ≡ map_row table whole d y
  no_map d Json-F.Null other = refl
  no_map d (Json-F.Bool b) other = refl
  no_map d (Json-F.Int n) other = refl
  no_map d (Json-F.Text w) other = refl
  no_map d (Json-F.List js) other = refl
  no_map d (Json-F.Object ms) other = absurd (other ms refl)

  no_struct : (fs : List Field) (deny : Bool) (y : Json-F Json Member) → ((ms : List Member) → y ≡ Json-F.Object ms → ⊥) → struct_row table whole fs deny (level_in_order y) ≡ struct_row table whole fs deny y
  no_struct fs deny Json-F.Null other = refl
  no_struct fs deny (Json-F.Bool b) other = refl
  no_struct fs deny (Json-F.Int n) other = refl
  no_struct fs deny (Json-F.Text w) other = refl
  no_struct fs deny (Json-F.List js) other = refl
  no_struct fs deny (Json-F.Object ms) other = absurd (other ms refl)

  no_external : (vs : List Variant) (y : Json-F Json Member) → ((ms : List Member) → y ≡ Json-F.Object ms → ⊥) → external denoted vs (level_in_order y) ≡ external denoted vs y
  no_external vs Json-F.Null other = refl
  no_external vs (Json-F.Bool b) other = refl
  no_external vs (Json-F.Int n) other = refl
  no_external vs (Json-F.Text w) other = refl
  no_external vs (Json-F.List js) other = refl
  no_external vs (Json-F.Object ms) other = absurd (other ms refl)

  abbrev tagged_row : List ℕ → List TaggedVariant → Json-F Json Member → Told
  tagged_row tag vs x = tagged (λ j. j) (λ fs. struct_row table whole fs false x) tag vs x

  no_tagged : (tag : List ℕ) (vs : List TaggedVariant) (y : Json-F Json Member) → ((ms : List Member) → y ≡ Json-F.Object ms → ⊥) → tagged_row tag vs (level_in_order y) ≡ tagged_row tag vs y
  no_tagged tag vs Json-F.Null other = refl
  no_tagged tag vs (Json-F.Bool b) other = refl
  no_tagged tag vs (Json-F.Int n) other = refl
  no_tagged tag vs (Json-F.Text w) other = refl
  no_tagged tag vs (Json-F.List js) other = refl
  no_tagged tag vs (Json-F.Object ms) other = absurd (other ms refl)

  module _ (j : Json) (parts : OfParts Same (out-Json j)) (sound : AreSoundIn (out-Json j)) where
    abbrev SameWithin : ℕ → Type 0
    SameWithin n = (d : Desc) → Rests table n d → Needed d → denoted (sorted_members j) d ≡ denoted j d

    definition_same : (n : ℕ) → SameWithin n → (d : Desc) (name : List ℕ) → Needed d → out-Desc d ≡ Desc-F.Ref name → (o : Option Desc) → definition table name ≡ o → MatchOption o ⊤ (Rests table n)
        → at_definition (denoted (sorted_members j)) o ≡ at_definition (denoted j) o
    definition_same n next d name need e None f rest = refl
    definition_same n next d name need e (Some y) f rest = next y rest (definition_needed table whole d name y e f need)

    -- one row for each descriptor
    row_same : (n : ℕ) → SameWithin n → (d : Desc) → Needed d → (y : DescLevel) → out-Desc d ≡ y → RestsBy table (Rests table n) y
        → row table whole (sorted_members j) (level_in_order (out-Json j)) y ≡ row table whole j (out-Json j) y
    row_same n next d need Desc-F.Any e rest = absurd (never_any d need e)
    row_same n next d need Desc-F.Never e rest = refl
    row_same n next d need Desc-F.Null e rest = same_nought (out-Json j)
    row_same n next d need Desc-F.Bool e rest = same_truth (out-Json j)
    row_same n next d need Desc-F.Char e rest = same_character (out-Json j)
    row_same n next d need (Desc-F.Int kind min max) e rest = same_number kind min max (out-Json j)
    row_same n next d need (Desc-F.Text min max format) e rest = same_words min max (out-Json j)
    row_same n next d need (Desc-F.Enumeration ns) e rest = same_one_of_names ns (out-Json j)
    row_same n next d need (Desc-F.Option x) e rest =
        same_optional (out-Json j) (denoted (sorted_members j) x) (denoted j x) (next x rest (option_needed table whole d x e need))
    row_same n next d need (Desc-F.List x min max) e rest = list_level x (list_needed table whole d x min max e need) min max (out-Json j) parts sound
    row_same n next d need (Desc-F.Map x) e rest =
        object_level (map_row table whole x) (out-Json j) parts sound (no_map x) (λ ms distinct same. map_same ms distinct same x (map_needed table whole d x e need))
    row_same n next d need (Desc-F.Struct fs deny) e rest =
        object_level (struct_row table whole fs deny) (out-Json j) parts sound (no_struct fs deny)
        (λ ms distinct same. struct_same ms distinct same fs deny (λ f c. field_needed table whole d fs deny f e c need))
    row_same n next d need (Desc-F.External vs) e rest =
        object_level (external denoted vs) (out-Json j) parts sound (no_external vs)
        (λ ms distinct same. external_same ms same vs (λ v c x p. payload_needed table whole d vs v x e c p need))
    row_same n next d need (Desc-F.Tagged tag vs) e rest =
        object_level (tagged_row tag vs) (out-Json j) parts sound (no_tagged tag vs)
        (λ ms distinct same. tagged_same ms distinct same tag vs (λ v c f i. variant_needed table whole d tag vs v f e c i need))
    row_same n next d need (Desc-F.Untagged ds) e rest =
        first_same j 0 ds (λ x c. next x (each_rests (Rests table n) ds x rest c) (alternative_needed table whole d ds x e c need))
    row_same n next d need (Desc-F.Ref name) e rest = definition_same n next d name need e (definition table name) refl rest

    same_within : (n : ℕ) → SameWithin n
    unfolding Rests
    same_within zero d rest need = absurd rest
    same_within (suc n) d rest need =
        row_at table whole (sorted_members j) d (level_in_order (out-Json j)) (out-Desc d) (rests d need) (level_sorted j) refl
        ∙ row_same n (same_within n) d need (out-Desc d) refl rest
        ∙ sym (row_at table whole j d (out-Json j) (out-Desc d) (rests d need) refl refl)

  pub same_in_order : (j : Json) → Same j
  same_in_order = by_parts Same (λ j parts sound d need. same_within j parts (sound_parts j sound) (room table whole) d (rests d need) need)
