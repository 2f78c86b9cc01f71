-- What a value of a descriptor is written as is sound, and denotes a tree: the very value where no untagged union is reached.
use Rattle.std.proofs.Common.{◌≡◌, ℕ, zero, suc, ◌+◌, Bool, true, false, ◌||◌, not, List, [], ◌∷◌, length, map, Option, Some, None, is_none, refl, sym, ◌∙◌, ap, subst, MatchOption}
use Rattle.std.proofs.lemmas.Bool.{and_parts}
use Rattle.std.proofs.lemmas.List.{length-map}
use Rattle.std.proofs.Math.Bool.{or-true}
use Rattle.std.specs.List.{AllByRecursion}
use Rattle.std.specs.Prelude.{⊤, Contains, slice_get}
use Rattle.std.specs.declared.result.Result.TheVariants.{Ok}
use Rattle.schema_values.specs.declared.json_value.Json.{Json, Null, Text as WordsJson, out-Json, List as ItemsJson, Object}
use Rattle.schema_values.specs.declared.json_value.Json.TheOpen.{Json-F}
use Rattle.schema_values.specs.declared.json_value.Json.TheVariants as json
use Rattle.schema_values.specs.declared.json_value.Member.{Member}
use Rattle.schema_values.specs.Sound.{AreDistinct, IsSound as IsSoundValue}
use Rattle.schema_values.specs.SoundMembers.{HasSoundValue}
use Rattle.schema_values.proofs.CallerLemmas.{AreDistinct-sorted, IsSound-List, IsSound-Object, contains_first, contains_later}
use Rattle.schema_values.specs.Member.{member, name_of}
use Rattle.descriptors.specs.declared.desc.Desc.{Desc, Null as NullDesc, out-Desc}
use Rattle.descriptors.specs.declared.desc.Desc.TheOpen.{Desc-F}
use Rattle.descriptors.specs.declared.desc.Field.{Field}
use Rattle.descriptors.specs.declared.desc.Presence.{Presence}
use Rattle.descriptors.specs.declared.desc.Presence.TheVariants.{Required, Nullable, Skipped, Default}
use Rattle.descriptors.specs.declared.desc.TaggedVariant.{TaggedVariant}
use Rattle.descriptors.specs.declared.desc.Variant.{Variant}
use Rattle.typed_values.specs.declared.fault.FaultKind.TheVariants.{BadLength}
use Rattle.descriptors.specs.declared.table.Definition.{Definition}
use Rattle.typed_values.specs.declared.fault.Place.TheVariants.{Name}
use Rattle.descriptors.specs.declared.tree.Pair.{Pair}
use Rattle.descriptors.specs.declared.tree.Tree.{Tree, Unit as Nought, None as Nothing, List as Items, Map as Entries, Fields as Parts, Variant as Choice, out-Tree}
use Rattle.descriptors.specs.declared.tree.Tree.TheOpen.{Tree-F}
use Rattle.descriptors.specs.declared.tree.Tree.TheVariants as tree
use Rattle.descriptors.specs.declared.tree.Tree.TheViews.{roll-Tree, roll-out-Tree}
use Rattle.typed_values.specs.Bounds.{is_length_within}
use Rattle.typed_values.specs.Checks.{names_of_fields, TablePasses, DescPasses}
use Rattle.descriptors.specs.Definitions.{definition, field_name, tagged_name, tagged_fields}
use Rattle.typed_values.specs.Denotes.{Told, told, room, below, just, all_told, as_tree, as_pair, member_name, if_holds, optional, by_presence, unless_denied, denied_name, chosen, external, tagged, at_definition, first_told}
use Rattle.typed_values.specs.Encoding.{unless, members_written, written_if_there, option_written, items_written, pair_written, entries_written, parts_written, choice_written, at_place, variant_written, external_written, with_tag, tagged_written, written_by, is_none_level, written_under, json_of_tree}
use Rattle.typed_values.specs.Fits.{option_fits, each_fits, items_fit, are_ascending, key_of, entries_fit, field_desc, fields_fit, parts_fit, alternative_at, if_there, choice_fits, payload_or_null, payload_of, struct_of, fits_by, fits_under, Fits}
use Rattle.typed_values.specs.Levels.{DescLevel, TreeOf}
use Rattle.typed_values.specs.Parts.{the_whole}
use Rattle.typed_values.specs.Rows.{told_item, told_entry, value_denotes, told_field, told_fields, list_row, map_row, struct_row, row}
use Rattle.typed_values.specs.Resting.{RestsBy, Rests}
use Rattle.typed_values.specs.Reached.{IsUntagged, ReachesNoUntagged}
use Rattle.typed_values.proofs.Arms.{not_null}
use Rattle.typed_values.proofs.AscendingKeys.{keys_sorted}
use Rattle.typed_values.proofs.Denoted.{denied_is}
use Rattle.typed_values.proofs.EncodeRows.{tag_before}
use Rattle.typed_values.proofs.EncodeSteps.{is_none_tree, written_row, skipped_written, struct_written}
use Rattle.typed_values.proofs.FitRows.{alternative_inside, skipped_desc}
use Rattle.typed_values.proofs.FitSteps.{fits_row, nought_row, skipped_row, struct_row as struct_fits_row}
use Rattle.typed_values.proofs.Needed.{IsNeeded, of_whole, of_reached, needed_part, option_needed, list_needed, map_needed, field_needed, payload_needed, variant_needed, alternative_needed, definition_needed}
use Rattle.typed_values.proofs.Ordered.{Ascends, sorted_stays}
use Rattle.typed_values.proofs.Rows.{two_maps, row_at}
use Rattle.typed_values.proofs.Soundness.{is_right, guarded_rests}
use Rattle.typed_values.proofs.Fields.{names_apart, fields_distinct, distinct_at}
use Rattle.typed_values.proofs.NullTaken.{null_taken}
use Rattle.typed_values.proofs.ScalarsBack.{ReadsBack, nought_is, whole_back, nought_back, truth_back, character_back, number_back, words_back, name_back}
use Rattle.typed_values.proofs.ToldTrees.{Gives, gives_below, gives_just, gives_pair, gives_then, gives_tree, first_tells}
use Rattle.typed_values.proofs.TreeParts.{OfParts, by_parts, parts_weaker}
use Rattle.typed_values.proofs.VariantsBack.{at_place_inside, given_at, gives_chosen, PayloadBack, variant_back, tag_told}
use Rattle.typed_values.proofs.WrittenMembers.{Beside, IsNew, is_left, new_name, unless_left, new_written, distinct_written, written_declared, IsFound, found_behind, all_found}

no_name : (name : Option (List ℕ)) (told : Told) → is_none name ≡ true → unless_denied name told ≡ told
no_name None told e = refl
no_name (Some name) told e = absurd (cc e)

sound_with : (b : Bool) (m : Member) (ms : List Member) → IsSoundValue m.value → AllByRecursion HasSoundValue ms → AllByRecursion HasSoundValue (unless b m ms)
sound_with true m ms first rest = rest
sound_with false m ms first rest = (first, rest)

module _ (table : List Definition) (whole : Desc) (passes : TablePasses table) (right : DescPasses table whole) where
  abbrev Exact : Type 0
  Exact = ReachesNoUntagged table whole

  abbrev written : Tree → Desc → Json
  written = written_under table whole

  -- each value that fits a needed descriptor is read back
  abbrev Back : Tree → Type 0
  Back t = (d : Desc) → IsNeeded table whole d → fits_under table whole t d ≡ true → ReadsBack Exact (written t d) (told table whole (written t d) d) t

  -- so is what stands in it: a field that may be skipped leads two levels down
  abbrev BackInside : Tree → Type 0
  BackInside t = Back t × OfParts Back (out-Tree t)

  -- and what stands in that: the fields of a tagged variant stand one level below it
  abbrev BackBelow : Tree → Type 0
  BackBelow t = Back t × OfParts BackInside (out-Tree t)

  inside_of : (t : Tree) → BackBelow t → BackInside t
  inside_of t h = (h.0, parts_weaker {P = BackInside} {Q = Back} (λ s k. k.0) (out-Tree t) h.1)

  rests : (d : Desc) → IsNeeded table whole d → Rests table (room table whole) d
  rests d need = guarded_rests table whole passes.guarded d (needed_part table whole d need)

  untagged_refuted : (d : Desc) → IsNeeded table whole d → IsUntagged d → Exact → ⊥
  untagged_refuted d (of_whole s) untagged exact = exact.in_desc d s untagged
  untagged_refuted d (of_reached name e r f s) untagged exact = exact.in_reached name e r f d s untagged

  never_null : (d x : Desc) → IsNeeded table whole d → out-Desc d ≡ Desc-F.Option x → (j : Json) (read : Tree) → told table whole j x ≡ Ok read → out-Json j ≡ Json-F.Null → ⊥
  never_null d x need e j read is null =
      (is_right table whole d passes right (needed_part table whole d need)).null_once
      (x, e, null_taken table whole (guarded_rests table whole passes.guarded) j null x (option_needed table whole d x e need) read is)

  -- ---- row by row

  option_back : (d i : Desc) → IsNeeded table whole d → out-Desc d ≡ Desc-F.Option i → (x : TreeOf Tree) (t : Tree) → roll-Tree x ≡ t → OfParts BackInside x → option_fits (λ s. fits_under table whole s i) x ≡ true
      → ReadsBack Exact (option_written (λ s. written s i) x) (optional (out-Json (option_written (λ s. written s i) x)) (told table whole (option_written (λ s. written s i) x) i)) t
  option_back d i need e Tree-F.None t is parts fit = (tt, (Nothing, ap (λ (z : Json-F Json Member). optional z (told table whole Null i)) json.outs-Null, λ h. sym tree.rolls-None ∙ is))
  option_back d i need e (Tree-F.Some s) t is parts fit =
      let (sound, gives) = parts.0 i (option_needed table whole d i e need) fit in (
        sound,
        subst (λ (o : Told). Gives Exact o t) (sym (not_null (out-Json (written s i)) (told table whole (written s i) i) (never_null d i need e (written s i) gives.0 gives.1)))
            (subst (Gives Exact (just (told table whole (written s i) i))) (sym (tree.rolls-Some s) ∙ is) (gives_just Exact (told table whole (written s i) i) s gives)),
      )
  option_back d i need e _ t is parts fit = absurd (cc fit)

  items_sound : (i : Desc) → IsNeeded table whole i → (ts : List Tree) → AllByRecursion BackInside ts → each_fits (λ s. fits_under table whole s i) ts ≡ true → AllByRecursion IsSoundValue (map (λ s. written s i) ts)
  items_sound i need [] parts fit = tt
  items_sound i need (t ∷ ts) parts fit =
      let (first, rest) = and_parts (fits_under table whole t i) (each_fits (λ s. fits_under table whole s i) ts) fit in
      ((parts.0.0 i need first).0, items_sound i need ts parts.1 rest)

  items_told_back : (i : Desc) → IsNeeded table whole i → (ts : List Tree) → AllByRecursion BackInside ts → each_fits (λ s. fits_under table whole s i) ts ≡ true
      → (k : ℕ) → Gives Exact (all_told (told_item table whole i) k (map (λ s. written s i) ts)) ts
  items_told_back i need [] parts fit k = ([], refl, λ h. refl)
  items_told_back i need (t ∷ ts) parts fit k =
      let (first, rest) = and_parts (fits_under table whole t i) (each_fits (λ s. fits_under table whole s i) ts) fit in
      gives_then Exact (told_item table whole i k (written t i)) (all_told (told_item table whole i) (k + 1) (map (λ s. written s i) ts)) t ts
      (gives_below Exact _ (told table whole (written t i) i) t (parts.0.0 i need first).1) (items_told_back i need ts parts.1 rest (k + 1))

  items_back : (i : Desc) (min max : Option ℕ) → IsNeeded table whole i → (x : TreeOf Tree) (t : Tree) → roll-Tree x ≡ t → OfParts BackInside x → items_fit (λ s. fits_under table whole s i) min max x ≡ true
      → ReadsBack Exact (items_written (λ s. written s i) x) (list_row table whole i min max (out-Json (items_written (λ s. written s i) x))) t
  items_back i min max need (Tree-F.List ts) t is parts fit =
      let js : List Json = map (λ s. written s i) ts in
      let (within, each) = and_parts (is_length_within min max (length ts)) (each_fits (λ s. fits_under table whole s i) ts) fit in
      let whole_list : list_row table whole i min max (out-Json (ItemsJson js)) ≡ as_tree Items (all_told (told_item table whole i) 0 js) =
      ap (list_row table whole i min max) (json.outs-List js)
      ∙ ap (λ (b : Bool). if_holds b BadLength (as_tree Items (all_told (told_item table whole i) 0 js))) (ap (is_length_within min max) (length-map ts (λ s. written s i)) ∙ within) in (
        (IsSound-List js).1 (items_sound i need ts parts each),
        subst (λ (o : Told). Gives Exact o t) (sym whole_list)
            (subst (Gives Exact (as_tree Items (all_told (told_item table whole i) 0 js))) (sym (tree.rolls-List ts) ∙ is)
            (gives_tree Exact Items (all_told (told_item table whole i) 0 js) ts (items_told_back i need ts parts each 0))),
      )
  items_back i min max need _ t is parts fit = absurd (cc fit)

  entries_sound : (i : Desc) → IsNeeded table whole i → (ps : List Pair) → AllByRecursion (λ p. BackInside p.value) ps → each_fits (λ p. fits_under table whole p.value i) ps ≡ true → AllByRecursion HasSoundValue (map (pair_written (λ s. written s i)) ps)
  entries_sound i need [] parts fit = tt
  entries_sound i need (p ∷ ps) parts fit =
      let (first, rest) = and_parts (fits_under table whole p.value i) (each_fits (λ p. fits_under table whole p.value i) ps) fit in
      ((parts.0.0 i need first).0, entries_sound i need ps parts.1 rest)

  entries_told_back : (i : Desc) → IsNeeded table whole i → (ps : List Pair) → AllByRecursion (λ p. BackInside p.value) ps → each_fits (λ p. fits_under table whole p.value i) ps ≡ true
      → (k : ℕ) → Gives Exact (all_told (λ j m. told_entry table whole i m) k (map (pair_written (λ s. written s i)) ps)) ps
  entries_told_back i need [] parts fit k = ([], refl, λ h. refl)
  entries_told_back i need (p ∷ ps) parts fit k =
      let (first, rest) = and_parts (fits_under table whole p.value i) (each_fits (λ p. fits_under table whole p.value i) ps) fit in
      let o = told table whole (written p.value i) i in
      gives_then Exact (as_pair p.key (below (Name p.key) o)) (all_told (λ j m. told_entry table whole i m) (k + 1) (map (pair_written (λ s. written s i)) ps)) p ps
      (gives_pair Exact p.key (below (Name p.key) o) p.value (gives_below Exact (Name p.key) o p.value (parts.0.0 i need first).1)) (entries_told_back i need ps parts.1 rest (k + 1))

  entries_back : (i : Desc) → IsNeeded table whole i → (x : TreeOf Tree) (t : Tree) → roll-Tree x ≡ t → OfParts BackInside x → entries_fit (λ s. fits_under table whole s i) x ≡ true
      → ReadsBack Exact (entries_written (λ s. written s i) x) (map_row table whole i (out-Json (entries_written (λ s. written s i) x))) t
  entries_back i need (Tree-F.Map ps) t is parts fit =
      let ms : List Member = map (pair_written (λ s. written s i)) ps in
      let (ascend, each) = and_parts (are_ascending (map key_of ps)) (each_fits (λ p. fits_under table whole p.value i) ps) fit in
      let sorted : Ascends (map name_of ms) = subst Ascends (sym (two_maps name_of (pair_written (λ s. written s i)) key_of (λ p. refl) ps)) (keys_sorted (map key_of ps) ascend) in
      let all_entries : map_row table whole i (out-Json (Object ms)) ≡ as_tree Entries (all_told (λ j m. told_entry table whole i m) 0 ms) =
      ap (map_row table whole i) (json.outs-Object ms) ∙ ap (λ (ns : List Member). as_tree Entries (all_told (λ j m. told_entry table whole i m) 0 ns)) (sorted_stays member_name ms sorted) in (
        (IsSound-Object ms).1 (entries_sound i need ps parts each, AreDistinct-sorted (map name_of ms) sorted),
        subst (λ (o : Told). Gives Exact o t) (sym all_entries)
            (subst (Gives Exact (as_tree Entries (all_told (λ j m. told_entry table whole i m) 0 ms))) (sym (tree.rolls-Map ps) ∙ is)
            (gives_tree Exact Entries (all_told (λ j m. told_entry table whole i m) 0 ms) ps (entries_told_back i need ps parts each 0))),
      )
  entries_back i need _ t is parts fit = absurd (cc fit)

  nought_only : (s : Tree) → fits_under table whole s NullDesc ≡ true → s ≡ Nought
  nought_only s fit = nought_is (out-Tree s) s (roll-out-Tree s) (sym (nought_row table whole s) ∙ fit)

  -- a field's value, or its absence
  abbrev FieldBack : Field → Tree → Type 0
  FieldBack f x = ReadsBack Exact (written x (field_desc f)) (by_presence f (value_denotes table whole f.desc (unless_left (is_left f x) (written x (field_desc f))))) x

  module _ (f : Field) (need : IsNeeded table whole f.desc) where
    -- a field that is there under its own descriptor
    plain_back : (place : _) (x : Tree) → BackInside x → fits_under table whole x f.desc ≡ true → ReadsBack Exact (written x f.desc) (below place (told table whole (written x f.desc) f.desc)) x
    plain_back place x known fit = let (sound, gives) = known.0 f.desc need fit in (sound, gives_below Exact place (told table whole (written x f.desc) f.desc) x gives)

    abbrev skipped_json : TreeOf Tree → Json
    skipped_json z = option_written (λ s. written s f.desc) z

    skipped_by : f.presence ≡ Skipped → (z : TreeOf Tree) (x : Tree) → roll-Tree z ≡ x → OfParts Back z → option_fits (λ s. fits_under table whole s f.desc) z ≡ true
        → ReadsBack Exact (skipped_json z) (by_presence f (value_denotes table whole f.desc (unless_left (is_none_level z) (skipped_json z)))) x
    skipped_by q Tree-F.None x is parts fit = rw q (tt, (Nothing, refl, λ h. sym tree.rolls-None ∙ is))
    skipped_by q (Tree-F.Some s) x is parts fit =
        let (sound, gives) = parts f.desc need fit in
        let o = told table whole (written s f.desc) f.desc in
        rw q (sound, subst (Gives Exact (just (below _ o))) (sym (tree.rolls-Some s) ∙ is) (gives_just Exact (below _ o) s (gives_below Exact _ o s gives)))
    skipped_by q _ x is parts fit = absurd (cc fit)

    skipped_desc_fits : (x : Tree) → f.presence ≡ Skipped → fits_under table whole x (field_desc f) ≡ true → option_fits (λ s. fits_under table whole s f.desc) (out-Tree x) ≡ true
    skipped_desc_fits x q fit = sym (skipped_row table whole x f.desc) ∙ subst (λ (d : Desc). fits_under table whole x d ≡ true) (skipped_desc f q) fit

    own_desc_fits : (x : Tree) → field_desc f ≡ f.desc → fits_under table whole x (field_desc f) ≡ true → fits_under table whole x f.desc ≡ true
    own_desc_fits x same fit = subst (λ (d : Desc). fits_under table whole x d ≡ true) same fit

    field_by : (p : Presence) → f.presence ≡ p → (x : Tree) → BackInside x → fits_under table whole x (field_desc f) ≡ true → FieldBack f x
    field_by Required q x known fit = rw q (plain_back _ x known (own_desc_fits x (rw q refl) fit))
    field_by Nullable q x known fit = rw q (plain_back _ x known (own_desc_fits x (rw q refl) fit))
    field_by (Default tree) q x known fit = rw q (plain_back _ x known (own_desc_fits x (rw q refl) fit))
    field_by Skipped q x known fit =
        let all = skipped_by q (out-Tree x) x (roll-out-Tree x) known.1 (skipped_desc_fits x q fit) in
        let as_option : written x (field_desc f) ≡ skipped_json (out-Tree x) = ap (written x) (skipped_desc f q) ∙ skipped_written table whole x f.desc in
        subst (λ (j : Json). ReadsBack Exact j (by_presence f (value_denotes table whole f.desc (unless_left (is_left f x) j))) x) (sym as_option)
        (subst (λ (b : Bool). ReadsBack Exact (skipped_json (out-Tree x)) (by_presence f (value_denotes table whole f.desc (unless_left b (skipped_json (out-Tree x))))) x) (rw q refl) all)

  fields_back : (fs : List Field) (xs : List Tree) → ((f : Field) → Contains fs f → IsNeeded table whole f.desc) → AllByRecursion BackInside xs → fields_fit (fits_under table whole) fs xs ≡ true → Beside FieldBack fs xs
  fields_back [] [] need known fit = tt
  fields_back [] (x ∷ xs) need known fit = absurd (cc fit)
  fields_back (f ∷ fs) [] need known fit = absurd (cc fit)
  fields_back (f ∷ fs) (x ∷ xs) need known fit =
      let (first, rest) = and_parts (fits_under table whole x (field_desc f)) (fields_fit (fits_under table whole) fs xs) fit in
      (field_by f (need f (contains_first f fs)) f.presence refl x known.0 first, fields_back fs xs (λ g c. need g (contains_later f fs g c)) known.1 rest)

  members_sound : (fs : List Field) (xs : List Tree) → Beside FieldBack fs xs → AllByRecursion HasSoundValue (members_written is_none_tree written fs xs)
  members_sound [] xs back = tt
  members_sound (f ∷ fs) [] back = tt
  members_sound (f ∷ fs) (x ∷ xs) back = sound_with (is_left f x) (member f.name (written x (field_desc f))) (members_written is_none_tree written fs xs) back.0.0 (members_sound fs xs back.1)

  fields_told_back : (ms : List Member) (fs : List Field) (xs : List Tree) → Beside FieldBack fs xs → Beside (IsFound written ms) fs xs → (k : ℕ) → Gives Exact (all_told (λ i f. told_field table whole ms f) k fs) xs
  fields_told_back ms [] [] back found k = ([], refl, λ h. refl)
  fields_told_back ms [] (x ∷ xs) back found k = absurd back
  fields_told_back ms (f ∷ fs) [] back found k = absurd back
  fields_told_back ms (f ∷ fs) (x ∷ xs) back found k =
      gives_then Exact (told_field table whole ms f) (all_told (λ i f. told_field table whole ms f) (k + 1) fs) x xs
      (subst (λ (o : Option Json). Gives Exact (by_presence f (value_denotes table whole f.desc o)) x) (sym found.0) back.0.1) (fields_told_back ms fs xs back.1 found.1 (k + 1))

  parts_back : (fs : List Field) (deny : Bool) → AreDistinct (map field_name fs) → ((f : Field) → Contains fs f → IsNeeded table whole f.desc) → (x : TreeOf Tree) (t : Tree) → roll-Tree x ≡ t → OfParts BackInside x
      → parts_fit (fits_under table whole) fs x ≡ true → ReadsBack Exact (parts_written is_none_tree written fs x) (struct_row table whole fs deny (out-Json (parts_written is_none_tree written fs x))) t
  parts_back fs deny distinct need (Tree-F.Fields xs) t is parts fit =
      let ms : List Member = members_written is_none_tree written fs xs in
      let back = fields_back fs xs need parts fit in
      let none_denied : is_none (denied_name deny fs ms) ≡ true = denied_is deny fs ms ∙ ap (λ (b : Bool). not deny || b) (written_declared written fs xs) ∙ or-true (not deny) in
      let all_parts : struct_row table whole fs deny (out-Json (Object ms)) ≡ as_tree Parts (told_fields table whole ms fs) =
      ap (struct_row table whole fs deny) (json.outs-Object ms) ∙ no_name (denied_name deny fs ms) (as_tree Parts (told_fields table whole ms fs)) none_denied in (
        (IsSound-Object ms).1 (members_sound fs xs back, distinct_written written fs xs distinct),
        subst (λ (o : Told). Gives Exact o t) (sym all_parts)
            (subst (Gives Exact (as_tree Parts (told_fields table whole ms fs))) (sym (tree.rolls-Fields xs) ∙ is)
            (gives_tree Exact Parts (told_fields table whole ms fs) xs (fields_told_back ms fs xs back (all_found written FieldBack fs xs distinct back) 0))),
      )
  parts_back fs deny distinct need _ t is parts fit = absurd (cc fit)

  module _ (d : Desc) (vs : List Variant) (need : IsNeeded table whole d) (e : out-Desc d ≡ Desc-F.External vs) where
    payload_back : (s : Tree) → BackInside s → (v : Variant) → Contains vs v → (o : Option Desc) → v.payload ≡ o → fits_under table whole s (payload_or_null o) ≡ true → PayloadBack Exact (told table whole) (written s) s o
    payload_back s known v inside None q fit = nought_only s fit
    payload_back s known v inside (Some a) q fit = known.0 a (payload_needed table whole d vs v a e inside q need) fit

    abbrev ExternalBack : Tree → Json → Type 0
    ExternalBack u j = ReadsBack Exact j (external (told table whole) vs (out-Json j)) u

    external_back : (x : TreeOf Tree) (t : Tree) → roll-Tree x ≡ t → OfParts BackInside x → choice_fits (fits_under table whole) (map payload_of vs) x ≡ true → ExternalBack t (external_written written vs x)
    external_back (Tree-F.Variant i s) t is parts fit =
        let distinct = (names_apart table d (Desc-F.External vs) e (is_right table whole d passes right (needed_part table whole d need))).0 in
        let (v, there, fits) = given_at (fits_under table whole s) payload_of vs i fit in
        let back = variant_back Exact (told table whole) (written s) s vs distinct i v there v.payload refl (payload_back s parts v (at_place_inside vs i v there) v.payload refl fits) in
        subst (λ (o : Option Variant). ExternalBack t (at_place (variant_written (written s)) o)) (sym there)
        (subst (λ (u : Tree). ExternalBack u (variant_written (written s) v)) (sym (tree.rolls-Variant i s) ∙ is) back)
    external_back _ t is parts fit = absurd (cc fit)

  module _ (tag : List ℕ) (vs : List TaggedVariant) where
    abbrev tagged_row : Json-F Json Member → Told
    tagged_row y = tagged (λ j. j) (λ fs. struct_row table whole fs false y) tag vs y

    abbrev TaggedBack : Tree → Json → Type 0
    TaggedBack u j = ReadsBack Exact j (tagged_row (out-Json j)) u

    -- each field is looked up behind the tag
    module _ (names : AreDistinct (map tagged_name vs)) (i : ℕ) (v : TaggedVariant) (there : slice_get vs i ≡ Some v) where
      abbrev first : Member
      first = member tag (WordsJson (tagged_name v))

      behind_tag : AreDistinct (map field_name (tagged_fields v)) → IsNew tag (map field_name (tagged_fields v)) → ((f : Field) → Contains (tagged_fields v) f → IsNeeded table whole f.desc)
          → (x : TreeOf Tree) (s : Tree) → roll-Tree x ≡ s → OfParts BackInside x → parts_fit (fits_under table whole) (tagged_fields v) x ≡ true → TaggedBack (Choice i s) (with_tag tag (tagged_name v) (parts_written is_none_tree written (tagged_fields v) x))
      behind_tag distinct new need (Tree-F.Fields xs) s is parts fit =
          let fs : List Field = tagged_fields v in
          let ms : List Member = members_written is_none_tree written fs xs in
          let back = fields_back fs xs need parts fit in
          let found = found_behind written false first ms fs xs new (all_found written FieldBack fs xs distinct back) in
          let all_parts : tagged_row (out-Json (Object (first ∷ ms))) ≡ chosen i (as_tree Parts (told_fields table whole (first ∷ ms) fs)) =
          ap tagged_row (json.outs-Object (first ∷ ms)) ∙ tag_told tag vs names i v there (λ gs. struct_row table whole gs false (Json-F.Object (first ∷ ms))) ms in
          subst (TaggedBack (Choice i s)) (sym (tag_before tag (tagged_name v) ms)) (
            (IsSound-Object (first ∷ ms)).1 ((tt, members_sound fs xs back), (new_written written tag fs xs new, distinct_written written fs xs distinct)),
            subst (λ (o : Told). Gives Exact o (Choice i s)) (sym all_parts)
                (gives_chosen Exact i (as_tree Parts (told_fields table whole (first ∷ ms) fs)) s
                (subst (Gives Exact (as_tree Parts (told_fields table whole (first ∷ ms) fs))) (sym (tree.rolls-Fields xs) ∙ is)
                (gives_tree Exact Parts (told_fields table whole (first ∷ ms) fs) xs (fields_told_back (first ∷ ms) fs xs back found 0)))),
          )
      behind_tag distinct new need _ s is parts fit = absurd (cc fit)

    abbrev tagged_json : Tree → TaggedVariant → Json
    tagged_json s v = with_tag tag (tagged_name v) (written s (struct_of v))

    tagged_back : (d : Desc) → IsNeeded table whole d → out-Desc d ≡ Desc-F.Tagged tag vs → (x : TreeOf Tree) (t : Tree) → roll-Tree x ≡ t → OfParts BackBelow x → choice_fits (fits_under table whole) (map struct_of vs) x ≡ true
        → TaggedBack t (tagged_written written tag vs x)
    tagged_back d need e (Tree-F.Variant i s) t is parts fit =
        let here = is_right table whole d passes right (needed_part table whole d need) in
        let (names, each) = names_apart table d (Desc-F.Tagged tag vs) e here in
        let (v, there, fits) = given_at (fits_under table whole s) struct_of vs i fit in
        let inside = at_place_inside vs i v there in
        let new = new_name tag (tagged_fields v) (λ f c q. here.tags (tag, vs, v, f, e, inside, c, q)) in
        let fields_fit_so : parts_fit (fits_under table whole) (tagged_fields v) (out-Tree s) ≡ true = sym (struct_fits_row table whole s (tagged_fields v) false) ∙ fits in
        let written_so : written s (struct_of v) ≡ parts_written is_none_tree written (tagged_fields v) (out-Tree s) = struct_written table whole s (tagged_fields v) false in
        let back = behind_tag names i v there (distinct_at names_of_fields vs v each inside) new (λ f c. variant_needed table whole d tag vs v f e inside c need) (out-Tree s) s (roll-out-Tree s) parts.1 fields_fit_so in
        subst (λ (o : Option TaggedVariant). TaggedBack t (at_place (tagged_json s) o)) (sym there)
        (subst (λ (u : Tree). TaggedBack u (tagged_json s v)) (sym (tree.rolls-Variant i s) ∙ is) (subst (λ (j : Json). TaggedBack (Choice i s) (with_tag tag (tagged_name v) j)) (sym written_so) back))
    tagged_back d need e _ t is parts fit = absurd (cc fit)

  choice_at : (d : Desc) (ds : List Desc) → IsNeeded table whole d → out-Desc d ≡ Desc-F.Untagged ds → (i : ℕ) (s t : Tree) → BackInside s → (o : Option Desc) → alternative_at ds i ≡ o → if_there (fits_under table whole s) o ≡ true
      → ReadsBack Exact (written_if_there (written s) o) (first_told 0 (told table whole (written_if_there (written s) o)) ds) t
  choice_at d ds need e i s t known None there fit = absurd (cc fit)
  choice_at d ds need e i s t known (Some a) there fit =
      let (sound, gives) = known.0 a (alternative_needed table whole d ds a e (alternative_inside ds i a there) need) fit in
      let (read, is) = first_tells (told table whole (written s a)) 0 ds i a gives.0 there gives.1 in
      (sound, (read, is, λ exact. absurd (untagged_refuted d need (ds, e) exact)))

  choice_back : (d : Desc) (ds : List Desc) → IsNeeded table whole d → out-Desc d ≡ Desc-F.Untagged ds → (x : TreeOf Tree) (t : Tree) → OfParts BackInside x → choice_fits (fits_under table whole) ds x ≡ true
      → ReadsBack Exact (choice_written written ds x) (first_told 0 (told table whole (choice_written written ds x)) ds) t
  choice_back d ds need e (Tree-F.Variant i s) t parts fit = choice_at d ds need e i s t parts (alternative_at ds i) refl fit
  choice_back d ds need e _ t parts fit = absurd (cc fit)

  module _ (t : Tree) (below_parts : OfParts BackBelow (out-Tree t)) where
    abbrev parts : OfParts BackInside (out-Tree t)
    parts = parts_weaker inside_of (out-Tree t) below_parts

    abbrev BackWithin : ℕ → Type 0
    BackWithin n = (d : Desc) → Rests table n d → IsNeeded table whole d → fits_under table whole t d ≡ true → ReadsBack Exact (written t d) (told table whole (written t d) d) t

    reference_back : (n : ℕ) → BackWithin n → (d : Desc) (name : List ℕ) → IsNeeded table whole d → out-Desc d ≡ Desc-F.Ref name → (o : Option Desc) → definition table name ≡ o → MatchOption o ⊤ (Rests table n) → if_there (fits_under table whole t) o ≡ true
        → ReadsBack Exact (written_if_there (written t) o) (at_definition (told table whole (written_if_there (written t) o)) o) t
    reference_back n next d name need e None f rests fit = absurd (cc fit)
    reference_back n next d name need e (Some y) f rests fit = next y rests (definition_needed table whole d name y e f need) fit

    abbrev row_written : DescLevel → Json
    row_written y = written_by table is_none_tree written (written t) y (out-Tree t)

    -- one row for each descriptor
    row_back : (n : ℕ) → BackWithin n → (d : Desc) → IsNeeded table whole d → (y : DescLevel) → out-Desc d ≡ y → RestsBy table (Rests table n) y
        → fits_by table (fits_under table whole) (fits_under table whole t) y (out-Tree t) ≡ true → ReadsBack Exact (row_written y) (row table whole (row_written y) (out-Json (row_written y)) y) t
    row_back n next d need Desc-F.Any e rest fit = whole_back Exact (out-Tree t) t (roll-out-Tree t) fit
    row_back n next d need Desc-F.Never e rest fit = absurd (cc fit)
    row_back n next d need Desc-F.Null e rest fit = nought_back Exact (out-Tree t) t (roll-out-Tree t) fit
    row_back n next d need Desc-F.Char e rest fit = character_back Exact (out-Tree t) t (roll-out-Tree t) fit
    row_back n next d need (Desc-F.Enumeration ns) e rest fit =
        let distinct = (names_apart table d (Desc-F.Enumeration ns) e (is_right table whole d passes right (needed_part table whole d need))).0 in
        name_back Exact ns distinct (λ s. fits_under table whole s NullDesc) nought_only (out-Tree t) t (roll-out-Tree t) fit
    row_back n next d need (Desc-F.Map i) e rest fit = entries_back i (map_needed table whole d i e need) (out-Tree t) t (roll-out-Tree t) parts fit
    row_back n next d need Desc-F.Bool e rest fit = truth_back Exact (out-Tree t) t (roll-out-Tree t) fit
    row_back n next d need (Desc-F.Int kind min max) e rest fit = number_back Exact kind min max (out-Tree t) t (roll-out-Tree t) fit
    row_back n next d need (Desc-F.Text min max format) e rest fit = words_back Exact min max (out-Tree t) t (roll-out-Tree t) fit
    row_back n next d need (Desc-F.Option i) e rest fit = option_back d i need e (out-Tree t) t (roll-out-Tree t) parts fit
    row_back n next d need (Desc-F.List i min max) e rest fit = items_back i min max (list_needed table whole d i min max e need) (out-Tree t) t (roll-out-Tree t) parts fit
    row_back n next d need (Desc-F.Struct fs deny) e rest fit =
        let distinct = fields_distinct table d fs deny e (is_right table whole d passes right (needed_part table whole d need)) in
        parts_back fs deny distinct (λ f c. field_needed table whole d fs deny f e c need) (out-Tree t) t (roll-out-Tree t) parts fit
    row_back n next d need (Desc-F.External vs) e rest fit = external_back d vs need e (out-Tree t) t (roll-out-Tree t) parts fit
    row_back n next d need (Desc-F.Tagged tag vs) e rest fit = tagged_back tag vs d need e (out-Tree t) t (roll-out-Tree t) below_parts fit
    row_back n next d need (Desc-F.Untagged ds) e rest fit = choice_back d ds need e (out-Tree t) t parts fit
    row_back n next d need (Desc-F.Ref name) e rest fit = reference_back n next d name need e (definition table name) refl rest fit

    back_within : (n : ℕ) → BackWithin n
    unfolding Rests
    back_within zero d rest need fit = absurd rest
    back_within (suc n) d rest need fit =
        let row_fits = sym (fits_row table whole t d (rests d need)) ∙ fit in
        subst (λ (o : Told). ReadsBack Exact (written t d) o t) (sym (row_at table whole (written t d) d (out-Json (written t d)) (out-Desc d) (rests d need) refl refl))
        (subst (λ (j : Json). ReadsBack Exact j (row table whole j (out-Json j) (out-Desc d)) t) (sym (written_row table whole t d (rests d need))) (row_back n (back_within n) d need (out-Desc d) refl rest row_fits))

  known : (t : Tree) → BackBelow t
  known = by_parts BackBelow (λ t parts. (λ d need. back_within t parts (room table whole) d (rests d need) need, parts_weaker inside_of (out-Tree t) parts))

  pub read_back : (t : Tree) → Fits table whole t → ReadsBack Exact (json_of_tree table whole t) (told table whole (json_of_tree table whole t) whole) t
  read_back t fit = (known t).0 whole (of_whole the_whole) fit
