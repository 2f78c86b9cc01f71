-- The rows with no steps.
use Rattle.std.proofs.Common.{rules, ◌+◌, ◌≡◌, ℕ, ℤ, List, [], ◌∷◌, length, map, Option, Some, None, Bool, true, false, option_map, bytes_eq, refl, sym, ◌∙◌, ap, cond}
use Rattle.std.proofs.lemmas.List.{length-map}
use Rattle.std.specs.declared.result.Result.{Result}
use Rattle.schema_values.specs.declared.json_value.Json.{Json, out-Json}
use Rattle.schema_values.specs.declared.json_value.Json.TheOpen.{Json-F}
use Rattle.schema_values.specs.declared.json_value.Member.{Member}
use Rattle.schema_values.specs.Beside.{Beside, value_beside, beside_with, member_with, level_with}
use Rattle.descriptors.specs.declared.desc.Desc.{Desc, out-Desc}
use Rattle.descriptors.specs.declared.desc.Desc.TheOpen.{Desc-F}
use Rattle.descriptors.specs.declared.desc.Field.{Field}
use Rattle.descriptors.specs.declared.desc.IntKind.{IntKind}
use Rattle.descriptors.specs.declared.desc.Named.{Named}
use Rattle.descriptors.specs.declared.desc.TaggedVariant.{TaggedVariant}
use Rattle.descriptors.specs.declared.desc.Variant.{Variant}
use Rattle.descriptors.specs.declared.tree.Tree.{Tree, List as Items, Map as Entries, Fields as Parts}
use Rattle.typed_values.specs.declared.fault.FaultKind.TheVariants.{BadLength}
use Rattle.typed_values.specs.declared.fault.Place.TheVariants.{Item, Name}
use Rattle.descriptors.specs.declared.table.Definition.{Definition}
use Rattle.typed_values.specs.Bounds.{is_length_within}
use Rattle.typed_values.specs.Faults.{Trouble}
use Rattle.descriptors.specs.Definitions.{tagged_fields}
use Rattle.typed_values.specs.Denotes.{Told, below, Meaning, NamedMeaning, Level, value_named, nought, truth, character, number, words, one_of_names, optional, items, entries, fields, all_told, field_told, by_presence, value_told, and_then, as_tree, as_pair, if_holds, unless_denied, denied_name, member_name, external, at_tag, by_tag, chosen, tagged, told_by, told_within, room, told}
use Rattle.schema_values.specs.Order.{sorted_by}
use Rattle.typed_values.specs.Resting.{Rests}
use Rattle.typed_values.specs.Rows.{told_item, told_entry, value_denotes, told_field, told_fields, list_row, map_row, struct_row, row}
use Rattle.typed_values.specs.Levels.{DescLevel}
use Rattle.schema_values.proofs.CallerLemmas.{map_sorted}
use Rattle.typed_values.proofs.Steps.{told_row}

module _ {X : Type 0} (f : Json → X) where
  same_nought : (x : Json-F Json Member) → nought (level_with f x) ≡ nought x
  same_nought x = search rules

  same_truth : (x : Json-F Json Member) → truth (level_with f x) ≡ truth x
  same_truth x = search rules

  same_character : (x : Json-F Json Member) → character (level_with f x) ≡ character x
  same_character x = search rules

  same_number : (kind : IntKind) (min max : Option ℤ) (x : Json-F Json Member) → number kind min max (level_with f x) ≡ number kind min max x
  same_number kind min max x = search rules

  same_words : (min max : Option ℕ) (x : Json-F Json Member) → words min max (level_with f x) ≡ words min max x
  same_words min max x = search rules

  same_one_of_names : (ns : List Named) (x : Json-F Json Member) → one_of_names ns (level_with f x) ≡ one_of_names ns x
  same_one_of_names ns x = search rules

  same_optional : (t : Told) (x : Json-F Json Member) → optional (level_with f x) t ≡ optional x t
  same_optional t x = search rules

  found_cond : (b : Bool) (j : Json) (o : Option (Beside X)) (p : Option Json) → o ≡ option_map (beside_with f) p → cond b (Some (beside_with f j)) o ≡ option_map (beside_with f) (cond b (Some j) p)
  found_cond true j o p e = refl
  found_cond false j o p e = e

  same_found : (ms : List Member) (name : List ℕ) → value_named (map (member_with f) ms) name ≡ option_map (beside_with f) (value_named ms name)
  same_found [] name = refl
  same_found (m ∷ ms) name = found_cond (bytes_eq m.name name) m.value _ _ (same_found ms name)

all_same : {X Y T : Type 0} (g : X → Y) (f : ℕ → Y → Result T Trouble) (h : ℕ → X → Result T Trouble) → ((i : ℕ) (x : X) → f i (g x) ≡ h i x) → (i : ℕ) (xs : List X) → all_told f i (map g xs) ≡ all_told h i xs
all_same g f h same i [] = refl
all_same {T = T} g f h same i (x ∷ xs) = ap (λ (o : Result T Trouble). and_then o (all_told f (i + 1) (map g xs))) (same i x) ∙ ap (and_then (h i x)) (all_same g f h same (i + 1) xs)

all_alike : {X T : Type 0} (f h : ℕ → X → Result T Trouble) → ((i : ℕ) (x : X) → f i x ≡ h i x) → (i : ℕ) (xs : List X) → all_told f i xs ≡ all_told h i xs
all_alike f h same i [] = refl
all_alike {T = T} f h same i (x ∷ xs) = ap (λ (o : Result T Trouble). and_then o (all_told f (i + 1) xs)) (same i x) ∙ ap (and_then (h i x)) (all_alike f h same (i + 1) xs)

pub two_maps : {X Y Z : Type 0} (f : Y → Z) (g : X → Y) (h : X → Z) → ((x : X) → f (g x) ≡ h x) → (xs : List X) → map f (map g xs) ≡ map h xs
two_maps f g h same [] = refl
two_maps {Z = Z} f g h same (x ∷ xs) = ap (λ (z : Z). z ∷ map f (map g xs)) (same x) ∙ ap (λ (zs : List Z). h x ∷ zs) (two_maps f g h same xs)

module _ (table : List Definition) (whole : Desc) where
  -- what each value denotes, where steps are renewed
  abbrev meant : Json → Meaning
  meant = told_within table (room table whole)

  abbrev level_of : Json-F Json Member → Level
  level_of = level_with meant

  abbrev member_of : Member → NamedMeaning
  member_of = member_with meant

  same_each : (d : Desc) (js : List Json) → all_told (λ i x. below (Item i) (x.made (room table whole) d)) 0 (map (beside_with meant) js) ≡ all_told (told_item table whole d) 0 js
  unfolding told
  same_each d js = all_same (beside_with meant) (λ i x. below (Item i) (x.made (room table whole) d)) (told_item table whole d) (λ i j. refl) 0 js

  same_list : (d : Desc) (min max : Option ℕ) (x : Json-F Json Member) → items (room table whole) d min max (level_of x) ≡ list_row table whole d min max x
  same_list d min max Json-F.Null = refl
  same_list d min max (Json-F.Bool b) = refl
  same_list d min max (Json-F.Int i) = refl
  same_list d min max (Json-F.Text s) = refl
  same_list d min max (Json-F.List js) =
      ap (λ (n : ℕ). if_holds (is_length_within min max n) BadLength (as_tree Items (all_told (λ i x. below (Item i) (x.made (room table whole) d)) 0 (map (beside_with meant) js)))) (length-map js (beside_with meant))
      ∙ ap (λ (ts : Result (List Tree) Trouble). if_holds (is_length_within min max (length js)) BadLength (as_tree Items ts)) (same_each d js)
  same_list d min max (Json-F.Object ms) = refl

  same_pairs : (d : Desc) (ms : List Member) → all_told (λ i m. as_pair m.name (below (Name m.name) (m.value.made (room table whole) d))) 0 (map member_of ms) ≡ all_told (λ i m. told_entry table whole d m) 0 ms
  unfolding told
  same_pairs d ms = all_same member_of (λ i m. as_pair m.name (below (Name m.name) (m.value.made (room table whole) d))) (λ i m. told_entry table whole d m) (λ i m. refl) 0 ms

  same_map : (d : Desc) (x : Json-F Json Member) → entries (room table whole) d (level_of x) ≡ map_row table whole d x
  same_map d Json-F.Null = refl
  same_map d (Json-F.Bool b) = refl
  same_map d (Json-F.Int i) = refl
  same_map d (Json-F.Text s) = refl
  same_map d (Json-F.List js) = refl
  same_map d (Json-F.Object ms) =
      ap (λ (ns : List NamedMeaning). as_tree Entries (all_told (λ i m. as_pair m.name (below (Name m.name) (m.value.made (room table whole) d))) 0 ns)) (sym (map_sorted member_name member_name member_of (λ m. refl) ms))
      ∙ ap (as_tree Entries) (same_pairs d (sorted_by member_name ms))

  same_value : (d : Desc) (o : Option Json) → value_told (room table whole) d (option_map (beside_with meant) o) ≡ value_denotes table whole d o
  unfolding told
  same_value d None = refl
  same_value d (Some j) = refl

  same_field : (ms : List Member) (f : Field) → field_told (room table whole) (map member_of ms) f ≡ told_field table whole ms f
  same_field ms f = ap (by_presence f) (ap (value_told (room table whole) f.desc) (same_found meant ms f.name) ∙ same_value f.desc (value_named ms f.name))

  same_fields : (fs : List Field) (ms : List Member) → all_told (λ i f. field_told (room table whole) (map member_of ms) f) 0 fs ≡ told_fields table whole ms fs
  same_fields fs ms = all_alike (λ i f. field_told (room table whole) (map member_of ms) f) (λ i f. told_field table whole ms f) (λ i f. same_field ms f) 0 fs

  same_denied : (deny : Bool) (fs : List Field) (ms : List Member) → denied_name deny fs (map member_of ms) ≡ denied_name deny fs ms
  same_denied true fs ms = rw (two_maps member_name member_of member_name (λ m. refl) ms) refl
  same_denied false fs ms = refl

  same_struct : (fs : List Field) (deny : Bool) (x : Json-F Json Member) → fields (room table whole) fs deny (level_of x) ≡ struct_row table whole fs deny x
  same_struct fs deny Json-F.Null = refl
  same_struct fs deny (Json-F.Bool b) = refl
  same_struct fs deny (Json-F.Int i) = refl
  same_struct fs deny (Json-F.Text s) = refl
  same_struct fs deny (Json-F.List js) = refl
  same_struct fs deny (Json-F.Object ms) =
      ap (λ (name : Option (List ℕ)). unless_denied name (as_tree Parts (all_told (λ i f. field_told (room table whole) (map member_of ms) f) 0 fs))) (same_denied deny fs ms)
      ∙ ap (λ (ts : Result (List Tree) Trouble). unless_denied (denied_name deny fs ms) (as_tree Parts ts)) (same_fields fs ms)

  same_external : (vs : List Variant) (x : Json-F Json Member) → external (λ y d. y.made (room table whole) d) vs (level_of x) ≡ external (told table whole) vs x
  unfolding told
  same_external vs Json-F.Null = refl
  same_external vs (Json-F.Bool b) = refl
  same_external vs (Json-F.Int i) = refl
  same_external vs (Json-F.Text s) = refl
  same_external vs (Json-F.List js) = refl
  same_external vs (Json-F.Object []) = refl
  same_external vs (Json-F.Object (m ∷ [])) = refl
  same_external vs (Json-F.Object (m ∷ n ∷ ms)) = refl

  same_tag : (o : Option Json) → option_map value_beside (option_map (beside_with meant) o) ≡ option_map (λ j. j) o
  same_tag None = refl
  same_tag (Some j) = refl

  same_tagged : (tag : List ℕ) (vs : List TaggedVariant) (x : Json-F Json Member)
      → tagged value_beside (λ fs. fields (room table whole) fs false (level_of x)) tag vs (level_of x) ≡ tagged (λ j. j) (λ fs. struct_row table whole fs false x) tag vs x
  same_tagged tag vs Json-F.Null = refl
  same_tagged tag vs (Json-F.Bool b) = refl
  same_tagged tag vs (Json-F.Int i) = refl
  same_tagged tag vs (Json-F.Text s) = refl
  same_tagged tag vs (Json-F.List js) = refl
  same_tagged tag vs (Json-F.Object ms) =
      ap (λ (o : Option Json). by_tag tag (at_tag tag (λ i v. chosen i (fields (room table whole) (tagged_fields v) false (level_of (Json-F.Object ms)))) vs) o)
      (ap (option_map value_beside) (same_found meant ms tag) ∙ same_tag (value_named ms tag))
      ∙ ap (λ (struct : List Field → Told). by_tag tag (at_tag tag (λ i v. chosen i (struct (tagged_fields v))) vs) (option_map (λ j. j) (value_named ms tag)))
      (λ i fs. same_struct fs false (Json-F.Object ms) i)

  same_row : (j : Json) (x : Json-F Json Member) (y : DescLevel) → told_by table (room table whole) j (level_of x) (told table whole j) y ≡ row table whole j x y
  same_row j x Desc-F.Any = refl
  same_row j x Desc-F.Never = refl
  same_row j x Desc-F.Null = same_nought meant x
  same_row j x Desc-F.Bool = same_truth meant x
  same_row j x Desc-F.Char = same_character meant x
  same_row j x (Desc-F.Int kind min max) = same_number meant kind min max x
  same_row j x (Desc-F.Text min max format) = same_words meant min max x
  same_row j x (Desc-F.Enumeration ns) = same_one_of_names meant ns x
  same_row j x (Desc-F.Option d) = same_optional meant (told table whole j d) x
  same_row j x (Desc-F.List d min max) = same_list d min max x
  same_row j x (Desc-F.Map d) = same_map d x
  same_row j x (Desc-F.Struct fs deny) = same_struct fs deny x
  same_row j x (Desc-F.External vs) = same_external vs x
  same_row j x (Desc-F.Tagged tag vs) = same_tagged tag vs x
  same_row j x (Desc-F.Untagged ds) = refl
  same_row j x (Desc-F.Ref name) = refl

  -- the rows hold
  told_is : (j : Json) (d : Desc) → Rests table (room table whole) d → told table whole j d ≡ row table whole j (out-Json j) (out-Desc d)
  told_is j d h = told_row table whole j d h ∙ same_row j (out-Json j) (out-Desc d)

  pub row_at : (j : Json) (d : Desc) (x : Json-F Json Member) (y : DescLevel) → Rests table (room table whole) d → out-Json j ≡ x → out-Desc d ≡ y → told table whole j d ≡ row table whole j x y
  row_at j d x y h e f = told_is j d h ∙ ap (λ (z : Json-F Json Member). row table whole j z (out-Desc d)) e ∙ ap (row table whole j x) f
