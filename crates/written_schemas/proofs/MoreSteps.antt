-- More steps at each value tell the same of a table that passes: they are those of the whole descriptor under options.
use Rattle.std.proofs.Common.{◌≡◌, ℕ, zero, suc, ◌+◌, ◌-◌, ◌≤◌, Bool, List, [], ◌∷◌, length, Option, Some, None, option_map, refl, sym, ◌∙◌, ap, subst, arith, MatchOption, bytes_eq, cond, true, false}
use Rattle.std.specs.List.{AllByRecursion}
use Rattle.std.specs.Prelude.{Contains, ⊤}
use Rattle.std.specs.declared.result.Result.{Result}
use Rattle.schema_values.specs.declared.json_value.Json.{Json, out-Json}
use Rattle.schema_values.specs.declared.json_value.Json.TheOpen.{Json-F}
use Rattle.schema_values.specs.declared.json_value.Member.{Member}
use Rattle.descriptors.specs.declared.desc.Desc.{Desc, out-Desc, Option as OptionOf}
use Rattle.descriptors.specs.declared.desc.Desc.TheOpen.{Desc-F}
use Rattle.descriptors.specs.declared.desc.Desc.TheVariants as desc
use Rattle.descriptors.specs.declared.desc.Field.{Field}
use Rattle.descriptors.specs.declared.desc.TaggedVariant.{TaggedVariant}
use Rattle.descriptors.specs.declared.desc.Variant.{Variant}
use Rattle.descriptors.specs.declared.table.Definition.{Definition}
use Rattle.descriptors.specs.declared.tree.Tree.{Tree, List as Items, Map as Entries, Fields as Parts}
use Rattle.typed_values.specs.declared.fault.FaultKind.TheVariants.{BadLength, NotListed}
use Rattle.typed_values.specs.Bounds.{is_length_within}
use Rattle.typed_values.specs.Checks.{TablePasses, DescPasses}
use Rattle.descriptors.specs.Definitions.{definition, entry_of, variant_name, tagged_name, tagged_fields}
use Rattle.typed_values.specs.Denotes.{Told, told, told_within, room, nodes, refused, below, chosen, named_from, where_found, with_payload, external, at_tag, by_tag, tagged, and_then, all_told, as_tree, as_pair, if_holds, member_name, optional, or_else, first_told, value_named, by_presence, unless_denied, denied_name, at_definition}
use Rattle.typed_values.specs.Faults.{Trouble}
use Rattle.schema_values.specs.Order.{sorted_by}
use Rattle.typed_values.specs.Parts.{the_whole}
use Rattle.typed_values.specs.Rows.{told_item, told_entry, value_denotes, told_field, list_row, map_row, struct_row, row}
use Rattle.typed_values.specs.Resting.{EachRests, RestsBy, Rests, AllRest}
use Rattle.typed_values.specs.Levels.{DescLevel}
use Rattle.schema_values.proofs.CallerLemmas.{contains_first, contains_later, OfParts, by_parts, all_sorted}
use Rattle.descriptors.proofs.CallerLemmas.{definition_is}
use Rattle.typed_values.proofs.CallerLemmas.{IsNeeded, of_whole, needed_part, option_needed, list_needed, map_needed, field_needed, payload_needed, variant_needed, alternative_needed, reference_needed, row_at, guarded_rests, each_of, nodes_at}

-- a descriptor under so many options
options : ℕ → Desc → Desc
options zero d = d
options (suc k) d = OptionOf (options k d)

nodes_under : (k : ℕ) (d : Desc) → nodes (options k d) ≡ k + nodes d
unfolding options
nodes_under zero d = omega arith
nodes_under (suc k) d = omega (arith, nodes_at (OptionOf (options k d)) (Desc-F.Option (options k d)) (desc.outs-Option (options k d)), nodes_under k d)

room_under : (table : List Definition) (k : ℕ) (d : Desc) → room table (options k d) ≡ k + room table d
unfolding room
room_under table k d = omega (arith, nodes_under k d)

-- what rests rests with more steps
module _ (table : List Definition) where
  each_more : (Less More : Desc → Type 0) → ((d : Desc) → Less d → More d) → (ds : List Desc) → EachRests Less ds → EachRests More ds
  each_more Less More step [] h = tt
  each_more Less More step (d ∷ ds) h = (step d h.0, each_more Less More step ds h.1)

  found_more : (Less More : Desc → Type 0) → ((d : Desc) → Less d → More d) → (o : Option Desc) → MatchOption o ⊤ Less → MatchOption o ⊤ More
  found_more Less More step None h = h
  found_more Less More step (Some d) h = step d h

  rests_by_more : (Less More : Desc → Type 0) → ((d : Desc) → Less d → More d) → (z : DescLevel) → RestsBy table Less z → RestsBy table More z
  rests_by_more Less More step Desc-F.Any h = tt
  rests_by_more Less More step Desc-F.Never h = tt
  rests_by_more Less More step Desc-F.Null h = tt
  rests_by_more Less More step Desc-F.Bool h = tt
  rests_by_more Less More step Desc-F.Char h = tt
  rests_by_more Less More step (Desc-F.Int kind min max) h = tt
  rests_by_more Less More step (Desc-F.Text min max format) h = tt
  rests_by_more Less More step (Desc-F.Enumeration ns) h = tt
  rests_by_more Less More step (Desc-F.Option d) h = step d h
  rests_by_more Less More step (Desc-F.List d min max) h = tt
  rests_by_more Less More step (Desc-F.Map d) h = tt
  rests_by_more Less More step (Desc-F.Struct fs deny) h = tt
  rests_by_more Less More step (Desc-F.External vs) h = tt
  rests_by_more Less More step (Desc-F.Tagged tag vs) h = tt
  rests_by_more Less More step (Desc-F.Untagged ds) h = each_more Less More step ds h
  rests_by_more Less More step (Desc-F.Ref name) h = found_more Less More step (definition table name) h

  rests_more : (n m : ℕ) (d : Desc) → n ≤ m → Rests table n d → Rests table m d
  unfolding Rests
  rests_more zero m d le h = absurd h
  rests_more (suc n) zero d le h = absurd (omega (arith, le))
  rests_more (suc n) (suc m) d le h = rests_by_more (Rests table n) (Rests table m) (λ e r. rests_more n m e (omega (arith, le)) r) (out-Desc d) h

all_alike : {X T : Type 0} (f g : ℕ → X → Result T Trouble) → (i : ℕ) (xs : List X) → AllByRecursion (λ x. (i : ℕ) → f i x ≡ g i x) xs → all_told f i xs ≡ all_told g i xs
all_alike f g i [] h = refl
all_alike {T = T} f g i (x ∷ xs) h = ap (λ (o : Result T Trouble). and_then o (all_told f (i + 1) xs)) (h.0 i) ∙ ap (and_then (g i x)) (all_alike f g (i + 1) xs h.1)

-- what is told of the thing that is found is the same, where it is of each
found_alike : {X : Type 0} (name_of : X → List ℕ) (unlisted : Told) (f g : ℕ → X → Told) (w : List ℕ) (i : ℕ) (xs : List X) → ((i : ℕ) (x : X) → Contains xs x → f i x ≡ g i x)
    → where_found unlisted f (named_from name_of i xs w) ≡ where_found unlisted g (named_from name_of i xs w)
found_alike name_of unlisted f g w i [] h = refl
found_alike name_of unlisted f g w i (x ∷ xs) h =
    by_name (bytes_eq (name_of x) w) (h i x (contains_first x xs)) (found_alike name_of unlisted f g w (i + 1) xs (λ k y c. h k y (contains_later x xs y c)))
  where
    by_name : (b : Bool) → f i x ≡ g i x → where_found unlisted f (named_from name_of (i + 1) xs w) ≡ where_found unlisted g (named_from name_of (i + 1) xs w)
        → where_found unlisted f (cond b (Some (i, x)) (named_from name_of (i + 1) xs w)) ≡ where_found unlisted g (cond b (Some (i, x)) (named_from name_of (i + 1) xs w))
    by_name true here later = here
    by_name false here later = later

payload_alike : (f g : Desc → Told) (i : ℕ) (v : Variant) (o : Option Desc) → v.payload ≡ o → ((x : Desc) → o ≡ Some x → f x ≡ g x) → with_payload f i v ≡ with_payload g i v
payload_alike f g i v None e h = rw e refl
payload_alike f g i v (Some x) e h = rw e (ap (λ (o : Told). with_payload (λ y. o) i (record v { payload = Some x })) (h x refl))

tag_alike : (tag : List ℕ) (f g : ℕ → TaggedVariant → Told) (vs : List TaggedVariant) → ((i : ℕ) (v : TaggedVariant) → Contains vs v → f i v ≡ g i v)
    → (j : Json) (x : Json-F Json Member) → out-Json j ≡ x → at_tag tag f vs j ≡ at_tag tag g vs j
tag_alike tag f g vs h j Json-F.Null e = rw e refl
tag_alike tag f g vs h j (Json-F.Bool b) e = rw e refl
tag_alike tag f g vs h j (Json-F.Int i) e = rw e refl
tag_alike tag f g vs h j (Json-F.Text w) e = rw e (found_alike tagged_name _ f g w 0 vs h)
tag_alike tag f g vs h j (Json-F.List js) e = rw e refl
tag_alike tag f g vs h j (Json-F.Object ms) e = rw e refl

module _ (table : List Definition) (whole more : Desc) (sound : AllRest table whole) (le : room table whole ≤ room table more) where
  -- both tell the same of the descriptors that the whole one needs
  abbrev Same : Json → Type 0
  Same j = (d : Desc) → IsNeeded table whole d → told table more j d ≡ told table whole j d

  same_items : (x : Desc) → IsNeeded table whole x → (js : List Json) → AllByRecursion Same js → AllByRecursion (λ v. (i : ℕ) → told_item table more x i v ≡ told_item table whole x i v) js
  same_items x need [] h = tt
  same_items x need (v ∷ js) h = (λ i. ap (below _) (h.0 x need), same_items x need js h.1)

  same_list : (x : Desc) (min max : Option ℕ) → IsNeeded table whole x → (y : Json-F Json Member) → OfParts Same y → list_row table more x min max y ≡ list_row table whole x min max y
  same_list x min max need Json-F.Null h = refl
  same_list x min max need (Json-F.Bool b) h = refl
  same_list x min max need (Json-F.Int i) h = refl
  same_list x min max need (Json-F.Text w) h = refl
  same_list x min max need (Json-F.List js) h =
      ap (λ (ts : Result (List Tree) Trouble). if_holds (is_length_within min max (length js)) BadLength (as_tree Items ts)) (all_alike (told_item table more x) (told_item table whole x) 0 js (same_items x need js h))
  same_list x min max need (Json-F.Object ms) h = refl

  same_pairs : (x : Desc) → IsNeeded table whole x → (ms : List Member) → AllByRecursion (λ m. Same m.value) ms
      → AllByRecursion (λ (m : Member). (i : ℕ) → told_entry table more x m ≡ told_entry table whole x m) ms
  same_pairs x need [] h = tt
  same_pairs x need (m ∷ ms) h = (λ i. ap (as_pair m.name) (ap (below _) (h.0 x need)), same_pairs x need ms h.1)

  same_map : (x : Desc) → IsNeeded table whole x → (y : Json-F Json Member) → OfParts Same y → map_row table more x y ≡ map_row table whole x y
  same_map x need Json-F.Null h = refl
  same_map x need (Json-F.Bool b) h = refl
  same_map x need (Json-F.Int i) h = refl
  same_map x need (Json-F.Text w) h = refl
  same_map x need (Json-F.List js) h = refl
  same_map x need (Json-F.Object ms) h =
      ap (as_tree Entries)
      (all_alike (λ i m. told_entry table more x m) (λ i m. told_entry table whole x m) 0 (sorted_by member_name ms)
      (all_sorted _ member_name ms (same_pairs x need ms h)))

  same_value : (x : Desc) → IsNeeded table whole x → (name : List ℕ) (ms : List Member) → AllByRecursion (λ m. Same m.value) ms → value_denotes table more x (value_named ms name) ≡ value_denotes table whole x (value_named ms name)
  same_value x need name [] h = refl
  same_value x need name (m ∷ ms) h = by_name (bytes_eq m.name name) (same_value x need name ms h.1)
    where
      by_name : (b : Bool) → value_denotes table more x (value_named ms name) ≡ value_denotes table whole x (value_named ms name)
          → value_denotes table more x (cond b (Some m.value) (value_named ms name)) ≡ value_denotes table whole x (cond b (Some m.value) (value_named ms name))
      by_name true e = ap Some (h.0 x need)
      by_name false e = e

  same_fields : (fs : List Field) → ((f : Field) → Contains fs f → IsNeeded table whole f.desc) → (ms : List Member) → AllByRecursion (λ m. Same m.value) ms
      → AllByRecursion (λ f. (i : ℕ) → told_field table more ms f ≡ told_field table whole ms f) fs
  same_fields [] need ms h = tt
  same_fields (f ∷ fs) need ms h = (λ i. ap (by_presence f) (same_value f.desc (need f (contains_first f fs)) f.name ms h), same_fields fs (λ g c. need g (contains_later f fs g c)) ms h)

  same_struct : (fs : List Field) (deny : Bool) → ((f : Field) → Contains fs f → IsNeeded table whole f.desc) → (y : Json-F Json Member) → OfParts Same y → struct_row table more fs deny y ≡ struct_row table whole fs deny y
  same_struct fs deny need Json-F.Null h = refl
  same_struct fs deny need (Json-F.Bool b) h = refl
  same_struct fs deny need (Json-F.Int i) h = refl
  same_struct fs deny need (Json-F.Text w) h = refl
  same_struct fs deny need (Json-F.List js) h = refl
  same_struct fs deny need (Json-F.Object ms) h =
      ap (λ (ts : Result (List Tree) Trouble). unless_denied (denied_name deny fs ms) (as_tree Parts ts)) (all_alike (λ i f. told_field table more ms f) (λ i f. told_field table whole ms f) 0 fs (same_fields fs need ms h))

  same_external : (vs : List Variant) → ((v : Variant) (x : Desc) → Contains vs v → v.payload ≡ Some x → IsNeeded table whole x) → (y : Json-F Json Member) → OfParts Same y
      → external (told table more) vs y ≡ external (told table whole) vs y
  same_external vs need Json-F.Null h = refl
  same_external vs need (Json-F.Bool b) h = refl
  same_external vs need (Json-F.Int i) h = refl
  same_external vs need (Json-F.Text w) h = refl
  same_external vs need (Json-F.List js) h = refl
  same_external vs need (Json-F.Object []) h = refl
  same_external vs need (Json-F.Object (m ∷ [])) h =
      found_alike variant_name (refused NotListed) (with_payload (told table more m.value)) (with_payload (told table whole m.value)) m.name 0 vs
      (λ i v c. payload_alike (told table more m.value) (told table whole m.value) i v v.payload refl (λ x e. h.0 x (need v x c e)))
  same_external vs need (Json-F.Object (m ∷ n ∷ ms)) h = refl

  same_tagged : (tag : List ℕ) (vs : List TaggedVariant) → ((v : TaggedVariant) (f : Field) → Contains vs v → Contains (tagged_fields v) f → IsNeeded table whole f.desc) → (y : Json-F Json Member) → OfParts Same y
      → tagged (λ j. j) (λ fs. struct_row table more fs false y) tag vs y ≡ tagged (λ j. j) (λ fs. struct_row table whole fs false y) tag vs y
  same_tagged tag vs need Json-F.Null h = refl
  same_tagged tag vs need (Json-F.Bool b) h = refl
  same_tagged tag vs need (Json-F.Int i) h = refl
  same_tagged tag vs need (Json-F.Text w) h = refl
  same_tagged tag vs need (Json-F.List js) h = refl
  same_tagged tag vs need (Json-F.Object ms) h = at_value (value_named ms tag)
    where
      at_value : (o : Option Json) → by_tag tag (at_tag tag (λ i v. chosen i (struct_row table more (tagged_fields v) false (Json-F.Object ms))) vs) (option_map (λ j. j) o)
          ≡ by_tag tag (at_tag tag (λ i v. chosen i (struct_row table whole (tagged_fields v) false (Json-F.Object ms))) vs) (option_map (λ j. j) o)
      at_value None = refl
      at_value (Some j) =
          tag_alike tag _ _ vs (λ i v c. ap (chosen i) (same_struct (tagged_fields v) false (λ f k. need v f c k) (Json-F.Object ms) h)) j (out-Json j) refl

  same_first : (f g : Desc → Told) (i : ℕ) (ds : List Desc) → ((x : Desc) → Contains ds x → f x ≡ g x) → first_told i f ds ≡ first_told i g ds
  same_first f g i [] h = refl
  same_first f g i (x ∷ ds) h = ap (λ (o : Told). or_else i o (first_told (i + 1) f ds)) (h x (contains_first x ds)) ∙ ap (or_else i (g x)) (same_first f g (i + 1) ds (λ y c. h y (contains_later x ds y c)))

  module _ (j : Json) (below_j : OfParts Same (out-Json j)) where
    same_reference : (n : ℕ) → ((d : Desc) → Rests table n d → IsNeeded table whole d → told table more j d ≡ told table whole j d)
        → (d : Desc) (name : List ℕ) → IsNeeded table whole d → out-Desc d ≡ Desc-F.Ref name → (o : Option Definition) → entry_of table name ≡ o
        → MatchOption (option_map (λ e. e.desc) o) ⊤ (Rests table n) → at_definition (told table more j) (option_map (λ e. e.desc) o) ≡ at_definition (told table whole j) (option_map (λ e. e.desc) o)
    same_reference n ih d name need e None f rests = refl
    same_reference n ih d name need e (Some y) f rests = ih y.desc rests (reference_needed table whole d name y e f need)

    same_by : (n : ℕ) → ((d : Desc) → Rests table n d → IsNeeded table whole d → told table more j d ≡ told table whole j d)
        → (d : Desc) → IsNeeded table whole d → (z : DescLevel) → out-Desc d ≡ z → RestsBy table (Rests table n) z → row table more j (out-Json j) z ≡ row table whole j (out-Json j) z
    same_by n ih d need Desc-F.Any e rests = refl
    same_by n ih d need Desc-F.Never e rests = refl
    same_by n ih d need Desc-F.Null e rests = refl
    same_by n ih d need Desc-F.Bool e rests = refl
    same_by n ih d need Desc-F.Char e rests = refl
    same_by n ih d need (Desc-F.Int kind min max) e rests = refl
    same_by n ih d need (Desc-F.Text min max format) e rests = refl
    same_by n ih d need (Desc-F.Enumeration ns) e rests = refl
    same_by n ih d need (Desc-F.Option x) e rests = ap (λ (o : Told). optional (out-Json j) o) (ih x rests (option_needed table whole d x e need))
    same_by n ih d need (Desc-F.List x min max) e rests = same_list x min max (list_needed table whole d x min max e need) (out-Json j) below_j
    same_by n ih d need (Desc-F.Map x) e rests = same_map x (map_needed table whole d x e need) (out-Json j) below_j
    same_by n ih d need (Desc-F.Struct fs deny) e rests = same_struct fs deny (λ f c. field_needed table whole d fs deny f e c need) (out-Json j) below_j
    same_by n ih d need (Desc-F.External vs) e rests = same_external vs (λ v x c f. payload_needed table whole d vs v x e c f need) (out-Json j) below_j
    same_by n ih d need (Desc-F.Tagged tag vs) e rests = same_tagged tag vs (λ v f c k. variant_needed table whole d tag vs v f e c k need) (out-Json j) below_j
    same_by n ih d need (Desc-F.Untagged ds) e rests =
        same_first (told table more j) (told table whole j) 0 ds (λ x c. ih x (each_of (Rests table n) ds x rests c) (alternative_needed table whole d ds x e c need))
    same_by n ih d need (Desc-F.Ref name) e rests =
        let found = definition_is table name in
        ap (at_definition (told table more j)) found
        ∙ same_reference n ih d name need e (entry_of table name) refl (subst (λ (o : Option Desc). MatchOption o ⊤ (Rests table n)) found rests)
        ∙ ap (at_definition (told table whole j)) (sym found)

    same_at : (n : ℕ) (d : Desc) → Rests table n d → IsNeeded table whole d → told table more j d ≡ told table whole j d
    unfolding Rests
    same_at zero d rests need = absurd rests
    same_at (suc n) d rests need =
        let rest = sound d (needed_part table whole d need) in
        row_at table more j d (out-Json j) (out-Desc d) (rests_more table (room table whole) (room table more) d le rest) refl refl
        ∙ same_by n (same_at n) d need (out-Desc d) refl rests
        ∙ sym (row_at table whole j d (out-Json j) (out-Desc d) rest refl refl)

  same : (j : Json) → Same j
  same = by_parts Same (λ j parts d need. same_at j parts (room table whole) d (sound d (needed_part table whole d need)) need)

-- so does any number of steps that is no less than the room
pub more_steps : (table : List Definition) (desc : Desc) → TablePasses table → DescPasses table desc → (json : Json) (steps : ℕ) → room table desc ≤ steps → told_within table steps json steps desc ≡ told table desc json desc
unfolding told
more_steps table desc passes right json steps le =
    let k : ℕ = steps - room table desc in
    let is : room table (options k desc) ≡ steps = omega (arith, room_under table k desc, le) in
    sym (ap (λ (n : ℕ). told_within table n json n desc) is)
    ∙ same table desc (options k desc) (guarded_rests table desc passes.guarded) (omega (arith, is, le)) json desc (of_whole the_whole)
