-- One level of a value with its members in order: scalars, names that are looked up, variants.
use Rattle.std.proofs.Common.{rules, ◌≡◌, ◌≤◌, ℕ, suc, ◌+◌, ℤ, Bool, true, false, List, [], ◌∷◌, length, map, fold, Less, Equal, Greater, nat_cmp, Option, Some, None, option_map, bytes_eq, cond, refl, sym, ◌∙◌, ap, arith, MatchOption}
use Rattle.std.proofs.lemmas.List.{length-map}
use Rattle.std.specs.Cmp.Lexicographic.{slice_cmp}
use Rattle.std.specs.List.{AllByRecursion}
use Rattle.std.specs.Prelude.{⊤, Contains}
use Rattle.std.specs.declared.cmp.Ordering.{Ordering}
use Rattle.std.specs.declared.result.Result.{Result}
use Rattle.schema_values.specs.declared.json_value.Json.{Json, out-Json}
use Rattle.schema_values.specs.declared.json_value.Json.TheOpen.{Json-F}
use Rattle.schema_values.specs.declared.json_value.Member.{Member}
use Rattle.schema_values.specs.Member.{name_of}
use Rattle.schema_values.specs.Order.{at_place, inserted_by, sorted_by}
use Rattle.schema_values.specs.SortedMembers.{sorted_members, sorted_member}
use Rattle.schema_values.proofs.CallerLemmas.{contains_first, contains_later}
use Rattle.descriptors.specs.declared.desc.Desc.{Desc}
use Rattle.descriptors.specs.declared.desc.Field.{Field}
use Rattle.descriptors.specs.declared.desc.IntKind.{IntKind}
use Rattle.descriptors.specs.declared.desc.Named.{Named}
use Rattle.descriptors.specs.declared.desc.TaggedVariant.{TaggedVariant}
use Rattle.descriptors.specs.declared.desc.Variant.{Variant}
use Rattle.descriptors.specs.Definitions.{tagged_name}
use Rattle.typed_values.specs.declared.fault.FaultKind.TheVariants.{NotListed, WrongKind}
use Rattle.typed_values.specs.declared.fault.Place.TheVariants.{Name}
use Rattle.typed_values.specs.Denotes.{Told, below, refused, all_told, and_then, value_named, denied_name, nought, truth, character, number, words, one_of_names, optional, just, external, at_tag, by_tag, chosen, where_found, named_from, with_payload}
use Rattle.typed_values.specs.Faults.{Trouble}
use Rattle.typed_values.proofs.CallerLemmas.{first_sorted, at_tag_text, at_tag_other, payload_told, no_payload, value_of_first, denied_sorted, found_inside}
use Rattle.page_tokens.proofs.Sorting.{level_in_order, level_sorted, same_names}

-- ---- lists of which each item is told the same

pub told_alike : {X T : Type 0} (f h : ℕ → X → Result T Trouble) (i : ℕ) (xs : List X) → AllByRecursion (λ x. (k : ℕ) → f k x ≡ h k x) xs → all_told f i xs ≡ all_told h i xs
told_alike f h i [] same = refl
told_alike {T = T} f h i (x ∷ xs) same =
    ap (λ (o : Result T Trouble). and_then o (all_told f (i + 1) xs)) (same.0 i) ∙ ap (and_then (h i x)) (told_alike f h (i + 1) xs same.1)

pub told_mapped : {X T : Type 0} (g : X → X) (f : ℕ → X → Result T Trouble) (i : ℕ) (xs : List X) → AllByRecursion (λ x. (k : ℕ) → f k (g x) ≡ f k x) xs → all_told f i (map g xs) ≡ all_told f i xs
told_mapped g f i [] same = refl
told_mapped {T = T} g f i (x ∷ xs) same =
    ap (λ (o : Result T Trouble). and_then o (all_told f (i + 1) (map g xs))) (same.0 i) ∙ ap (and_then (f i x)) (told_mapped g f (i + 1) xs same.1)

pub each : {X : Type 0} (P : X → Type 0) (xs : List X) → ((x : X) → Contains xs x → P x) → AllByRecursion P xs
each P [] all = tt
each P (x ∷ xs) all = (all x (contains_first x xs), each P xs (λ y c. all y (contains_later x xs y c)))

-- a fact that follows from one holds of each item that the one holds of
pub weaker : {X : Type 0} (P Q : X → Type 0) (xs : List X) → ((x : X) → P x → Q x) → AllByRecursion P xs → AllByRecursion Q xs
weaker P Q [] more all = tt
weaker P Q (x ∷ xs) more all = (more x all.0, weaker P Q xs more all.1)

pub both : {X : Type 0} (P Q : X → Type 0) (xs : List X) → AllByRecursion P xs → AllByRecursion (λ x. P x → Q x) xs → AllByRecursion Q xs
both P Q [] first then = tt
both P Q (x ∷ xs) first then = (then.0 first.0, both P Q xs first.1 then.1)

-- ---- scalars stay as they are

pub same_nought : (x : Json-F Json Member) → nought (level_in_order x) ≡ nought x
same_nought x = search rules

pub same_truth : (x : Json-F Json Member) → truth (level_in_order x) ≡ truth x
same_truth x = search rules

pub same_character : (x : Json-F Json Member) → character (level_in_order x) ≡ character x
same_character x = search rules

pub same_number : (kind : IntKind) (min max : Option ℤ) (x : Json-F Json Member) → number kind min max (level_in_order x) ≡ number kind min max x
same_number kind min max x = search rules

pub same_words : (min max : Option ℕ) (x : Json-F Json Member) → words min max (level_in_order x) ≡ words min max x
same_words min max x = search rules

pub same_one_of_names : (ns : List Named) (x : Json-F Json Member) → one_of_names ns (level_in_order x) ≡ one_of_names ns x
same_one_of_names ns x = search rules

pub same_optional : (x : Json-F Json Member) (s t : Told) → s ≡ t → optional (level_in_order x) s ≡ optional x t
same_optional Json-F.Null s t e = refl
same_optional (Json-F.Bool b) s t e = ap just e
same_optional (Json-F.Int n) s t e = ap just e
same_optional (Json-F.Text w) s t e = ap just e
same_optional (Json-F.List js) s t e = ap just e
same_optional (Json-F.Object ms) s t e = ap just e

-- ---- names that are looked up

found_mapped : (b : Bool) (m : Member) (o p : Option Json) → o ≡ option_map sorted_members p → cond b (Some (sorted_members m.value)) o ≡ option_map sorted_members (cond b (Some m.value) p)
found_mapped true m o p e = refl
found_mapped false m o p e = e

named_mapped : (ms : List Member) (name : List ℕ) → value_named (map sorted_member ms) name ≡ option_map sorted_members (value_named ms name)
named_mapped [] name = refl
named_mapped (m ∷ ms) name = found_mapped (bytes_eq m.name name) m (value_named (map sorted_member ms) name) (value_named ms name) (named_mapped ms name)

-- a name finds in the order of names what it finds
pub named_in_order : (ms : List Member) (name : List ℕ) → value_named (map sorted_member (sorted_by name_of ms)) name ≡ option_map sorted_members (value_named ms name)
named_in_order ms name =
    named_mapped (sorted_by name_of ms) name
    ∙ ap (option_map sorted_members)
    (value_of_first (sorted_by name_of ms) name ∙ ap (option_map (λ m. m.value)) (first_sorted name_of ms name) ∙ sym (value_of_first ms name))

-- what holds of the value of each member holds of the one that is found
pub found_holds : (P : Json → Type 0) (ms : List Member) (name : List ℕ) → AllByRecursion (λ m. P m.value) ms → MatchOption (value_named ms name) ⊤ P
found_holds P [] name all = tt
found_holds P (m ∷ ms) name all = by (bytes_eq m.name name) (found_holds P ms name all.1)
  where
    by : (b : Bool) → MatchOption (value_named ms name) ⊤ P → MatchOption (cond b (Some m.value) (value_named ms name)) ⊤ P
    by true later = all.0
    by false later = later

pub same_denied : (deny : Bool) (fs : List Field) (ms : List Member) → denied_name deny fs (map sorted_member (sorted_by name_of ms)) ≡ denied_name deny fs ms
same_denied false fs ms = refl
same_denied true fs ms = rw (same_names (sorted_by name_of ms)) (denied_sorted fs ms)

-- ---- how many members there are

length_inserted : (m : Member) (ms : List Member) → length (inserted_by name_of m ms) ≡ suc (length ms)
length_inserted m [] = refl
length_inserted m (n ∷ ms) = by (slice_cmp nat_cmp m.name n.name) (length_inserted m ms)
  where
    by : (o : Ordering) → length (inserted_by name_of m ms) ≡ suc (length ms) → length (at_place o m n ms (inserted_by name_of m ms)) ≡ suc (suc (length ms))
    by Less e = refl
    by Equal e = ap suc e
    by Greater e = ap suc e

length_after : (done ms : List Member) → length (fold (λ sorted m. inserted_by name_of m sorted) done ms) ≡ length ms + length done
length_after done [] = omega arith
length_after done (m ∷ ms) = omega (arith, length_after (inserted_by name_of m done) ms, length_inserted m done)

pub several : (m n : Member) (ms : List Member) → 2 ≤ length (map sorted_member (sorted_by name_of (m ∷ n ∷ ms)))
several m n ms = omega (arith, length-map (sorted_by name_of (m ∷ n ∷ ms)) sorted_member, length_after [] (m ∷ n ∷ ms))

-- ---- variants

pub external_several : (f : Json → Desc → Told) (vs : List Variant) (ms : List Member) → 2 ≤ length ms → external f vs (Json-F.Object ms) ≡ refused WrongKind
external_several f vs [] h = absurd (omega (arith, h))
external_several f vs (m ∷ []) h = absurd (omega (arith, h))
external_several f vs (m ∷ n ∷ ms) h = refl

pub same_found : {X : Type 0} (unlisted : Told) (f h : ℕ → X → Told) (o : Option (ℕ × X)) → ((found : ℕ × X) → o ≡ Some found → f found.0 found.1 ≡ h found.0 found.1) → where_found unlisted f o ≡ where_found unlisted h o
same_found unlisted f h None same = refl
same_found unlisted f h (Some found) same = same found refl

pub same_payload : (f h : Desc → Told) (i : ℕ) (v : Variant) → ((d : Desc) → v.payload ≡ Some d → f d ≡ h d) → with_payload f i v ≡ with_payload h i v
same_payload f h i v same = by v.payload refl
  where
    by : (o : Option Desc) → v.payload ≡ o → with_payload f i v ≡ with_payload h i v
    by None e = no_payload i v f e ∙ sym (no_payload i v h e)
    by (Some d) e = payload_told i v f d e ∙ ap (λ (t : Told). chosen i (below (Name v.name) t)) (same d e) ∙ sym (payload_told i v h d e)

module _ (tag : List ℕ) (vs : List TaggedVariant) (f h : ℕ → TaggedVariant → Told) (same : (i : ℕ) (v : TaggedVariant) → Contains vs v → f i v ≡ h i v) where
  no_text : (x : Json-F Json Member) → ((name : List ℕ) → x ≡ Json-F.Text name → ⊥) → (name : List ℕ) → level_in_order x ≡ Json-F.Text name → ⊥
  no_text Json-F.Null other name e = absurd (cc e)
  no_text (Json-F.Bool b) other name e = absurd (cc e)
  no_text (Json-F.Int n) other name e = absurd (cc e)
  no_text (Json-F.Text w) other name e = other w refl
  no_text (Json-F.List js) other name e = absurd (cc e)
  no_text (Json-F.Object ms) other name e = absurd (cc e)

  at_other : (j : Json) (x : Json-F Json Member) → out-Json j ≡ x → ((name : List ℕ) → x ≡ Json-F.Text name → ⊥) → at_tag tag f vs (sorted_members j) ≡ at_tag tag h vs j
  at_other j x e other = at_tag_other tag f vs (sorted_members j) (level_in_order x) (level_sorted j ∙ ap level_in_order e) (no_text x other) ∙ sym (at_tag_other tag h vs j x e other)

  at_same : (j : Json) (x : Json-F Json Member) → out-Json j ≡ x → at_tag tag f vs (sorted_members j) ≡ at_tag tag h vs j
  at_same j Json-F.Null e = at_other j Json-F.Null e (λ name q. absurd (cc q))
  at_same j (Json-F.Bool b) e = at_other j (Json-F.Bool b) e (λ name q. absurd (cc q))
  at_same j (Json-F.Int n) e = at_other j (Json-F.Int n) e (λ name q. absurd (cc q))
  at_same j (Json-F.Text name) e =
      at_tag_text tag f vs (sorted_members j) name (level_sorted j ∙ ap level_in_order e)
      ∙ same_found (below (Name tag) (refused NotListed)) f h (named_from tagged_name 0 vs name) (λ found is. same found.0 found.1 (found_inside tagged_name vs name found is))
      ∙ sym (at_tag_text tag h vs j name e)
  at_same j (Json-F.List js) e = at_other j (Json-F.List js) e (λ name q. absurd (cc q))
  at_same j (Json-F.Object ms) e = at_other j (Json-F.Object ms) e (λ name q. absurd (cc q))

  pub by_same : (o : Option Json) → by_tag tag (at_tag tag f vs) (option_map (λ j. j) (option_map sorted_members o)) ≡ by_tag tag (at_tag tag h vs) (option_map (λ j. j) o)
  by_same None = refl
  by_same (Some j) = at_same j (out-Json j) refl
