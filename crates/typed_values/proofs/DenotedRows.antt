-- Whatever tree is told passes the test of its descriptor, row by row.
use Rattle.std.proofs.Common.{◌≡◌, ℕ, suc, ◌+◌, ◌==◌, ℤ, Bool, true, false, ◌&&◌, List, [], ◌∷◌, length, map, Option, Some, None, refl, sym, ◌∙◌, ap, ap₂, subst, arith}
use Rattle.std.specs.List.{AllByRecursion}
use Rattle.std.specs.Prelude.{Contains, slice_get}
use Rattle.std.specs.declared.result.Result.{Result}
use Rattle.std.specs.declared.result.Result.TheVariants.{Ok, Err}
use Rattle.schema_values.specs.declared.json_value.Json.{Json, out-Json}
use Rattle.schema_values.specs.declared.json_value.Json.TheOpen.{Json-F}
use Rattle.schema_values.specs.declared.json_value.Member.{Member}
use Rattle.schema_values.specs.Sound.{IsSound, AreDistinct}
use Rattle.schema_values.proofs.CallerLemmas.{sound-decides, contains_first, contains_later, all_sorted}
use Rattle.descriptors.specs.declared.desc.Desc.{Desc, Null as NullDesc}
use Rattle.descriptors.specs.declared.desc.Field.{Field}
use Rattle.descriptors.specs.declared.desc.IntKind.{IntKind}
use Rattle.descriptors.specs.declared.desc.Named.{Named}
use Rattle.descriptors.specs.declared.desc.TaggedVariant.{TaggedVariant}
use Rattle.descriptors.specs.declared.desc.Variant.{Variant}
use Rattle.typed_values.specs.declared.fault.FaultKind.{FaultKind}
use Rattle.typed_values.specs.declared.fault.FaultKind.TheVariants.{OutOfRange, BadLength, NotListed}
use Rattle.typed_values.specs.declared.fault.Place.{Place}
use Rattle.typed_values.specs.declared.fault.Place.TheVariants.{Name}
use Rattle.descriptors.specs.declared.tree.Pair.{Pair}
use Rattle.descriptors.specs.declared.tree.Tree.{Tree, Unit as Nought, Bool as Truth, Int as Number, Text as Words, None as Nothing, Some as Just, List as Items, Map as Entries, Variant as Choice, Any as Whole, out-Tree}
use Rattle.descriptors.specs.declared.tree.Tree.TheOpen.{Tree-F}
use Rattle.descriptors.specs.declared.tree.Tree.TheVariants as tree
use Rattle.typed_values.specs.Bounds.{is_number_of, is_length_within}
use Rattle.descriptors.specs.Definitions.{listed_name, tagged_fields, tagged_name, variant_name}
use Rattle.typed_values.specs.Denotes.{Told, below, just, pair, as_pair, and_then, all_told, as_tree, if_holds, refused, nought, truth, character, number, words, named_from, where_found, bare, one_of_names, chosen, without_payload, with_payload, at_tag, by_tag, optional, items_told, member_name, entries_told, unless_denied, or_else, first_told}
use Rattle.typed_values.specs.Faults.{Trouble}
use Rattle.typed_values.specs.Fits.{whole_fits, nought_fits, truth_fits, character_fits, number_fits, words_fit, name_fits, option_fits, each_fits, items_fit, are_ascending, key_of, entries_fit, field_desc, fields_fit, alternative_at, if_there, choice_fits, payload_or_null, payload_of, struct_of}
use Rattle.typed_values.specs.Levels.{TreeOf}
use Rattle.schema_values.specs.Order.{sorted_by}
use Rattle.typed_values.proofs.Arms.{bare_told, not_bare, payload_told, no_payload, at_tag_text, at_tag_other}
use Rattle.typed_values.proofs.FitRows.{given_row, place_row}
use Rattle.typed_values.proofs.Listed.{place_below, found_there, found_inside}
use Rattle.typed_values.proofs.Ordered.{sorted_ascends, ascending_told}

-- whatever tree is told passes a test
abbrev pub Gives : Told → (Tree → Bool) → Type 0
Gives told passes = (t : Tree) → told ≡ Ok t → passes t ≡ true

both : (a b : Bool) → a ≡ true → b ≡ true → (a && b) ≡ true
both true b e f = f
both false b e f = absurd (cc e)

pub shown : (passes : TreeOf Tree → Bool) (t s : Tree) (x : TreeOf Tree) → s ≡ t → out-Tree s ≡ x → passes x ≡ true → passes (out-Tree t) ≡ true
shown passes t s x e o h = ap passes (ap out-Tree (sym e) ∙ o) ∙ h

-- ---- what stands inside a tree that is told

pub holds_gives : (b : Bool) (kind : FaultKind) (o : Told) (t : Tree) → if_holds b kind o ≡ Ok t → (b ≡ true) × (o ≡ Ok t)
holds_gives true kind o t e = (refl, e)
holds_gives false kind o t e = absurd (cc e)

pub below_gives : (place : Place) (o : Told) (t : Tree) → below place o ≡ Ok t → o ≡ Ok t
below_gives place (Ok s) t e = e
below_gives place (Err k) t e = absurd (cc e)

pub undenied : (name : Option (List ℕ)) (o : Told) (t : Tree) → unless_denied name o ≡ Ok t → o ≡ Ok t
undenied None o t e = e
undenied (Some name) (Ok s) t e = absurd (cc e)
undenied (Some name) (Err k) t e = absurd (cc e)

pub trees_of : {T : Type 0} (node : List T → Tree) (r : Result (List T) Trouble) (t : Tree) → as_tree node r ≡ Ok t → (ts : List T) × (r ≡ Ok ts) × (node ts ≡ t)
trees_of node (Ok ts) t e = (ts, refl, cc e)
trees_of node (Err k) t e = absurd (cc e)

first_and_rest : {T : Type 0} (o : Result T Trouble) (r : Result (List T) Trouble) (ts : List T) → and_then o r ≡ Ok ts → (s : T) × (ss : List T) × (o ≡ Ok s) × (r ≡ Ok ss) × (s ∷ ss ≡ ts)
first_and_rest (Ok s) (Ok ss) ts e = (s, ss, refl, refl, cc e)
first_and_rest (Ok s) (Err k) ts e = absurd (cc e)
first_and_rest (Err k) r ts e = absurd (cc e)

pair_of : (key : List ℕ) (o : Told) (p : Pair) → as_pair key (below (Name key) o) ≡ Ok p → (s : Tree) × (o ≡ Ok s) × (pair key s ≡ p)
pair_of key (Ok s) p e = (s, refl, cc e)
pair_of key (Err k) p e = absurd (cc e)

-- no tree is told where a fault is
refused_gives : (kind : FaultKind) (passes : Tree → Bool) → Gives (refused kind) passes
refused_gives kind passes t e = absurd (cc e)

-- ---- row by row

pub whole_gives : (j : Json) → IsSound j → Gives (Ok (Whole j)) (λ t. whole_fits (out-Tree t))
whole_gives j sound t e = shown whole_fits t (Whole j) (Tree-F.Any j) (cc e) (tree.outs-Any j) ((sound-decides j).1 sound)

pub nought_gives : (x : Json-F Json Member) → Gives (nought x) (λ t. nought_fits (out-Tree t))
nought_gives Json-F.Null t e = shown nought_fits t Nought Tree-F.Unit (cc e) tree.outs-Unit refl
nought_gives _ t e = absurd (cc e)

pub truth_gives : (x : Json-F Json Member) → Gives (truth x) (λ t. truth_fits (out-Tree t))
truth_gives (Json-F.Bool b) t e = shown truth_fits t (Truth b) (Tree-F.Bool b) (cc e) (tree.outs-Bool b) refl
truth_gives _ t e = absurd (cc e)

pub character_gives : (x : Json-F Json Member) → Gives (character x) (λ t. character_fits (out-Tree t))
character_gives (Json-F.Text s) t e =
    let (one, is) = holds_gives (length s == 1) BadLength (Ok (Words s)) t e in
    shown character_fits t (Words s) (Tree-F.Text s) (cc is) (tree.outs-Text s) one
character_gives _ t e = absurd (cc e)

pub number_gives : (kind : IntKind) (min max : Option ℤ) (x : Json-F Json Member) → Gives (number kind min max x) (λ t. number_fits kind min max (out-Tree t))
number_gives kind min max (Json-F.Int n) t e =
    let (within, is) = holds_gives (is_number_of kind min max n) OutOfRange (Ok (Number n)) t e in
    shown (number_fits kind min max) t (Number n) (Tree-F.Int n) (cc is) (tree.outs-Int n) within
number_gives kind min max _ t e = absurd (cc e)

pub words_give : (min max : Option ℕ) (x : Json-F Json Member) → Gives (words min max x) (λ t. words_fit min max (out-Tree t))
words_give min max (Json-F.Text s) t e =
    let (within, is) = holds_gives (is_length_within min max (length s)) BadLength (Ok (Words s)) t e in
    shown (words_fit min max) t (Words s) (Tree-F.Text s) (cc is) (tree.outs-Text s) within
words_give min max _ t e = absurd (cc e)

-- what is told of a thing that is found passes
found_gives : {X : Type 0} (unlisted : Told) (told : ℕ → X → Told) (passes : Tree → Bool) (o : Option (ℕ × X)) → Gives unlisted passes → ((found : ℕ × X) → o ≡ Some found → Gives (told found.0 found.1) passes)
    → Gives (where_found unlisted told o) passes
found_gives unlisted told passes None none some = none
found_gives unlisted told passes (Some found) none some = some found refl

pub name_gives : (is_nought : Tree → Bool) (ns : List Named) → is_nought Nought ≡ true → (x : Json-F Json Member) → Gives (one_of_names ns x) (λ t. name_fits is_nought ns (out-Tree t))
name_gives is_nought ns passes (Json-F.Text s) t e =
    found_gives (refused NotListed) bare (λ t. name_fits is_nought ns (out-Tree t)) (named_from listed_name 0 ns s) (refused_gives NotListed _)
    (λ found is u q. let same : u ≡ Choice found.0 Nought = cc q in place_row is_nought ns u found.0 Nought same (place_below listed_name ns s found is) ∙ passes) t e
name_gives is_nought ns passes _ t e = absurd (cc e)

pub just_gives : (passes : Tree → Bool) (o : Told) → Gives o passes → Gives (just o) (λ t. option_fits passes (out-Tree t))
just_gives passes (Ok s) gives t e = shown (option_fits passes) t (Just s) (Tree-F.Some s) (cc e) (tree.outs-Some s) (gives s refl)
just_gives passes (Err k) gives t e = absurd (cc e)

pub optional_gives : (passes : Tree → Bool) (x : Json-F Json Member) (o : Told) → Gives o passes → Gives (optional x o) (λ t. option_fits passes (out-Tree t))
optional_gives passes Json-F.Null o gives t e = shown (option_fits passes) t Nothing Tree-F.None (cc e) tree.outs-None refl
optional_gives passes _ o gives t e = just_gives passes o gives t e

each_gives : {X : Type 0} (passes : Tree → Bool) (f : ℕ → X → Told) (i : ℕ) (xs : List X) (ts : List Tree)
    → ((x : X) → Contains xs x → (k : ℕ) → Gives (f k x) passes) → all_told f i xs ≡ Ok ts → (length ts ≡ length xs) × (each_fits passes ts ≡ true)
each_gives passes f i [] ts gives e = subst (λ (us : List Tree). (length us ≡ 0) × (each_fits passes us ≡ true)) {x = []} (cc e) (refl, refl)
each_gives passes f i (x ∷ xs) ts gives e =
    let (s, ss, here, more, is) = first_and_rest (f i x) (all_told f (i + 1) xs) ts e in
    let rest = each_gives passes f (i + 1) xs ss (λ y c. gives y (contains_later x xs y c)) more in
    subst (λ (us : List Tree). (length us ≡ suc (length xs)) × (each_fits passes us ≡ true)) is
    (ap suc rest.0, both (passes s) (each_fits passes ss) (gives x (contains_first x xs) i s here) rest.1)

pub items_give : {X : Type 0} (passes : Tree → Bool) (f : ℕ → X → Told) (min max : Option ℕ) (xs : List X)
    → ((x : X) → Contains xs x → (k : ℕ) → Gives (f k x) passes) → Gives (items_told f min max xs) (λ t. items_fit passes min max (out-Tree t))
items_give passes f min max xs gives t e =
    let (within, told) = holds_gives (is_length_within min max (length xs)) BadLength (as_tree Items (all_told f 0 xs)) t e in
    let (ts, all, is) = trees_of Items (all_told f 0 xs) t told in
    let each = each_gives passes f 0 xs ts gives all in
    shown (items_fit passes min max) t (Items ts) (Tree-F.List ts) is (tree.outs-List ts) (both _ _ (ap (is_length_within min max) each.0 ∙ within) each.1)

pairs_give : (passes : Tree → Bool) (told : Json → Told) (i : ℕ) (ms : List Member) (ps : List Pair)
    → AllByRecursion (λ m. Gives (told m.value) passes) ms → all_told (λ i m. as_pair m.name (below (Name m.name) (told m.value))) i ms ≡ Ok ps
    → (map key_of ps ≡ map member_name ms) × (each_fits (λ p. passes p.value) ps ≡ true)
pairs_give passes told i [] ps gives e = subst (λ (qs : List Pair). (map key_of qs ≡ []) × (each_fits (λ p. passes p.value) qs ≡ true)) {x = []} (cc e) (refl, refl)
pairs_give passes told i (m ∷ ms) ps gives e =
    let (p, qs, here, more, is) = first_and_rest (as_pair m.name (below (Name m.name) (told m.value))) (all_told (λ i m. as_pair m.name (below (Name m.name) (told m.value))) (i + 1) ms) ps e in
    let (s, denotes, same) = pair_of m.name (told m.value) p here in
    let rest = pairs_give passes told (i + 1) ms qs gives.1 more in
    subst (λ (rs : List Pair). (map key_of rs ≡ m.name ∷ map member_name ms) × (each_fits (λ p. passes p.value) rs ≡ true)) is (
      ap₂ (λ (key : List ℕ) (keys : List (List ℕ)). key ∷ keys) (ap key_of (sym same)) rest.0,
      both (passes p.value) (each_fits (λ p. passes p.value) qs) (subst (λ (q : Pair). passes q.value ≡ true) same (gives.0 s denotes)) rest.1,
    )

pub entries_give : (passes : Tree → Bool) (told : Json → Told) (ms : List Member) → AreDistinct (map member_name ms) → AllByRecursion (λ m. Gives (told m.value) passes) ms
    → Gives (entries_told told ms) (λ t. entries_fit passes (out-Tree t))
entries_give passes told ms distinct gives t e =
    let sorted = sorted_by member_name ms in
    let (ps, all, is) = trees_of Entries (all_told (λ i m. as_pair m.name (below (Name m.name) (told m.value))) 0 sorted) t e in
    let each = pairs_give passes told 0 sorted ps (all_sorted (λ m. Gives (told m.value) passes) member_name ms gives) all in
    let ascend : are_ascending (map key_of ps) ≡ true = ap are_ascending each.0 ∙ ascending_told (map member_name sorted) (sorted_ascends member_name ms distinct) in
    shown (entries_fit passes) t (Entries ps) (Tree-F.Map ps) is (tree.outs-Map ps) (both _ _ ascend each.1)

pub fields_give : (fits : Tree → Desc → Bool) (f : ℕ → Field → Told) (i : ℕ) (fs : List Field) (ts : List Tree)
    → ((x : Field) → Contains fs x → (k : ℕ) → Gives (f k x) (λ t. fits t (field_desc x))) → all_told f i fs ≡ Ok ts → fields_fit fits fs ts ≡ true
fields_give fits f i [] ts gives e = subst (λ (us : List Tree). fields_fit fits [] us ≡ true) {x = []} (cc e) refl
fields_give fits f i (x ∷ fs) ts gives e =
    let (s, ss, here, more, is) = first_and_rest (f i x) (all_told f (i + 1) fs) ts e in
    subst (λ (us : List Tree). fields_fit fits (x ∷ fs) us ≡ true) is
    (both (fits s (field_desc x)) (fields_fit fits fs ss) (gives x (contains_first x fs) i s here) (fields_give fits f (i + 1) fs ss (λ y c. gives y (contains_later x fs y c)) more))

-- the alternative under which a choice was told
record IsChoice (f : Desc → Told) (i : ℕ) (ds : List Desc) (t : Tree) : Type 0 where
  place : ℕ
  alternative : Desc
  inner : Tree
  is : Choice (i + place) inner ≡ t
  there : alternative_at ds place ≡ Some alternative
  inside : Contains ds alternative
  denotes : f alternative ≡ Ok inner

choice_by : (f : Desc → Told) (i : ℕ) (d : Desc) (ds : List Desc) (o : Told) (t : Tree) → f d ≡ o → (first_told (i + 1) f ds ≡ Ok t → IsChoice f (i + 1) ds t) → or_else i o (first_told (i + 1) f ds) ≡ Ok t → IsChoice f i (d ∷ ds) t
choice_by f i d ds (Ok s) t is later e =
    let same : Choice i s ≡ t = cc e in
    let none : i + 0 ≡ i = omega arith in
    record { place = 0; alternative = d; inner = s; is = ap (λ (k : ℕ). Choice k s) none ∙ same; there = refl; inside = contains_first d ds; denotes = is }
choice_by f i d ds (Err k) t is later e =
    let h = later e in
    let further : i + suc h.place ≡ (i + 1) + h.place = omega arith in
    record {
      place = suc h.place;
      alternative = h.alternative;
      inner = h.inner;
      is = ap (λ (k : ℕ). Choice k h.inner) further ∙ h.is;
      there = h.there;
      inside = contains_later d ds h.alternative h.inside;
      denotes = h.denotes;
    }

choice_of : (f : Desc → Told) (i : ℕ) (ds : List Desc) (t : Tree) → first_told i f ds ≡ Ok t → IsChoice f i ds t
choice_of f i [] t e = absurd (cc e)
choice_of f i (d ∷ ds) t e = choice_by f i d ds (f d) t refl (choice_of f (i + 1) ds t) e

pub choice_gives : (fits : Tree → Desc → Bool) (f : Desc → Told) (ds : List Desc) → ((d : Desc) → Contains ds d → Gives (f d) (λ t. fits t d)) → Gives (first_told 0 f ds) (λ t. choice_fits fits ds (out-Tree t))
choice_gives fits f ds gives t e =
    let h = choice_of f 0 ds t e in
    let start : 0 + h.place ≡ h.place = omega arith in
    let is : Choice h.place h.inner ≡ t = ap (λ (k : ℕ). Choice k h.inner) (sym start) ∙ h.is in
    shown (choice_fits fits ds) t (Choice h.place h.inner) (Tree-F.Variant h.place h.inner) is (tree.outs-Variant h.place h.inner)
    (ap (if_there (fits h.inner)) h.there ∙ gives h.alternative h.inside h.inner h.denotes)

-- the tree of an alternative at its place
place_gives : {A : Type 0} (fits : Tree → Desc → Bool) (desc_of : A → Desc) (vs : List A) (t : Tree) (k : ℕ) (x : Tree) (a : A) → t ≡ Choice k x → slice_get vs k ≡ Some a → fits x (desc_of a) ≡ true
    → choice_fits fits (map desc_of vs) (out-Tree t) ≡ true
place_gives fits desc_of vs t k x a is there passes = given_row fits desc_of vs t k x (Some a) is there ∙ passes

chosen_by : (i : ℕ) (o : Told) (t : Tree) → chosen i o ≡ Ok t → (s : Tree) × (o ≡ Ok s) × (Choice i s ≡ t)
chosen_by i (Ok s) t e = (s, refl, cc e)
chosen_by i (Err k) t e = absurd (cc e)

module _ (fits : Tree → Desc → Bool) (vs : List Variant) where
  abbrev TakenBy : Tree → Bool
  TakenBy t = choice_fits fits (map payload_of vs) (out-Tree t)

  bare_by : (k : ℕ) (v : Variant) → slice_get vs k ≡ Some v → fits Nought NullDesc ≡ true → (o : Option Desc) → v.payload ≡ o → Gives (without_payload k v) TakenBy
  bare_by k v there passes None e t q =
      let told : without_payload k v ≡ Ok (Choice k Nought) = bare_told k v e in
      let is : t ≡ Choice k Nought = cc in
      place_gives fits payload_of vs t k Nought v is there (ap (λ (o : Option Desc). fits Nought (payload_or_null o)) e ∙ passes)
  bare_by k v there passes (Some d) e t q = refused_gives NotListed TakenBy t (sym (not_bare k v d e) ∙ q)

  payload_by : (told : Desc → Told) (k : ℕ) (v : Variant) → slice_get vs k ≡ Some v → (o : Option Desc) → v.payload ≡ o → ((d : Desc) → v.payload ≡ Some d → Gives (told d) (λ s. fits s d)) → Gives (with_payload told k v) TakenBy
  payload_by told k v there None e gives t q = refused_gives NotListed TakenBy t (sym (no_payload k v told e) ∙ q)
  payload_by told k v there (Some d) e gives t q =
      let (s, inner, is) = chosen_by k (below (Name v.name) (told d)) t (sym (payload_told k v told d e) ∙ q) in
      place_gives fits payload_of vs t k s v (sym is) there (ap (λ (o : Option Desc). fits s (payload_or_null o)) e ∙ gives d e s (below_gives (Name v.name) (told d) s inner))

  -- the name of a variant alone
  pub bare_gives : fits Nought NullDesc ≡ true → (name : List ℕ) → Gives (where_found (refused NotListed) without_payload (named_from variant_name 0 vs name)) TakenBy
  bare_gives passes name =
      found_gives (refused NotListed) without_payload TakenBy (named_from variant_name 0 vs name) (refused_gives NotListed TakenBy)
      (λ found is. bare_by found.0 found.1 (found_there variant_name vs name found is) passes found.1.payload refl)

  -- a payload under the name of its variant
  pub payload_gives : (told : Desc → Told) → ((v : Variant) → Contains vs v → (d : Desc) → v.payload ≡ Some d → Gives (told d) (λ s. fits s d)) → (name : List ℕ)
      → Gives (where_found (refused NotListed) (with_payload told) (named_from variant_name 0 vs name)) TakenBy
  payload_gives told gives name =
      found_gives (refused NotListed) (with_payload told) TakenBy (named_from variant_name 0 vs name) (refused_gives NotListed TakenBy)
      (λ found is. payload_by told found.0 found.1 (found_there variant_name vs name found is) found.1.payload refl (gives found.1 (found_inside variant_name vs name found is)))

module _ (fits : Tree → Desc → Bool) (tag : List ℕ) (vs : List TaggedVariant) (struct : List Field → Told) (gives : (v : TaggedVariant) → Contains vs v → Gives (struct (tagged_fields v)) (λ s. fits s (struct_of v))) where
  abbrev Chosen : Tree → Bool
  Chosen t = choice_fits fits (map struct_of vs) (out-Tree t)

  -- what is told at the place of a variant
  abbrev at_variant : ℕ → TaggedVariant → Told
  at_variant i v = chosen i (struct (tagged_fields v))

  variant_by : (k : ℕ) (v : TaggedVariant) → slice_get vs k ≡ Some v → Contains vs v → Gives (at_variant k v) Chosen
  variant_by k v there inside t q =
      let (s, inner, is) = chosen_by k (struct (tagged_fields v)) t q in
      place_gives fits struct_of vs t k s v (sym is) there (gives v inside s inner)

  listed_gives : (name : List ℕ) → Gives (where_found (below (Name tag) (refused NotListed)) at_variant (named_from tagged_name 0 vs name)) Chosen
  listed_gives name =
      found_gives (below (Name tag) (refused NotListed)) at_variant Chosen (named_from tagged_name 0 vs name) (λ t e. absurd (cc e))
      (λ found is. variant_by found.0 found.1 (found_there tagged_name vs name found is) (found_inside tagged_name vs name found is))

  no_text_gives : (j : Json) (x : Json-F Json Member) → out-Json j ≡ x → ((name : List ℕ) → x ≡ Json-F.Text name → ⊥) → Gives (at_tag tag at_variant vs j) Chosen
  no_text_gives j x e other t q = let told = at_tag_other tag at_variant vs j x e other in absurd (cc (told, q))

  tag_by : (j : Json) (x : Json-F Json Member) → out-Json j ≡ x → Gives (at_tag tag at_variant vs j) Chosen
  tag_by j (Json-F.Text name) e t q = listed_gives name t (sym (at_tag_text tag at_variant vs j name e) ∙ q)
  tag_by j x e t q = no_text_gives j x e (λ name is. cc is) t q

  -- the fields of the variant that a tag names
  pub tagged_gives : (o : Option Json) → Gives (by_tag tag (at_tag tag at_variant vs) o) Chosen
  tagged_gives None t e = absurd (cc e)
  tagged_gives (Some j) t e = tag_by j (out-Json j) refl t e
