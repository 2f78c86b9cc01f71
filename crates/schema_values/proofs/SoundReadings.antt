-- What bytes read as is sound: numbers are whole, and the members of each object have distinct names.
use Rattle.std.proofs.Common.{◌≡◌, ℕ, List, [], ◌∷◌, map, Some, option_map, chars, IsUtf8, refl, sym, ap, ◌∙◌, subst, Ordering, Less, Equal, Greater}
use Rattle.std.specs.Prelude.{⊤}
use Rattle.std.specs.Cmp.Lexicographic.{slice_cmp}
use Rattle.std.specs.List.{AllByRecursion}
use Rattle.std.specs.List.Sorted.{IsStrictlySortedBy}
use Rattle.std.specs.Ordering.{nat_cmp, match_ordering, ordering_reverse}
use Rattle.std.proofs.lemmas.Cmp.{nat_list_cmp_total}
use Rattle.json.specs.Json as tree
use Rattle.json.specs.Lex.{tokens}
use Rattle.json.specs.Token.{Token}
use Rattle.serde_json.specs.Data as read
use Rattle.serde_json.specs.Data.{put}
use Rattle.serde_json.specs.Read.{number_of, of_json, of_items, of_members, max_depth}
use Rattle.schema_values.specs.declared.json_value.Json.{Json, Null, Bool as Truth, Int, Text, List as ListOf, Object}
use Rattle.schema_values.specs.declared.json_value.Member.{Member}
use Rattle.schema_values.specs.Member.{name_of}
use Rattle.schema_values.specs.Reading.{whole_of, json_of, items_of, members_of, Reads}
use Rattle.schema_values.specs.Sound.{IsSound, AreDistinct}
use Rattle.schema_values.specs.SoundMembers.{HasSoundValue}
use Rattle.schema_values.proofs.DistinctLemmas.{Below, AreDistinct-sorted, below_all}
use Rattle.schema_values.proofs.Options.{mapped, chained}
use Rattle.schema_values.proofs.ReadNumbers.{IsReadNumber, number_read, whole_read}
use Rattle.schema_values.proofs.ReadTokens.{HasTextKeys, ItemsHaveTextKeys, MembersHaveTextKeys, read_keys}
use Rattle.schema_values.proofs.SoundLemmas.{IsSound-List, IsSound-Object}
use Rattle.schema_values.proofs.Utf8Order.{cmp-chars}

-- ---- members in ascending order of their keys, which are UTF-8

abbrev pub keys : read.Members → List (List ℕ)
keys read.no_members = []
keys (read.member k d ms) = k ∷ keys ms

abbrev mutual
  pub IsRead : read.Data → Type 0
  IsRead read.null = ⊤
  IsRead (read.boolean b) = ⊤
  IsRead (read.number n) = IsReadNumber n
  IsRead (read.string s) = ⊤
  IsRead (read.array ds) = AreRead ds
  IsRead (read.object ms) = MembersAreRead ms

  pub AreRead : read.Items → Type 0
  AreRead read.no_items = ⊤
  AreRead (read.item d ds) = IsRead d × AreRead ds

  pub MembersAreRead : read.Members → Type 0
  MembersAreRead read.no_members = ⊤
  MembersAreRead (read.member k d ms) = IsUtf8 k × IsRead d × AllByRecursion (Below k) (keys ms) × MembersAreRead ms

below_by : (l k n : List ℕ) (d e : read.Data) (ms more : read.Members) (o : Ordering) → Below l k → AllByRecursion (Below l) (n ∷ keys ms) → AllByRecursion (Below l) (keys more)
    → AllByRecursion (Below l) (keys (match_ordering o (read.member k d (read.member n e ms)) (read.member n d ms) (read.member n e more)))
below_by l k n d e ms more Less b h later = (b, h)
below_by l k n d e ms more Equal b h later = h
below_by l k n d e ms more Greater b h later = (h.0, later)

below_put : (l k : List ℕ) (d : read.Data) (ms : read.Members) → Below l k → AllByRecursion (Below l) (keys ms) → AllByRecursion (Below l) (keys (put k d ms))
below_put l k d read.no_members b h = (b, tt)
below_put l k d (read.member n e ms) b h = below_by l k n d e ms (put k d ms) (slice_cmp nat_cmp k n) b h (below_put l k d ms b h.1)

put_by : (k n : List ℕ) (d e : read.Data) (ms : read.Members) (o : Ordering) → slice_cmp nat_cmp k n ≡ o → IsUtf8 k → IsRead d → MembersAreRead (read.member n e ms) → MembersAreRead (put k d ms)
    → MembersAreRead (match_ordering o (read.member k d (read.member n e ms)) (read.member n d ms) (read.member n e (put k d ms)))
put_by k n d e ms Less o u r h later = (u, r, (o, below_all k n (keys ms) o h.2), h)
put_by k n d e ms Equal o u r h later = (h.0, r, h.2, h.3)
put_by k n d e ms Greater o u r h later = (h.0, h.1, below_put n k d ms (nat_list_cmp_total.antisymm n k ∙ ap ordering_reverse o) h.2, later)

put_read : (k : List ℕ) (d : read.Data) (ms : read.Members) → IsUtf8 k → IsRead d → MembersAreRead ms → MembersAreRead (put k d ms)
put_read k d read.no_members u r h = (u, r, tt, tt)
put_read k d (read.member n e ms) u r h = put_by k n d e ms (slice_cmp nat_cmp k n) refl u r h (put_read k d ms u r h.3)

mutual
  data_read : (j : tree.Json) → HasTextKeys j → (d : read.Data) → of_json j ≡ Some d → IsRead d
  data_read tree.null h d e = let same : read.null ≡ d = cc e in subst IsRead same tt
  data_read (tree.boolean b) h d e = let same : read.boolean b ≡ d = cc e in subst IsRead same tt
  data_read (tree.number s) h d e = let r = mapped read.number (number_of s) d e in subst IsRead r.2 (number_read s r.0 r.1)
  data_read (tree.string s) h d e = let same : read.string s ≡ d = cc e in subst IsRead same tt
  data_read (tree.array js) h d e = let r = mapped read.array (of_items js) d e in subst IsRead r.2 (items_read js h r.0 r.1)
  data_read (tree.object ms) h d e = let r = mapped read.object (of_members ms read.no_members) d e in subst IsRead r.2 (members_read ms h read.no_members tt r.0 r.1)

  items_read : (js : tree.Items) → ItemsHaveTextKeys js → (ds : read.Items) → of_items js ≡ Some ds → AreRead ds
  items_read tree.no_items h ds e = let same : read.no_items ≡ ds = cc e in subst AreRead same tt
  items_read (tree.item j js) h ds e =
      let first = chained (λ d. option_map (read.item d) (of_items js)) (of_json j) ds e in
      let rest = mapped (read.item first.0) (of_items js) ds first.2 in
      subst AreRead rest.2 (data_read j h.0 first.0 first.1, items_read js h.1 rest.0 rest.1)

  members_read : (ms : tree.Members) → MembersHaveTextKeys ms → (found : read.Members) → MembersAreRead found → (all : read.Members) → of_members ms found ≡ Some all → MembersAreRead all
  members_read tree.no_members h found r all e = let same : found ≡ all = cc e in subst MembersAreRead same r
  members_read (tree.member k j ms) h found r all e =
      let first = chained (λ d. of_members ms (put k d found)) (of_json j) all e in
      members_read ms h.2 (put k first.0 found) (put_read k first.0 found h.0 (data_read j h.1 first.0 first.1) r) all first.2

-- ---- the names of the keys

names_below : (k : List ℕ) (ms : read.Members) → IsUtf8 k → MembersAreRead ms → AllByRecursion (Below k) (keys ms) → AllByRecursion (Below (chars k)) (map chars (keys ms))
names_below k read.no_members u h b = tt
names_below k (read.member l d ms) u h b = (cmp-chars k l u h.0 ∙ b.0, names_below k ms u h.3 b.1)

pub names_ascend : (ms : read.Members) → MembersAreRead ms → IsStrictlySortedBy (slice_cmp nat_cmp) (map chars (keys ms))
unfolding IsStrictlySortedBy
names_ascend read.no_members h = tt
names_ascend (read.member k d ms) h = (names_below k ms h.0 h.3 h.2, names_ascend ms h.3)

-- ---- the JSON of what is read

mutual
  json_sound : (d : read.Data) → IsRead d → (j : Json) → json_of d ≡ Some j → IsSound j
  json_sound read.null h j e = let same : Null ≡ j = cc e in subst IsSound same tt
  json_sound (read.boolean b) h j e = let same : Truth b ≡ j = cc e in subst IsSound same tt
  json_sound (read.number n) h j e = let r = mapped Int (whole_of n) j e in subst IsSound r.2 (whole_read n r.0 h r.1)
  json_sound (read.string s) h j e = let same : Text (chars s) ≡ j = cc e in subst IsSound same tt
  json_sound (read.array ds) h j e = let r = mapped ListOf (items_of ds) j e in subst IsSound r.2 ((IsSound-List r.0).1 (items_sound ds h r.0 r.1))
  json_sound (read.object ms) h j e =
      let r = mapped Object (members_of ms) j e in
      let members = members_sound ms h r.0 r.1 in
      subst IsSound r.2 ((IsSound-Object r.0).1 (members.0, subst AreDistinct (sym members.1) (AreDistinct-sorted _ (names_ascend ms h))))

  items_sound : (ds : read.Items) → AreRead ds → (js : List Json) → items_of ds ≡ Some js → AllByRecursion IsSound js
  items_sound read.no_items h js e = let same : [] ≡ js = cc e in subst (AllByRecursion IsSound) same tt
  items_sound (read.item d ds) h js e =
      let first = chained (λ j. option_map (λ js. j ∷ js) (items_of ds)) (json_of d) js e in
      let rest = mapped (λ js. first.0 ∷ js) (items_of ds) js first.2 in
      subst (AllByRecursion IsSound) rest.2 (json_sound d h.0 first.0 first.1, items_sound ds h.1 rest.0 rest.1)

  pub members_sound : (ms : read.Members) → MembersAreRead ms → (js : List Member) → members_of ms ≡ Some js → AllByRecursion HasSoundValue js × (map name_of js ≡ map chars (keys ms))
  members_sound read.no_members h js e = let same : [] ≡ js = cc e in subst (λ (l : List Member). AllByRecursion HasSoundValue l × (map name_of l ≡ [])) same (tt, refl)
  members_sound (read.member k d ms) h js e =
      let first = chained (λ j. option_map (λ ms. record { name = chars k; value = j } ∷ ms) (members_of ms)) (json_of d) js e in
      let rest = mapped (λ ms. record { name = chars k; value = first.0 } ∷ ms) (members_of ms) js first.2 in
      let later = members_sound ms h.3 rest.0 rest.1 in
      subst (λ (l : List Member). AllByRecursion HasSoundValue l × (map name_of l ≡ chars k ∷ map chars (keys ms))) rest.2
      ((json_sound d h.1 first.0 first.1, later.0), ap (λ (names : List (List ℕ)). chars k ∷ names) later.1)

last_is : (i : tree.Json) (rest : List Token) (j : tree.Json) → tree.if_last i rest ≡ Some j → i ≡ j
last_is i [] j e = cc e
last_is i (t ∷ rest) j e = absurd (cc e)

-- the data that was read, with its keys in order
pub data_of_reading : (bytes : List ℕ) (json : Json) → Reads bytes json → (d : read.Data) × IsRead d × (json_of d ≡ Some json)
data_of_reading bytes json reads =
    let given = chained json_of _ json reads.1 in
    let built = chained of_json _ given.0 given.1 in
    let parsed = chained (λ p. tree.if_last p.0 p.1) (tree.value max_depth (tokens bytes)) built.0 built.1 in
    let keys = read_keys bytes max_depth parsed.0.0 parsed.0.1 reads.0 parsed.1 in
    let is = last_is parsed.0.0 parsed.0.1 built.0 parsed.2 in
    (given.0, data_read built.0 (subst HasTextKeys is keys) given.0 built.2, given.2)

pub reading_sound : (bytes : List ℕ) (json : Json) → Reads bytes json → IsSound json
reading_sound bytes json reads = let given = data_of_reading bytes json reads in json_sound given.0 given.1 json given.2
