-- What bytes read as has its members in ascending order.
use Rattle.std.proofs.Common.{◌≡◌, ℕ, List, [], ◌∷◌, Some, option_map, chars, sym, subst}
use Rattle.std.specs.Cmp.Lexicographic.{slice_cmp}
use Rattle.std.specs.List.{AllByRecursion}
use Rattle.std.specs.List.Sorted.{IsStrictlySortedBy}
use Rattle.std.specs.Ordering.{nat_cmp}
use Rattle.serde_json.specs.Data as read
use Rattle.schema_values.specs.declared.json_value.Json.{Json, Null, Bool as Truth, Int, Text, List as ListOf, Object}
use Rattle.schema_values.specs.declared.json_value.Member.{Member}
use Rattle.schema_values.specs.Ascending.{IsAscending}
use Rattle.schema_values.specs.AscendingMembers.{HasAscendingValue}
use Rattle.schema_values.specs.Reading.{whole_of, json_of, items_of, members_of, Reads}
use Rattle.schema_values.proofs.AscendingLemmas.{IsAscending-List, IsAscending-Object}
use Rattle.schema_values.proofs.Options.{mapped, chained}
use Rattle.schema_values.proofs.SoundReadings.{IsRead, AreRead, MembersAreRead, names_ascend, members_sound, data_of_reading}

mutual
  json_ascends : (d : read.Data) → IsRead d → (j : Json) → json_of d ≡ Some j → IsAscending j
  json_ascends read.null h j e = let same : Null ≡ j = cc e in subst IsAscending same tt
  json_ascends (read.boolean b) h j e = let same : Truth b ≡ j = cc e in subst IsAscending same tt
  json_ascends (read.number n) h j e = let r = mapped Int (whole_of n) j e in subst IsAscending r.2 tt
  json_ascends (read.string s) h j e = let same : Text (chars s) ≡ j = cc e in subst IsAscending same tt
  json_ascends (read.array ds) h j e =
      let r = mapped ListOf (items_of ds) j e in
      subst IsAscending r.2 (IsAscending-List r.0 (items_ascend ds h r.0 r.1))
  json_ascends (read.object ms) h j e =
      let r = mapped Object (members_of ms) j e in
      let named = (members_sound ms h r.0 r.1).1 in
      subst IsAscending r.2 (IsAscending-Object r.0 (members_ascend ms h r.0 r.1, subst (IsStrictlySortedBy (slice_cmp nat_cmp)) (sym named) (names_ascend ms h)))

  items_ascend : (ds : read.Items) → AreRead ds → (js : List Json) → items_of ds ≡ Some js → AllByRecursion IsAscending js
  items_ascend read.no_items h js e = let same : [] ≡ js = cc e in subst (AllByRecursion IsAscending) same tt
  items_ascend (read.item d ds) h js e =
      let first = chained (λ j. option_map (λ js. j ∷ js) (items_of ds)) (json_of d) js e in
      let rest = mapped (λ js. first.0 ∷ js) (items_of ds) js first.2 in
      subst (AllByRecursion IsAscending) rest.2 (json_ascends d h.0 first.0 first.1, items_ascend ds h.1 rest.0 rest.1)

  members_ascend : (ms : read.Members) → MembersAreRead ms → (js : List Member) → members_of ms ≡ Some js → AllByRecursion HasAscendingValue js
  members_ascend read.no_members h js e = let same : [] ≡ js = cc e in subst (AllByRecursion HasAscendingValue) same tt
  members_ascend (read.member k d ms) h js e =
      let first = chained (λ j. option_map (λ ms. record { name = chars k; value = j } ∷ ms) (members_of ms)) (json_of d) js e in
      let rest = mapped (λ ms. record { name = chars k; value = first.0 } ∷ ms) (members_of ms) js first.2 in
      subst (AllByRecursion HasAscendingValue) rest.2 (json_ascends d h.1 first.0 first.1, members_ascend ms h.3 rest.0 rest.1)

pub reading_ascends : (bytes : List ℕ) (json : Json) → Reads bytes json → IsAscending json
reading_ascends bytes json reads = let given = data_of_reading bytes json reads in json_ascends given.0 given.1 json given.2
