-- What the schemas of enumerations admit: a text that is one of the names, which exactly one of their choices has.
use Rattle.std.proofs.Common.{◌≡◌, ℕ, ◌+◌, Bool, true, false, ◌&&◌, ◌||◌, not, List, [], ◌∷◌, ◌++◌, map, filter, Option, Some, is_ok, count_by, bytes_eq, cond, codes, refl, sym, ◌∙◌, ap, arith}
use Rattle.std.proofs.Math.Bool.{and-false, and-true}
use Rattle.std.proofs.lemmas.Bool.Decides.{same_from_decides}
use Rattle.std.proofs.lemmas.List.Sums.{sum_by-append, sum_by-cons}
use Rattle.std.proofs.lemmas.Slice.Eq.{bytes_eq-Decides}
use Rattle.std.specs.List.{list_any}
use Rattle.schema_values.specs.declared.json_value.Json.{Json, out-Json, Text as Words, List as Items, Object}
use Rattle.schema_values.specs.declared.json_value.Json.TheOpen.{Json-F}
use Rattle.schema_values.specs.declared.json_value.Json.TheVariants as json
use Rattle.schema_values.specs.declared.json_value.Json.TheViews.{roll-Json, roll-out-Json}
use Rattle.schema_values.specs.Same.{same_json}
use Rattle.schema_values.specs.Sound.{AreDistinct}
use Rattle.openapi_values.specs.Keywords.{is_annotation, bound_or, part_of}
use Rattle.openapi_values.specs.Levels.{Level, is_null, as_list, has_type}
use Rattle.openapi_values.specs.Lookup.{is_of_type, is_null_alone, is_null_form}
use Rattle.openapi_values.specs.Options.{is_some_and}
use Rattle.openapi_values.specs.Rows.{is_listed}
use Rattle.openapi_values.specs.JsonAdmits.{schema_admits}
use Rattle.descriptors.specs.declared.desc.Named.{Named}
use Rattle.descriptors.specs.Definitions.{listed_name}
use Rattle.typed_values.specs.declared.fault.FaultKind.TheVariants.{NotListed}
use Rattle.typed_values.specs.Denotes.{refused, named_from, where_found, bare, one_of_names}
use Rattle.typed_values.specs.SchemaTable.{Remarks, annotations, plain, enumerated, is_described, described_choice, plain_choice, choices_of, drawn_json}
use Rattle.written_schemas.proofs.Counted.{none_of, count, no_other, counted_map}
use Rattle.written_schemas.proofs.Notes.{noted_admits}
use Rattle.written_schemas.proofs.Scalars.{type_row, never_admits}

-- a value is the text of a name
abbrev pub is_named : {X : Type 0} → Level X → List ℕ → Bool
is_named (Json-F.Text w) name = bytes_eq w name
is_named _ name = false

pub named_once : {X : Type 0} (j : Level X) (a b : List ℕ) → is_named j a ≡ true → is_named j b ≡ true → a ≡ b
named_once Json-F.Null a b e f = absurd (cc e)
named_once (Json-F.Bool t) a b e f = absurd (cc e)
named_once (Json-F.Int i) a b e f = absurd (cc e)
named_once (Json-F.Text w) a b e f = sym ((bytes_eq-Decides w a).0 e) ∙ (bytes_eq-Decides w b).0 f
named_once (Json-F.List js) a b e f = absurd (cc e)
named_once (Json-F.Object ms) a b e f = absurd (cc e)

-- ---- one list of names

pub enumerated_is : (names : List (List ℕ)) → enumerated names ≡ plain (enumerated names).members
enumerated_is [] = refl
enumerated_is (name ∷ names) = refl

no_nulls : (name : List ℕ) (names : List (List ℕ)) → is_null_alone (map Words (name ∷ names)) ≡ false
no_nulls name [] = ap is_null (json.outs-Text name)
no_nulls name (other ∷ names) = refl

no_form : (name : List ℕ) (names : List (List ℕ)) → is_null_form (enumerated (name ∷ names)).members ≡ false
no_form name names =
    let members = (enumerated (name ∷ names)).members in
    ap (λ (x : Level Json). is_of_type (codes "string") members && is_some_and (as_list x) is_null_alone) (json.outs-List (map Words (name ∷ names)))
    ∙ ap (λ (b : Bool). is_of_type (codes "string") members && b) (no_nulls name names)
    ∙ and-false (is_of_type (codes "string") members)

texts_listed : (w : List ℕ) (names : List (List ℕ)) → list_any (same_json (Words w)) (map Words names) ≡ list_any (bytes_eq w) names
texts_listed w [] = refl
texts_listed w (name ∷ names) = ap (λ (b : Bool). bytes_eq w name || b) (texts_listed w names)

text_listed : (value : Json) (w : List ℕ) (names : List (List ℕ)) → out-Json value ≡ Json-F.Text w → is_listed value (Items (map Words names)) ≡ list_any (bytes_eq w) names
text_listed value w names e =
    ap (λ (x : Level Json). is_some_and (as_list x) (list_any (same_json value))) (json.outs-List (map Words names))
    ∙ ap (λ (v : Json). list_any (same_json v) (map Words names)) (sym (roll-out-Json value) ∙ ap roll-Json e ∙ json.rolls-Text w)
    ∙ texts_listed w names

module _ (doc : Json) (smaller : Json → Json → Bool) (next : Json → Bool) (value : Json) (n : Bool) (t : Option (List ℕ)) (r : Remarks) where
  -- without names nothing is admitted
  pub names_admit : (names : List (List ℕ)) → schema_admits doc smaller next value (out-Json value) (Object (annotations n t r ++ (enumerated names).members)) ≡ (n && is_null (out-Json value) || list_any (is_named (out-Json value)) names)
  unfolding is_annotation bound_or part_of
  names_admit [] = never_admits doc smaller next value n t r (out-Json value)
  names_admit (name ∷ others) =
      let names = name ∷ others in
      let schema = annotations n t r ++ (enumerated names).members in
      noted_admits doc smaller next value (out-Json value) n t r _ _ false refl refl refl (no_form name others)
      ∙ ap (λ (b : Bool). n && is_null (out-Json value) || b && (is_listed value (Items (map Words names)) && true)) (type_row smaller next value (out-Json value) schema (codes "string"))
      ∙ ap (λ (b : Bool). n && is_null (out-Json value) || b) (by_form names (out-Json value) refl)
    where
      by_form : (names : List (List ℕ)) (j : Level Json) → out-Json value ≡ j → (has_type (codes "string") j && (is_listed value (Items (map Words names)) && true)) ≡ list_any (is_named j) names
      by_form names Json-F.Null e = sym (none_of _ (λ name. refl) names)
      by_form names (Json-F.Bool b) e = sym (none_of _ (λ name. refl) names)
      by_form names (Json-F.Int i) e = sym (none_of _ (λ name. refl) names)
      by_form names (Json-F.Text w) e = and-true (is_listed value (Items (map Words names))) ∙ text_listed value w names e
      by_form names (Json-F.List js) e = sym (none_of _ (λ name. refl) names)
      by_form names (Json-F.Object ms) e = sym (none_of _ (λ name. refl) names)

-- ---- what an enumeration denotes

pub turned : (a b : List ℕ) → bytes_eq a b ≡ bytes_eq b a
turned a b = same_from_decides (bytes_eq a b) (bytes_eq b a) (bytes_eq-Decides a b) (λ h. sym ((bytes_eq-Decides b a).0 h), λ e. (bytes_eq-Decides b a).1 (sym e))

ok_listed : (i : ℕ) (ns : List Named) (w : List ℕ) → is_ok (where_found (refused NotListed) bare (named_from listed_name i ns w)) ≡ list_any (bytes_eq w) (map listed_name ns)
ok_listed i [] w = refl
ok_listed i (n ∷ ns) w = by_name (bytes_eq n.name w) (ok_listed (i + 1) ns w) ∙ ap (λ (b : Bool). b || list_any (bytes_eq w) (map listed_name ns)) (turned n.name w)
  where
    by_name : (b : Bool) → is_ok (where_found (refused NotListed) bare (named_from listed_name (i + 1) ns w)) ≡ list_any (bytes_eq w) (map listed_name ns)
        → is_ok (where_found (refused NotListed) bare (cond b (Some (i, n)) (named_from listed_name (i + 1) ns w))) ≡ (b || list_any (bytes_eq w) (map listed_name ns))
    by_name true e = refl
    by_name false e = e

pub ok_named : {X : Type 0} (ns : List Named) (j : Level X) → is_ok (one_of_names ns j) ≡ list_any (is_named j) (map listed_name ns)
ok_named ns Json-F.Null = sym (none_of _ (λ name. refl) (map listed_name ns))
ok_named ns (Json-F.Bool b) = sym (none_of _ (λ name. refl) (map listed_name ns))
ok_named ns (Json-F.Int i) = sym (none_of _ (λ name. refl) (map listed_name ns))
ok_named ns (Json-F.Text w) = ok_listed 0 ns w
ok_named ns (Json-F.List js) = sym (none_of _ (λ name. refl) (map listed_name ns))
ok_named ns (Json-F.Object ms) = sym (none_of _ (λ name. refl) (map listed_name ns))

-- ---- choices, of which exactly one has a name that is listed

module _ (p : List ℕ → Bool) (once : (a b : List ℕ) → p a ≡ true → p b ≡ true → a ≡ b) where
  -- a name without description counts once, and each described one
  abbrev times : List Named → ℕ
  times ns = count (list_any p (map listed_name (filter (λ n. not (is_described n)) ns))) + count_by (λ n. p n.name) (filter is_described ns)

  plain_cons : (b : Bool) (n : Named) (ns : List Named) → list_any p (map listed_name (cond (not b) (n ∷ ns) ns)) ≡ (cond b false (p n.name) || list_any p (map listed_name ns))
  plain_cons true n ns = refl
  plain_cons false n ns = refl

  described_cons : (b : Bool) (n : Named) (ns : List Named) → count_by (λ n. p n.name) (cond b (n ∷ ns) ns) ≡ cond b (count (p n.name)) 0 + count_by (λ n. p n.name) ns
  described_cons true n ns = sum_by-cons (λ n. count (p n.name)) n ns
  described_cons false n ns = omega arith

  joined : (described here plain later : Bool) (k : ℕ) → count plain + k ≡ count later → (here ≡ true → later ≡ false)
      → count (cond described false here || plain) + (cond described (count here) 0 + k) ≡ count (here || later)
  joined described true plain true k e none = absurd (let never : true ≡ false = none refl in cc never)
  joined true true true false k e none = absurd (omega (arith, e))
  joined true true false false k e none = omega (arith, e)
  joined false true true false k e none = absurd (omega (arith, e))
  joined false true false false k e none = omega (arith, e)
  joined true false plain later k e none = omega (arith, e)
  joined false false plain later k e none = omega (arith, e)

  times_once : (ns : List Named) → AreDistinct (map listed_name ns) → times ns ≡ count (list_any p (map listed_name ns))
  times_once [] h = refl
  times_once (n ∷ ns) h =
      let plains = filter (λ n. not (is_described n)) ns in
      let others = filter is_described ns in
      ap (λ (b : Bool). count b + count_by (λ n. p n.name) (filter is_described (n ∷ ns))) (plain_cons (is_described n) n plains)
      ∙ ap (λ (k : ℕ). count (cond (is_described n) false (p n.name) || list_any p (map listed_name plains)) + k) (described_cons (is_described n) n others)
      ∙ joined (is_described n) (p n.name) (list_any p (map listed_name plains)) (list_any p (map listed_name ns)) (count_by (λ n. p n.name) others) (times_once ns h.1) (λ e. no_other (λ name. name) p once n.name (map listed_name ns) e h.0)

  module _ (next : Json → Bool) (one_list : (names : List (List ℕ)) → next (drawn_json (enumerated names)) ≡ list_any p names) (one_name : (n : Named) → next (described_choice n) ≡ p n.name) where
    plain_counted : (names : List (List ℕ)) → count_by next (plain_choice names) ≡ count (list_any p names)
    plain_counted [] = refl
    plain_counted (name ∷ names) =
        let choice = drawn_json (enumerated (name ∷ names)) in
        let once : count_by next (choice ∷ []) ≡ count (next choice) + 0 = sum_by-cons (λ s. count (next s)) choice [] in
        omega (arith, once, ap count (one_list (name ∷ names)))

    -- one choice admits a name that is listed, and none any other
    pub choices_counted : (ns : List Named) → AreDistinct (map listed_name ns) → count_by next (choices_of ns) ≡ count (list_any p (map listed_name ns))
    choices_counted ns h =
        let plains = plain_choice (map listed_name (filter (λ n. not (is_described n)) ns)) in
        let others = filter is_described ns in
        let all : count_by next (plains ++ map described_choice others) ≡ count_by next plains + count_by next (map described_choice others) =
        sum_by-append (λ s. count (next s)) plains (map described_choice others) in
        omega (arith, all, plain_counted (map listed_name (filter (λ n. not (is_described n)) ns)), counted_map next (λ n. p n.name) described_choice others (λ n c. one_name n), times_once ns h)
