-- How many JSON values the schema of a descriptor has, beside the steps that its top takes.
use Rattle.std.proofs.Common.{◌≡◌, ℕ, suc, ◌+◌, ◌≤◌, Bool, true, false, List, [], ◌∷◌, ◌++◌, map, sum, Option, Some, None, codes, cond, refl, sym, ◌∙◌, ap, subst, arith, inl, inr}
use Rattle.std.specs.List.{list_any}
use Rattle.std.specs.Option.{option_map_or}
use Rattle.std.specs.Prelude.{Contains}
use Rattle.std.proofs.lemmas.List.Sums.{sum_by-cons}
use Rattle.schema_values.specs.declared.json_value.Json.{Json, out-Json, Bool as Truth, List as Items, Object, Text as Words}
use Rattle.schema_values.specs.declared.json_value.Json.TheOpen.{Json-F}
use Rattle.schema_values.specs.declared.json_value.Json.TheVariants as json
use Rattle.schema_values.specs.declared.json_value.Member.{Member}
use Rattle.schema_values.specs.Member.{name_of, member}
use Rattle.openapi_values.specs.Room.{values}
use Rattle.openapi_values.specs.ValuesOfMembers.{member_values}
use Rattle.openapi_values.proofs.CallerLemmas.{values_is, values_row, total, total_cons}
use Rattle.descriptors.specs.declared.desc.Desc.{Desc, out-Desc}
use Rattle.descriptors.specs.declared.desc.Desc.TheFolds.{fold-Desc, fold-Field, fold-TaggedVariant, fold-Variant, fold_out-Desc, map-Desc}
use Rattle.descriptors.specs.declared.desc.Desc.TheOpen.{Desc-F}
use Rattle.descriptors.specs.declared.desc.Field.{Field}
use Rattle.descriptors.specs.declared.desc.Named.{Named}
use Rattle.descriptors.specs.declared.desc.TaggedVariant.{TaggedVariant}
use Rattle.descriptors.specs.declared.desc.Variant.{Variant}
use Rattle.descriptors.specs.declared.table.Definition.{Definition}
use Rattle.descriptors.specs.Definitions.{listed_name, tagged_description, tagged_fields}
use Rattle.typed_values.specs.Denotes.{field_nodes, tagged_nodes, variant_nodes}
use Rattle.typed_values.specs.DescBeside.{tagged_with, variant_with}
use Rattle.schema_values.specs.Order.{sorted_by, same_name}
use Rattle.typed_values.specs.SchemaTable.{Drawn, DrawnVariant, Remarks, drawn, drawn_json, drawn_step, defaulted, described, annotated, annotations, if_members, if_names, if_denied, plain, enumerated, is_described, choices_of, other_members, bare_names, payload_choices, tagged_choice, schema_json}
use Rattle.typed_values.specs.Levels.{DescLevel}
use Rattle.schema_values.proofs.CallerLemmas.{contains_cases, contains_first, contains_later}
use Rattle.written_schemas.proofs.Notes.{noted}
use Rattle.written_schemas.proofs.Composites.{counts}
use Rattle.written_schemas.proofs.Sorted.{sum_sorted}
use Rattle.written_schemas.proofs.Forms.{choice_drawn, drawn_level, drawn_row, field_property, fields_drawn, names_required, properties_drawn}
use Rattle.written_schemas.proofs.Truths.{truth_is}
use Rattle.written_schemas.proofs.VariantForms.{required_of, behind_tag, tagged_is_struct}

total_after : (first ms : List Member) → total ms ≤ total (first ++ ms)
total_after [] ms = omega arith
total_after (a ∷ first) ms = omega (arith, total_cons a (first ++ ms), total_after first ms)

pub values_object : (ms : List Member) → values (Object ms) ≡ suc (total ms)
unfolding total
values_object ms = values_is (Object ms) ∙ ap values_row (json.outs-Object ms)

values_list : (js : List Json) → values (Items js) ≡ suc (sum (map values js))
values_list js = values_is (Items js) ∙ ap values_row (json.outs-List js)

values_positive : (j : Json) → 1 ≤ values j
values_positive j = rw (values_is j) (by_form (out-Json j))
  where
    by_form : (x : Json-F Json Member) → 1 ≤ values_row x
    by_form Json-F.Null = omega arith
    by_form (Json-F.Bool b) = omega arith
    by_form (Json-F.Int i) = omega arith
    by_form (Json-F.Text w) = omega arith
    by_form (Json-F.List js) = omega arith
    by_form (Json-F.Object ms) = omega arith

-- the JSON values of the schema, with no annotation
abbrev pub bare : List Definition → Desc → ℕ
bare table d = suc (total (drawn table d).members)

annotated_more : (notes : List Member) (is_reference : Bool) (ms : List Member) → total ms ≤ total (annotated notes is_reference ms)
annotated_more [] is_reference ms = omega arith
annotated_more (a ∷ notes) true ms =
    let wrap = member (codes "allOf") (Items (Object ms ∷ [])) in
    let once : sum (map values (Object ms ∷ [])) ≡ values (Object ms) + 0 = sum_by-cons (λ n. n) (values (Object ms)) [] in
    omega (arith, total_after (a ∷ notes) (wrap ∷ []), total_cons wrap [], values_list (Object ms ∷ []), once, values_object ms)
annotated_more (a ∷ notes) false ms = total_after (a ∷ notes) ms

pub drawn_fits : (s : Drawn) → suc (total s.members) ≤ values (drawn_json s)
drawn_fits s =
    let all = annotations s.nullable s.title s.remarks in
    omega (arith, values_object (annotated all s.is_reference s.members), annotated_more all s.is_reference s.members)

-- annotations add to it
pub bare_fits : (table : List Definition) (d : Desc) (n : Bool) (t : Option (List ℕ)) (s : Remarks) → bare table d ≤ values (drawn_json (noted n t s (drawn table d)))
bare_fits table d n t s = drawn_fits (noted n t s (drawn table d))

pub remarks_fit : (default : Option Json) (text : Option (List ℕ)) (s : Drawn) → suc (total s.members) ≤ values (drawn_json (defaulted default (described text s)))
remarks_fit None None s = drawn_fits s
remarks_fit None (Some text) s = drawn_fits (described (Some text) s)
remarks_fit (Some value) None s = drawn_fits (defaulted (Some value) s)
remarks_fit (Some value) (Some text) s = drawn_fits (defaulted (Some value) (described (Some text) s))

-- the steps that the top of a descriptor takes: it, and what stands under options and alternatives alone
abbrev pub top_step : Desc-F ℕ ℕ ℕ ℕ → ℕ
top_step (Desc-F.Enumeration ns) = 2
top_step (Desc-F.External ns) = 2
top_step (Desc-F.Tagged tag ns) = 2
top_step (Desc-F.Option n) = n
top_step (Desc-F.Untagged ns) = suc (sum ns)
top_step (Desc-F.Ref name) = 2
top_step _ = 1

unfoldable pub top_cost : Desc → ℕ
top_cost = fold-Desc ℕ ℕ ℕ ℕ top_step field_nodes tagged_nodes variant_nodes

abbrev pub top_level : DescLevel → ℕ
top_level z = top_step (map-Desc Desc Field TaggedVariant Variant ℕ ℕ ℕ ℕ top_cost
    (fold-Field ℕ ℕ ℕ ℕ top_step field_nodes tagged_nodes variant_nodes)
    (fold-TaggedVariant ℕ ℕ ℕ ℕ top_step field_nodes tagged_nodes variant_nodes)
    (fold-Variant ℕ ℕ ℕ ℕ top_step field_nodes tagged_nodes variant_nodes) z)

pub top_at : (d : Desc) (z : DescLevel) → out-Desc d ≡ z → top_cost d ≡ top_level z
unfolding top_cost
top_at d z e = fold_out-Desc ℕ ℕ ℕ ℕ top_step field_nodes tagged_nodes variant_nodes d ∙ ap (λ (x : DescLevel). top_level x) e

-- a schema's values are more than those of the schemas in it
first_counts : (m : Member) (ms : List Member) → suc (total ms) ≤ total (m ∷ ms)
first_counts m ms = omega (arith, total_cons m ms, values_positive m.value)

no_total : total [] ≡ 0
unfolding total
no_total = refl

choices_size : (ss : List Json) → total (member (codes "oneOf") (Items ss) ∷ []) ≡ suc (sum (map values ss))
choices_size ss = let none : total [] ≡ 0 = no_total in omega (arith, total_cons (member (codes "oneOf") (Items ss)) [], values_list ss, none)

later_size : (first ss : List Json) → sum (map values ss) ≤ sum (map values (first ++ ss))
later_size [] ss = omega arith
later_size (x ∷ first) ss = omega (arith, later_size first ss, sum_by-cons (λ n. n) (values x) (map values (first ++ ss)))

members_size : (ps rest : List Member) → total ps ≤ total (if_members ps (codes "properties") rest)
members_size [] rest = let none : total [] ≡ 0 = no_total in omega (arith, none)
members_size (p ∷ ps) rest = omega (arith, total_cons (member (codes "properties") (Object (p ∷ ps))) rest, values_object (p ∷ ps))

module _ (table : List Definition) where
  bare_at : (d : Desc) (z : DescLevel) → out-Desc d ≡ z → bare table d ≡ suc (total (drawn_step table (drawn_level table z)).members)
  bare_at d z e = ap (λ (x : Drawn). suc (total x.members)) (drawn_row table d z e)

  -- the schemas that admit all or nothing have at most two values
  told_bare : (x : Desc) (b : Bool) → (drawn table x).truth ≡ Some b → bare table x ≤ 2
  told_bare x b f = elim (truth_is table x b f) [
    | inl any ↦ let none : total [] ≡ 0 = no_total in omega (arith, bare_at x Desc-F.Any any.0, none)
    | inr never ↦
        let none : total [] ≡ 0 = no_total in
        omega (arith, bare_at x Desc-F.Never never.0, total_cons (member (codes "not") (Object [])) [], values_object [], none)
  ]

  module _ (d : Desc) where
    pub option_size : (x : Desc) → out-Desc d ≡ Desc-F.Option x → (bare table d ≡ bare table x) × (top_cost d ≡ top_cost x)
    option_size x e = (bare_at d (Desc-F.Option x) e, top_at d (Desc-F.Option x) e)

    pub list_size : (x : Desc) (min max : Option ℕ) → out-Desc d ≡ Desc-F.List x min max → 2 + values (schema_json table x) ≤ bare table d
    list_size x min max e =
        let item = member (codes "items") (schema_json table x) in
        let rest = counts min max in
        omega (arith, bare_at d (Desc-F.List x min max) e, first_counts (member (codes "type") (Words (codes "array"))) (item ∷ rest), total_cons item rest)

    -- the schema of a map's values, or a truth value in its place
    pub map_size : (x : Desc) → out-Desc d ≡ Desc-F.Map x → suc (bare table x) ≤ bare table d
    map_size x e =
        let others = member (codes "additionalProperties") (other_members (drawn table x)) in
        omega (arith, bare_at d (Desc-F.Map x) e, first_counts (member (codes "type") (Words (codes "object"))) (others ∷ []), total_cons others [], by_truth (drawn table x).truth refl)
      where
        by_truth : (truth : Option Bool) → (drawn table x).truth ≡ truth → bare table x ≤ suc (values (option_map_or Truth truth (drawn_json (drawn table x))))
        by_truth None f = omega (arith, drawn_fits (drawn table x))
        by_truth (Some b) f = omega (arith, told_bare x b f, values_positive (Truth b))

    pub enumeration_size : (ns : List Named) → out-Desc d ≡ Desc-F.Enumeration ns → 2 ≤ bare table d
    enumeration_size ns e = omega (arith, bare_at d (Desc-F.Enumeration ns) e, by_test (list_any is_described ns))
      where
        by_names : (names : List (List ℕ)) → 1 ≤ total (enumerated names).members
        by_names [] = omega (arith, first_counts (member (codes "not") (Object [])) [])
        by_names (name ∷ names) = omega (arith, first_counts (member (codes "type") (Words (codes "string"))) (member (codes "enum") (Items (map Words (name ∷ names))) ∷ []))

        by_test : (b : Bool) → 1 ≤ total (cond b (plain (member (codes "oneOf") (Items (choices_of ns)) ∷ [])) (enumerated (map listed_name ns))).members
        by_test true = omega (arith, first_counts (member (codes "oneOf") (Items (choices_of ns))) [])
        by_test false = by_names (map listed_name ns)

    pub choice_size : (ds : List Desc) → out-Desc d ≡ Desc-F.Untagged ds → bare table d ≡ suc (suc (sum (map values (map (schema_json table) ds))))
    choice_size ds e =
        let schemas = Items (map (schema_json table) ds) in
        let none : total [] ≡ 0 = no_total in
        omega (arith, ap (λ (x : Drawn). suc (total x.members)) (choice_drawn table d ds e), total_cons (member (codes "anyOf") schemas) [], values_list (map (schema_json table) ds), none)

    pub reference_size : (name : List ℕ) → out-Desc d ≡ Desc-F.Ref name → 2 ≤ bare table d
    reference_size name e =
        let target = Words (codes "#/components/schemas/" ++ name) in
        omega (arith, bare_at d (Desc-F.Ref name) e, total_cons (member (codes "$ref") target) [], values_positive target)

    -- the two choices take two steps
    pub one_of_fits : (ss : List Json) → drawn table d ≡ plain (member (codes "oneOf") (Items ss) ∷ []) → 2 ≤ bare table d
    one_of_fits ss e = omega (arith, ap (λ (x : Drawn). suc (total x.members)) e, choices_size ss)

  -- ---- structs

  property_size : (fs : List Field) (f : Field) → Contains fs f → values (field_property table f).value ≤ total (properties_drawn table fs)
  property_size [] f c = absurd (omega (arith, c.1))
  property_size (g ∷ fs) f c = elim (contains_cases g fs f c) [
    | inl same ↦ omega (arith, ap (λ (g : Field). values (field_property table g).value) same, total_cons (field_property table g) (properties_drawn table fs))
    | inr later ↦ omega (arith, property_size fs f later, total_cons (field_property table g) (properties_drawn table fs))
  ]

  struct_size : (fs : List Field) (deny : Bool) (f : Field) → Contains fs f → suc (values (field_property table f).value) ≤ total (fields_drawn table fs deny).members
  unfolding total
  struct_size fs deny f c =
      let ps = properties_drawn table fs in
      let rest = if_names (sorted_by same_name (names_required table fs)) (codes "required") (if_denied deny) in
      let members = if_members (sorted_by name_of ps) (codes "properties") rest in
      let same : total (sorted_by name_of ps) ≡ total ps = sum_sorted name_of member_values ps in
      omega (arith, first_counts (member (codes "type") (Words (codes "object"))) members, members_size (sorted_by name_of ps) rest, same, property_size fs f c)

  pub field_size : (d : Desc) (fs : List Field) (deny : Bool) (f : Field) → out-Desc d ≡ Desc-F.Struct fs deny → Contains fs f → 2 + values (field_property table f).value ≤ bare table d
  field_size d fs deny f e c = omega (arith, bare_at d (Desc-F.Struct fs deny) e, struct_size fs deny f c)

  -- ---- choices

  abbrev payloads_of : List Variant → List Json
  payloads_of vs = payload_choices (map (variant_with (drawn table)) vs)

  payload_choice : Variant → Desc → Json
  payload_choice v x = drawn_json (described v.description (fields_drawn table (required_of v.name x ∷ []) true))

  payload_here : (v : Variant) (x : Desc) (rest : List DrawnVariant) → v.payload ≡ Some x → 2 + values (schema_json table x) ≤ sum (map values (payload_choices (variant_with (drawn table) v ∷ rest)))
  unfolding payload_choice
  payload_here v x rest e =
      let f = required_of v.name x in
      rw e (omega (
        arith,
        sum_by-cons (λ n. n) (values (payload_choice v x)) (map values (payload_choices rest)),
        remarks_fit None v.description (fields_drawn table (f ∷ []) true),
        struct_size (f ∷ []) true f (contains_first f []),
      ))

  payload_later : (v : Variant) (rest : List DrawnVariant) (o : Option Desc) → v.payload ≡ o → sum (map values (payload_choices rest)) ≤ sum (map values (payload_choices (variant_with (drawn table) v ∷ rest)))
  unfolding payload_choice
  payload_later v rest None e = rw e (omega arith)
  payload_later v rest (Some x) e = rw e (omega (arith, sum_by-cons (λ n. n) (values (payload_choice v x)) (map values (payload_choices rest))))

  payloads_size : (vs : List Variant) (v : Variant) (x : Desc) → Contains vs v → v.payload ≡ Some x → 2 + values (schema_json table x) ≤ sum (map values (payloads_of vs))
  payloads_size [] v x c e = absurd (omega (arith, c.1))
  payloads_size (w ∷ vs) v x c e = elim (contains_cases w vs v c) [
    | inl same ↦ payload_here w x (map (variant_with (drawn table)) vs) (ap (λ (u : Variant). u.payload) same ∙ e)
    | inr later ↦ omega (arith, payloads_size vs v x later e, payload_later w (map (variant_with (drawn table)) vs) w.payload refl)
  ]

  pub payload_size : (d : Desc) (vs : List Variant) (v : Variant) (x : Desc) → out-Desc d ≡ Desc-F.External vs → Contains vs v → v.payload ≡ Some x → 2 + values (schema_json table x) ≤ bare table d
  payload_size d vs v x e c f =
      let names = choices_of (bare_names (map (variant_with (drawn table)) vs)) in
      omega (arith, bare_at d (Desc-F.External vs) e, choices_size (names ++ payloads_of vs), later_size names (payloads_of vs), payloads_size vs v x c f)

  abbrev tagged_of : List ℕ → List TaggedVariant → List Json
  tagged_of tag vs = map (tagged_choice table tag) (map (tagged_with (drawn table)) vs)

  tagged_size : (tag : List ℕ) (vs : List TaggedVariant) (v : TaggedVariant) (f : Field) → Contains vs v → Contains (tagged_fields v) f → 2 + values (field_property table f).value ≤ sum (map values (tagged_of tag vs))
  tagged_size tag [] v f c k = absurd (omega (arith, c.1))
  tagged_size tag (w ∷ vs) v f c k =
      let choice = tagged_choice table tag (tagged_with (drawn table) w) in
      let added = sum_by-cons (λ n. n) (values choice) (map values (tagged_of tag vs)) in
      elim (contains_cases w vs v c) [
        | inl same ↦
            let inside = subst (λ (u : TaggedVariant). Contains (tagged_fields u) f) (sym same) k in
            omega (
              arith,
              added,
              ap values (tagged_is_struct table tag w),
              remarks_fit None (tagged_description w) (fields_drawn table (behind_tag tag w) false),
              struct_size (behind_tag tag w) false f (contains_later _ (tagged_fields w) f inside),
            )
        | inr later ↦ omega (arith, added, tagged_size tag vs v f later k)
      ]

  pub variant_size : (d : Desc) (tag : List ℕ) (vs : List TaggedVariant) (v : TaggedVariant) (f : Field) → out-Desc d ≡ Desc-F.Tagged tag vs → Contains vs v → Contains (tagged_fields v) f → 2 + values (field_property table f).value ≤ bare table d
  variant_size d tag vs v f e c k = omega (arith, bare_at d (Desc-F.Tagged tag vs) e, choices_size (tagged_of tag vs), tagged_size tag vs v f c k)
