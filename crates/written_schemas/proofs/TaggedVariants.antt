-- A tagged enumeration denotes what the struct of its tag, which has one name, and of a variant's fields does.
use Rattle.std.proofs.Common.{◌≡◌, ℕ, ◌+◌, Bool, true, false, ◌&&◌, List, map, Option, Some, None, option_map, is_ok, bytes_eq, refl, sym, ◌∙◌, ap, subst}
use Rattle.std.proofs.Math.Bool.{and-true, or-false}
use Rattle.std.proofs.lemmas.Bool.{and_parts}
use Rattle.std.specs.List.{list_all, list_any}
use Rattle.std.specs.Prelude.{Contains}
use Rattle.schema_values.specs.declared.json_value.Json.{Json, out-Json}
use Rattle.schema_values.specs.declared.json_value.Json.TheOpen.{Json-F}
use Rattle.schema_values.specs.declared.json_value.Member.{Member}
use Rattle.schema_values.specs.Sound.{AreDistinct}
use Rattle.descriptors.specs.declared.desc.Desc.{Desc, out-Desc, Enumeration}
use Rattle.descriptors.specs.declared.desc.Desc.TheOpen.{Desc-F}
use Rattle.descriptors.specs.declared.desc.Desc.TheVariants as desc
use Rattle.descriptors.specs.declared.desc.Field.{Field}
use Rattle.descriptors.specs.declared.desc.TaggedVariant.{TaggedVariant}
use Rattle.descriptors.specs.declared.table.Definition.{Definition}
use Rattle.typed_values.specs.Checks.{IsPlainlyRight, names_of_fields}
use Rattle.descriptors.specs.Definitions.{field_name, tagged_name, tagged_fields}
use Rattle.typed_values.specs.Denotes.{Told, told, room, nodes, nodes_of_table, chosen, at_tag, by_tag, tagged, one_of_names, by_presence, value_named}
use Rattle.typed_values.specs.Rows.{value_denotes, told_field, told_fields, told_struct, struct_row}
use Rattle.typed_values.specs.Resting.{RestsBy, Rests}
use Rattle.typed_values.specs.Levels.{DescLevel}
use Rattle.typed_values.proofs.CallerLemmas.{ok_below, ok_all, ok_struct, names_apart, distinct_at, row_at, new_name}
use Rattle.written_schemas.proofs.Counted.{none_of}
use Rattle.written_schemas.proofs.Enumerations.{is_named, named_once, turned, ok_named}
use Rattle.written_schemas.proofs.FoundByName.{any_same, ok_found, ok_chosen}
use Rattle.written_schemas.proofs.VariantForms.{required_of, alone, behind_tag}

-- where nothing is wrong, the tag and the fields behind it have distinct names
pub behind_apart : (table : List Definition) (d : Desc) (tag : List ℕ) (vs : List TaggedVariant) → out-Desc d ≡ Desc-F.Tagged tag vs → IsPlainlyRight table d
    → (v : TaggedVariant) → Contains vs v → AreDistinct (map field_name (behind_tag tag v))
behind_apart table d tag vs e right v c = (
  new_name tag (tagged_fields v) (λ f k named. right.tags (tag, vs, v, f, e, c, k, named)),
  distinct_at names_of_fields vs v (names_apart table d (Desc-F.Tagged tag vs) e right).1 c,
)

module _ (table : List Definition) (whole : Desc) where
  -- what is told of the tag
  pub told_alone : (j : Json) (name : List ℕ) → told table whole j (Enumeration (alone name)) ≡ one_of_names (alone name) (out-Json j)
  unfolding room Rests
  told_alone j name =
      let form = desc.outs-Enumeration (alone name) in
      row_at table whole j (Enumeration (alone name)) (out-Json j) (Desc-F.Enumeration (alone name))
      (subst (λ (z : DescLevel). RestsBy table (Rests table (nodes_of_table table + nodes whole)) z) (sym form) tt) refl form

  abbrev named_at : Option Json → List ℕ → Bool
  named_at None name = false
  named_at (Some j) name = is_named (out-Json j) name

  named_at_once : (o : Option Json) (a b : List ℕ) → named_at o a ≡ true → named_at o b ≡ true → a ≡ b
  named_at_once None a b e f = absurd (cc e)
  named_at_once (Some j) a b e f = named_once (out-Json j) a b e f

  -- the variant whose name the tag has
  abbrev tag_names : Json-F Json Member → List ℕ → List ℕ → Bool
  tag_names (Json-F.Object ms) tag name = named_at (value_named ms tag) name
  tag_names _ tag name = false

  tag_field : (tag name : List ℕ) (o : Option Json) → is_ok (by_presence (required_of tag (Enumeration (alone name))) (value_denotes table whole (Enumeration (alone name)) o)) ≡ named_at o name
  tag_field tag name None = refl
  tag_field tag name (Some j) =
      ok_below _ (told table whole j (Enumeration (alone name))) ∙ ap (λ (o : Told). is_ok o) (told_alone j name) ∙ ok_named (alone name) (out-Json j) ∙ or-false (is_named (out-Json j) name)

  each_told : (fs : List Field) (ms : List Member) → is_ok (told_struct table whole fs false ms) ≡ list_all (λ f. is_ok (told_field table whole ms f)) fs
  each_told fs ms =
      ok_struct false fs ms (told_fields table whole ms fs)
      ∙ and-true (is_ok (told_fields table whole ms fs))
      ∙ ok_all (λ i f. told_field table whole ms f) (λ f. is_ok (told_field table whole ms f)) (λ i f. refl) 0 fs

  tag_row : (tag : List ℕ) (v : TaggedVariant) (y : Json-F Json Member) → is_ok (struct_row table whole (behind_tag tag v) false y) ≡ (tag_names y tag (tagged_name v) && is_ok (struct_row table whole (tagged_fields v) false y))
  tag_row tag v Json-F.Null = refl
  tag_row tag v (Json-F.Bool b) = refl
  tag_row tag v (Json-F.Int i) = refl
  tag_row tag v (Json-F.Text w) = refl
  tag_row tag v (Json-F.List js) = refl
  tag_row tag v (Json-F.Object ms) =
      each_told (behind_tag tag v) ms
      ∙ ap (λ (b : Bool). b && list_all (λ f. is_ok (told_field table whole ms f)) (tagged_fields v)) (tag_field tag (tagged_name v) (value_named ms tag))
      ∙ ap (λ (b : Bool). named_at (value_named ms tag) (tagged_name v) && b) (sym (each_told (tagged_fields v) ms))

  module _ (tag : List ℕ) (vs : List TaggedVariant) (once : AreDistinct (map tagged_name vs)) (struct : List Field → Told) where
    abbrev variant_told : ℕ → TaggedVariant → Told
    variant_told i v = chosen i (struct (tagged_fields v))

    at_kind : (j : Json) (x : Json-F Json Member) → out-Json j ≡ x → is_ok (at_tag tag variant_told vs j) ≡ list_any (λ v. is_named x (tagged_name v) && is_ok (struct (tagged_fields v))) vs
    at_kind j Json-F.Null e = rw e (sym (none_of _ (λ v. refl) vs))
    at_kind j (Json-F.Bool b) e = rw e (sym (none_of _ (λ v. refl) vs))
    at_kind j (Json-F.Int i) e = rw e (sym (none_of _ (λ v. refl) vs))
    at_kind j (Json-F.Text w) e =
        rw e (ok_found tagged_name variant_told _ (λ v. is_ok (struct (tagged_fields v))) refl (λ i v. ok_chosen i (struct (tagged_fields v))) w 0 vs once
        ∙ any_same _ (λ v. bytes_eq w (tagged_name v) && is_ok (struct (tagged_fields v))) (λ v. ap (λ (b : Bool). b && is_ok (struct (tagged_fields v))) (turned (tagged_name v) w)) vs)
    at_kind j (Json-F.List js) e = rw e (sym (none_of _ (λ v. refl) vs))
    at_kind j (Json-F.Object ms) e = rw e (sym (none_of _ (λ v. refl) vs))

    at_value : (o : Option Json) → is_ok (by_tag tag (at_tag tag variant_told vs) (option_map (λ j. j) o)) ≡ list_any (λ v. named_at o (tagged_name v) && is_ok (struct (tagged_fields v))) vs
    at_value None = sym (none_of _ (λ v. refl) vs)
    at_value (Some j) = at_kind j (out-Json j) refl

  -- the struct of a tag and the fields behind it
  pub tagged_is : (tag : List ℕ) (vs : List TaggedVariant) → AreDistinct (map tagged_name vs) → (y : Json-F Json Member)
      → is_ok (tagged (λ j. j) (λ fs. struct_row table whole fs false y) tag vs y) ≡ list_any (λ v. is_ok (struct_row table whole (behind_tag tag v) false y)) vs
  tagged_is tag vs once Json-F.Null = sym (none_of _ (λ v. refl) vs)
  tagged_is tag vs once (Json-F.Bool b) = sym (none_of _ (λ v. refl) vs)
  tagged_is tag vs once (Json-F.Int i) = sym (none_of _ (λ v. refl) vs)
  tagged_is tag vs once (Json-F.Text w) = sym (none_of _ (λ v. refl) vs)
  tagged_is tag vs once (Json-F.List js) = sym (none_of _ (λ v. refl) vs)
  tagged_is tag vs once (Json-F.Object ms) =
      at_value tag vs once (λ fs. struct_row table whole fs false (Json-F.Object ms)) (value_named ms tag)
      ∙ any_same _ (λ v. is_ok (struct_row table whole (behind_tag tag v) false (Json-F.Object ms))) (λ v. sym (tag_row tag v (Json-F.Object ms))) vs

  tag_names_once : (y : Json-F Json Member) (tag a b : List ℕ) → tag_names y tag a ≡ true → tag_names y tag b ≡ true → a ≡ b
  tag_names_once Json-F.Null tag a b e f = absurd (cc e)
  tag_names_once (Json-F.Bool t) tag a b e f = absurd (cc e)
  tag_names_once (Json-F.Int i) tag a b e f = absurd (cc e)
  tag_names_once (Json-F.Text w) tag a b e f = absurd (cc e)
  tag_names_once (Json-F.List js) tag a b e f = absurd (cc e)
  tag_names_once (Json-F.Object ms) tag a b e f = named_at_once (value_named ms tag) a b e f

  -- and of no other variant
  pub tag_once : (tag : List ℕ) (y : Json-F Json Member) (a b : TaggedVariant) → is_ok (struct_row table whole (behind_tag tag a) false y) ≡ true
      → is_ok (struct_row table whole (behind_tag tag b) false y) ≡ true → tagged_name a ≡ tagged_name b
  tag_once tag y a b e f =
      tag_names_once y tag (tagged_name a) (tagged_name b)
      (and_parts (tag_names y tag (tagged_name a)) _ (sym (tag_row tag a y) ∙ e)).0
      (and_parts (tag_names y tag (tagged_name b)) _ (sym (tag_row tag b y) ∙ f)).0
