-- Where a descriptor stands in another: at its top, or deeper, where its schema's values are counted beside the whole top.
use Rattle.std.proofs.Common.{◌≡◌, ℕ, ◌+◌, ◌≤◌, List, [], ◌∷◌, map, sum, Option, Some, None, ap, subst, arith, ◌⊎◌, inl, inr}
use Rattle.std.specs.Prelude.{Contains}
use Rattle.std.proofs.lemmas.List.Sums.{sum_by-cons}
use Rattle.openapi_values.specs.Room.{values}
use Rattle.descriptors.specs.declared.desc.Desc.{Desc, out-Desc}
use Rattle.descriptors.specs.declared.desc.Desc.TheFolds.{map-Desc, ind-Desc}
use Rattle.descriptors.specs.declared.desc.Desc.TheOpen.{Desc-F}
use Rattle.descriptors.specs.declared.desc.Desc.TheViews.{roll-Desc, out-roll-Desc}
use Rattle.descriptors.specs.declared.desc.Field.{Field}
use Rattle.descriptors.specs.declared.desc.TaggedVariant.{TaggedVariant}
use Rattle.descriptors.specs.declared.desc.Variant.{Variant}
use Rattle.descriptors.specs.declared.table.Definition.{Definition}
use Rattle.descriptors.specs.Definitions.{tagged_fields}
use Rattle.typed_values.specs.Guarded.{Reaches}
use Rattle.typed_values.specs.Parts.{StandsIn, the_whole, in_option, in_list, in_map, in_field, in_payload, in_variant, in_alternative}
use Rattle.typed_values.specs.SchemaTable.{default_of, drawn, schema_json, schema_json_described}
use Rattle.typed_values.specs.Levels.{DescLevel}
use Rattle.schema_values.proofs.CallerLemmas.{contains_cases}
use Rattle.typed_values.proofs.CallerLemmas.{through_option, through_alternative}
use Rattle.written_schemas.proofs.Forms.{drawn_row, field_property}
use Rattle.written_schemas.proofs.Sizes.{bare, drawn_fits, remarks_fit, top_cost, top_at, option_size, list_size, map_size, enumeration_size, choice_size, reference_size, field_size, payload_size, variant_size, one_of_fits}

-- the steps of the tops of some descriptors
abbrev tops_of : List Desc → ℕ
tops_of ds = sum (map top_cost ds)

tops_cons : (x : Desc) (ds : List Desc) → tops_of (x ∷ ds) ≡ top_cost x + tops_of ds
tops_cons x ds = sum_by-cons (λ n. n) (top_cost x) (map top_cost ds)

pub one_top : (ds : List Desc) (x : Desc) → Contains ds x → top_cost x ≤ tops_of ds
one_top [] x c = absurd (omega (arith, c.1))
one_top (y ∷ ds) x c = elim (contains_cases y ds x c) [
  | inl same ↦ omega (arith, ap top_cost same, tops_cons y ds)
  | inr later ↦ omega (arith, one_top ds x later, tops_cons y ds)
]

module _ (table : List Definition) where
  pub schema_fits : (d : Desc) → bare table d ≤ values (schema_json table d)
  schema_fits d = drawn_fits (drawn table d)

  pub described_fits : (d : Desc) (text : Option (List ℕ)) → bare table d ≤ values (schema_json_described table text d)
  described_fits d text = remarks_fit None text (drawn table d)

  pub property_fits : (f : Field) → bare table f.desc ≤ values (field_property table f).value
  property_fits f = remarks_fit (default_of table f.presence f.desc) f.description (drawn table f.desc)

  abbrev Fits : Desc → Type 0
  Fits d = top_cost d ≤ bare table d

  abbrev Pair : Type 0
  Pair = (d : Desc) × Fits d

  abbrev FieldPair : Type 0
  FieldPair = (f : Field) × Unit {0}

  abbrev TaggedPair : Type 0
  TaggedPair = (v : TaggedVariant) × Unit {0}

  abbrev VariantPair : Type 0
  VariantPair = (v : Variant) × Unit {0}

  -- the values of some schemas
  abbrev schemas_of : List Desc → ℕ
  schemas_of ds = sum (map values (map (schema_json table) ds))

  schemas_cons : (x : Desc) (ds : List Desc) → schemas_of (x ∷ ds) ≡ values (schema_json table x) + schemas_of ds
  schemas_cons x ds = sum_by-cons (λ n. n) (values (schema_json table x)) (map values (map (schema_json table) ds))

  pairs_fit : (es : List Pair) → tops_of (map (λ e. e.0) es) ≤ schemas_of (map (λ e. e.0) es)
  pairs_fit [] = omega arith
  pairs_fit (e ∷ es) = omega (arith, e.1, schema_fits e.0, pairs_fit es, tops_cons e.0 (map (λ x. x.0) es), schemas_cons e.0 (map (λ x. x.0) es))

  fits_by : (d : Desc) (y : Desc-F Pair FieldPair TaggedPair VariantPair) → out-Desc d ≡ map-Desc Pair FieldPair TaggedPair VariantPair Desc Field TaggedVariant Variant (λ e. e.0) (λ e. e.0) (λ e. e.0) (λ e. e.0) y → Fits d
  fits_by d Desc-F.Any e = omega (arith, top_at d _ e)
  fits_by d Desc-F.Never e = omega (arith, top_at d _ e)
  fits_by d Desc-F.Null e = omega (arith, top_at d _ e)
  fits_by d Desc-F.Bool e = omega (arith, top_at d _ e)
  fits_by d Desc-F.Char e = omega (arith, top_at d _ e)
  fits_by d (Desc-F.Int kind min max) e = omega (arith, top_at d _ e)
  fits_by d (Desc-F.Text min max format) e = omega (arith, top_at d _ e)
  fits_by d (Desc-F.Enumeration ns) e = omega (arith, top_at d _ e, enumeration_size table d ns e)
  fits_by d (Desc-F.Option x) e = let size = option_size table d x.0 e in omega (arith, size.0, size.1, x.1)
  fits_by d (Desc-F.List x min max) e = omega (arith, top_at d _ e)
  fits_by d (Desc-F.Map x) e = omega (arith, top_at d _ e)
  fits_by d (Desc-F.Struct fs deny) e = omega (arith, top_at d _ e)
  fits_by d (Desc-F.External vs) e = omega (arith, top_at d _ e, one_of_fits table d _ (drawn_row table d _ e))
  fits_by d (Desc-F.Tagged tag vs) e = omega (arith, top_at d _ e, one_of_fits table d _ (drawn_row table d _ e))
  fits_by d (Desc-F.Untagged es) e = omega (arith, top_at d _ e, choice_size table d (map (λ e. e.0) es) e, pairs_fit es)
  fits_by d (Desc-F.Ref name) e = omega (arith, top_at d _ e, reference_size table d name e)

  -- a top takes no more steps than the schema has values
  pub top_fits : (d : Desc) → top_cost d ≤ bare table d
  top_fits =
      ind-Desc Fits (λ f. Unit {0}) (λ v. Unit {0}) (λ v. Unit {0})
      (λ x y is. subst (λ (z : DescLevel). Fits (roll-Desc z)) is (fits_by (roll-Desc _) y (out-roll-Desc _))) (λ x y is. tt) (λ x y is. tt) (λ x y is. tt)

  tops_fit : (ds : List Desc) → tops_of ds ≤ schemas_of ds
  tops_fit [] = omega arith
  tops_fit (x ∷ ds) = omega (arith, top_fits x, schema_fits x, tops_fit ds, tops_cons x ds, schemas_cons x ds)

  -- an alternative's values, beside the tops of the others
  others_fit : (ds : List Desc) (x : Desc) → Contains ds x → tops_of ds + bare table x ≤ schemas_of ds + top_cost x
  others_fit [] x c = absurd (omega (arith, c.1))
  others_fit (y ∷ ds) x c = elim (contains_cases y ds x c) [
    | inl same ↦ omega (arith, ap (bare table) same, ap top_cost same, schema_fits y, tops_fit ds, tops_cons y ds, schemas_cons y ds)
    | inr later ↦ omega (arith, others_fit ds x later, top_fits y, schema_fits y, tops_cons y ds, schemas_cons y ds)
  ]

  one_schema : (ds : List Desc) (x : Desc) → Contains ds x → values (schema_json table x) ≤ schemas_of ds
  one_schema [] x c = absurd (omega (arith, c.1))
  one_schema (y ∷ ds) x c = elim (contains_cases y ds x c) [
    | inl same ↦ omega (arith, ap (λ d. values (schema_json table d)) same, schemas_cons y ds)
    | inr later ↦ omega (arith, one_schema ds x later, schemas_cons y ds)
  ]

-- at the top: what it leads to, the other does too, and its own top counts for the other's
pub record AtTop (table : List Definition) (y d : Desc) : Type 0 where
  pub reaches : (target : List ℕ) → Reaches table target d → Reaches table target y
  pub fewer : top_cost d ≤ top_cost y
  pub others : top_cost y + bare table d ≤ bare table y + top_cost d

abbrev pub IsBelow : List Definition → Desc → Desc → Type 0
IsBelow table y d = top_cost y + bare table d ≤ bare table y

abbrev pub IsInside : List Definition → Desc → Desc → Type 0
IsInside table y d = AtTop table y d ⊎ IsBelow table y d

module _ (table : List Definition) (y d : Desc) where
  option_inside : (x : Desc) → out-Desc d ≡ Desc-F.Option x → IsInside table y d → IsInside table y x
  option_inside x e (inl a) = let size = option_size table d x e in inl (record {
    reaches = λ target r. a.reaches target (through_option table x e target r);
    fewer = omega (arith, a.fewer, size.1);
    others = omega (arith, a.others, size.0, size.1);
  })
  option_inside x e (inr b) = let size = option_size table d x e in inr (omega (arith, b, size.0))

  list_inside : (x : Desc) (min max : _) → out-Desc d ≡ Desc-F.List x min max → IsInside table y d → IsInside table y x
  list_inside x min max e (inl a) = inr (omega (arith, a.others, top_at d _ e, list_size table d x min max e, schema_fits table x))
  list_inside x min max e (inr b) = inr (omega (arith, b, list_size table d x min max e, schema_fits table x))

  map_inside : (x : Desc) → out-Desc d ≡ Desc-F.Map x → IsInside table y d → IsInside table y x
  map_inside x e (inl a) = inr (omega (arith, a.others, top_at d _ e, map_size table d x e))
  map_inside x e (inr b) = inr (omega (arith, b, map_size table d x e))

  field_inside : (fs : List Field) (deny : _) (f : Field) → out-Desc d ≡ Desc-F.Struct fs deny → Contains fs f → IsInside table y d → IsInside table y f.desc
  field_inside fs deny f e c (inl a) = inr (omega (arith, a.others, top_at d _ e, field_size table d fs deny f e c, property_fits table f))
  field_inside fs deny f e c (inr b) = inr (omega (arith, b, field_size table d fs deny f e c, property_fits table f))

  payload_inside : (vs : List Variant) (v : Variant) (x : Desc) → out-Desc d ≡ Desc-F.External vs → Contains vs v → v.payload ≡ Some x → IsInside table y d → IsInside table y x
  payload_inside vs v x e c f (inl a) = inr (omega (arith, a.others, top_at d _ e, payload_size table d vs v x e c f, schema_fits table x))
  payload_inside vs v x e c f (inr b) = inr (omega (arith, b, payload_size table d vs v x e c f, schema_fits table x))

  variant_inside : (tag : List ℕ) (vs : List TaggedVariant) (v : TaggedVariant) (f : Field) → out-Desc d ≡ Desc-F.Tagged tag vs → Contains vs v → Contains (tagged_fields v) f → IsInside table y d → IsInside table y f.desc
  variant_inside tag vs v f e c k (inl a) = inr (omega (arith, a.others, top_at d _ e, variant_size table d tag vs v f e c k, property_fits table f))
  variant_inside tag vs v f e c k (inr b) = inr (omega (arith, b, variant_size table d tag vs v f e c k, property_fits table f))

  alternative_inside : (ds : List Desc) (x : Desc) → out-Desc d ≡ Desc-F.Untagged ds → Contains ds x → IsInside table y d → IsInside table y x
  alternative_inside ds x e c (inl a) = inl (record {
    reaches = λ target r. a.reaches target (through_alternative table ds x e c target r);
    fewer = omega (arith, a.fewer, top_at d _ e, one_top ds x c);
    others = omega (arith, a.others, top_at d _ e, choice_size table d ds e, others_fit table ds x c);
  })
  alternative_inside ds x e c (inr b) = inr (omega (arith, b, choice_size table d ds e, one_schema table ds x c, schema_fits table x))

pub stands_inside : (table : List Definition) (y d : Desc) → StandsIn y d → IsInside table y d
stands_inside table y d the_whole = inl (record { reaches = λ target r. r; fewer = omega arith; others = omega arith })
stands_inside table y d (in_option {d = p} x s e) = option_inside table y p x e (stands_inside table y p s)
stands_inside table y d (in_list {d = p} x min max s e) = list_inside table y p x min max e (stands_inside table y p s)
stands_inside table y d (in_map {d = p} x s e) = map_inside table y p x e (stands_inside table y p s)
stands_inside table y d (in_field {d = p} fs deny f s e c) = field_inside table y p fs deny f e c (stands_inside table y p s)
stands_inside table y d (in_payload {d = p} vs v x s e c f) = payload_inside table y p vs v x e c f (stands_inside table y p s)
stands_inside table y d (in_variant {d = p} tag vs v f s e c k) = variant_inside table y p tag vs v f e c k (stands_inside table y p s)
stands_inside table y d (in_alternative {d = p} ds x s e c) = alternative_inside table y p ds x e c (stands_inside table y p s)
