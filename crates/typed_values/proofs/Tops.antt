-- The descriptors at the top of one: under options and alternatives alone.
use Rattle.std.proofs.Common.{◌≡◌, ℕ, zero, suc, ◌+◌, ◌<◌, ◌≤◌, List, [], ◌∷◌, map, Option, Some, None, ◌∙◌, ap, subst, arith, ◌⊎◌, inl, inr, sum, length, slice_index_or}
use Rattle.std.specs.Prelude.{Contains}
use Rattle.std.proofs.lemmas.List.Sums.{sum_by-cons}
use Rattle.descriptors.specs.declared.desc.Desc.{Desc, out-Desc}
use Rattle.descriptors.specs.declared.desc.Desc.TheOpen.{Desc-F}
use Rattle.descriptors.specs.declared.desc.Desc.TheFolds.{fold-Desc, fold-Field, fold-TaggedVariant, fold-Variant, fold_out-Desc, fold_out-Field, fold_out-TaggedVariant, fold_out-Variant, fold-roll-Desc, map-Desc, ind-Desc}
use Rattle.descriptors.specs.declared.desc.Field.{Field}
use Rattle.descriptors.specs.declared.desc.TaggedVariant.{TaggedVariant}
use Rattle.descriptors.specs.declared.desc.Variant.{Variant}
use Rattle.descriptors.specs.declared.table.Definition.{Definition}
use Rattle.descriptors.specs.Definitions.{tagged_fields}
use Rattle.typed_values.specs.Denotes.{nodes, nodes_step, field_nodes, tagged_nodes, variant_nodes, nodes_of_table}
use Rattle.typed_values.specs.Guarded.{named_in_option, named_in_alternative, Reaches, at_once, through}
use Rattle.typed_values.specs.Parts.{StandsIn, the_whole, in_option, in_list, in_map, in_field, in_payload, in_variant, in_alternative}
use Rattle.typed_values.specs.Levels.{DescLevel}

abbrev pub top_step : Desc-F ℕ ℕ ℕ ℕ → ℕ
top_step (Desc-F.Option n) = suc n
top_step (Desc-F.Untagged ns) = suc (sum ns)
top_step _ = 1

-- how many there are
abbrev pub top : Desc → ℕ
top = fold-Desc ℕ ℕ ℕ ℕ top_step field_nodes tagged_nodes variant_nodes

unfoldable pub tops : List Definition → ℕ
tops [] = 0
tops (e ∷ es) = top e.desc + tops es

-- the descriptors in a field, in a tagged variant and in a variant
abbrev pub nodes_of_field : Field → ℕ
nodes_of_field = fold-Field ℕ ℕ ℕ ℕ nodes_step field_nodes tagged_nodes variant_nodes

abbrev pub nodes_of_tagged : TaggedVariant → ℕ
nodes_of_tagged = fold-TaggedVariant ℕ ℕ ℕ ℕ nodes_step field_nodes tagged_nodes variant_nodes

abbrev pub nodes_of_variant : Variant → ℕ
nodes_of_variant = fold-Variant ℕ ℕ ℕ ℕ nodes_step field_nodes tagged_nodes variant_nodes

-- how many there are in one level
abbrev pub nodes_level : DescLevel → ℕ
nodes_level z = nodes_step (map-Desc Desc Field TaggedVariant Variant ℕ ℕ ℕ ℕ nodes nodes_of_field nodes_of_tagged nodes_of_variant z)

abbrev pub top_level : DescLevel → ℕ
top_level z = top_step (map-Desc Desc Field TaggedVariant Variant ℕ ℕ ℕ ℕ top
    (fold-Field ℕ ℕ ℕ ℕ top_step field_nodes tagged_nodes variant_nodes)
    (fold-TaggedVariant ℕ ℕ ℕ ℕ top_step field_nodes tagged_nodes variant_nodes)
    (fold-Variant ℕ ℕ ℕ ℕ top_step field_nodes tagged_nodes variant_nodes) z)

module _ (d : Desc) (z : DescLevel) (e : out-Desc d ≡ z) where
  pub nodes_at : nodes d ≡ nodes_level z
  nodes_at = fold_out-Desc ℕ ℕ ℕ ℕ nodes_step field_nodes tagged_nodes variant_nodes d ∙ ap (λ (x : DescLevel). nodes_level x) e

  pub top_at : top d ≡ top_level z
  top_at = fold_out-Desc ℕ ℕ ℕ ℕ top_step field_nodes tagged_nodes variant_nodes d ∙ ap (λ (x : DescLevel). top_level x) e

pub map_sum : {A : Type 0} (g : A → ℕ) (xs : List A) (k : ℕ) (x : A) → k < length xs → slice_index_or xs k x ≡ x → g x ≤ sum (map g xs)
map_sum g [] k x h e = absurd (omega arith)
map_sum g (y ∷ ys) zero x h e = omega (arith, ap g e, sum_by-cons (λ n. n) (g y) (map g ys))
map_sum g (y ∷ ys) (suc k) x h e = let q : g x ≤ sum (map g ys) = map_sum g ys k x (omega arith) e in omega (arith, q, sum_by-cons (λ n. n) (g y) (map g ys))

positive_by : (x : Desc-F ℕ ℕ ℕ ℕ) → 1 ≤ top_step x
positive_by Desc-F.Any = omega arith
positive_by Desc-F.Never = omega arith
positive_by Desc-F.Null = omega arith
positive_by Desc-F.Bool = omega arith
positive_by Desc-F.Char = omega arith
positive_by (Desc-F.Int kind min max) = omega arith
positive_by (Desc-F.Text min max format) = omega arith
positive_by (Desc-F.Enumeration ns) = omega arith
positive_by (Desc-F.Option d) = omega arith
positive_by (Desc-F.List d min max) = omega arith
positive_by (Desc-F.Map d) = omega arith
positive_by (Desc-F.Struct fs deny) = omega arith
positive_by (Desc-F.External vs) = omega arith
positive_by (Desc-F.Tagged tag vs) = omega arith
positive_by (Desc-F.Untagged ds) = omega arith
positive_by (Desc-F.Ref name) = omega arith

pub top_positive : (d : Desc) → 1 ≤ top d
top_positive d = rw (fold_out-Desc ℕ ℕ ℕ ℕ top_step field_nodes tagged_nodes variant_nodes d) (positive_by _)

-- no more than there are descriptors
abbrev TopFits : Desc → Type 0
TopFits d = top d ≤ nodes d

abbrev FieldFits : Field → Type 0
FieldFits f = Unit {0}

abbrev TaggedFits : TaggedVariant → Type 0
TaggedFits v = Unit {0}

abbrev VariantFits : Variant → Type 0
VariantFits v = Unit {0}

-- one level, with these facts
abbrev FitsLevel : Type 0
FitsLevel = Desc-F ((d : Desc) × TopFits d) ((f : Field) × FieldFits f) ((v : TaggedVariant) × TaggedFits v) ((v : Variant) × VariantFits v)

abbrev firsts : FitsLevel → DescLevel
firsts =
    map-Desc ((d : Desc) × TopFits d) ((f : Field) × FieldFits f) ((v : TaggedVariant) × TaggedFits v) ((v : Variant) × VariantFits v)
    Desc Field TaggedVariant Variant (λ e. e.0) (λ e. e.0) (λ e. e.0) (λ e. e.0)

pairs_fit : (es : List ((d : Desc) × TopFits d)) → suc (sum (map top (map (λ e. e.0) es))) ≤ suc (sum (map nodes (map (λ e. e.0) es)))
pairs_fit [] = omega arith
pairs_fit (e ∷ es) = omega (arith, e.1, pairs_fit es, sum_by-cons (λ n. n) (top e.0) (map top (map (λ x. x.0) es)), sum_by-cons (λ n. n) (nodes e.0) (map nodes (map (λ x. x.0) es)))

fits_by : (y : FitsLevel) → top_level (firsts y) ≤ nodes_level (firsts y)
fits_by Desc-F.Any = omega arith
fits_by Desc-F.Never = omega arith
fits_by Desc-F.Null = omega arith
fits_by Desc-F.Bool = omega arith
fits_by Desc-F.Char = omega arith
fits_by (Desc-F.Int kind min max) = omega arith
fits_by (Desc-F.Text min max format) = omega arith
fits_by (Desc-F.Enumeration ns) = omega arith
fits_by (Desc-F.Option e) = omega (arith, e.1)
fits_by (Desc-F.List e min max) = omega arith
fits_by (Desc-F.Map e) = omega arith
fits_by (Desc-F.Struct fs deny) = omega arith
fits_by (Desc-F.External vs) = omega arith
fits_by (Desc-F.Tagged tag vs) = omega arith
fits_by (Desc-F.Untagged es) = pairs_fit es
fits_by (Desc-F.Ref name) = omega arith

pub top_fits : (d : Desc) → top d ≤ nodes d
top_fits = ind-Desc TopFits FieldFits TaggedFits VariantFits (λ x y is.
    let h = subst (λ (z : DescLevel). top_level z ≤ nodes_level z) is (fits_by y) in
    rw (fold-roll-Desc ℕ ℕ ℕ ℕ top_step field_nodes tagged_nodes variant_nodes x, fold-roll-Desc ℕ ℕ ℕ ℕ nodes_step field_nodes tagged_nodes variant_nodes x) h)
    (λ x y is. tt) (λ x y is. tt) (λ x y is. tt)

sums_fit : (xs : List Desc) → sum (map top xs) ≤ sum (map nodes xs)
sums_fit [] = omega arith
sums_fit (x ∷ xs) = omega (arith, top_fits x, sums_fit xs, sum_by-cons (λ n. n) (top x) (map top xs), sum_by-cons (λ n. n) (nodes x) (map nodes xs))

others_fit : (xs : List Desc) (k : ℕ) (x : Desc) → k < length xs → slice_index_or xs k x ≡ x → sum (map top xs) + nodes x ≤ sum (map nodes xs) + top x
others_fit [] k x h e = absurd (omega arith)
others_fit (y ∷ ys) zero x h e = rw e (omega (arith, sums_fit ys, sum_by-cons (λ n. n) (top x) (map top ys), sum_by-cons (λ n. n) (nodes x) (map nodes ys)))
others_fit (y ∷ ys) (suc k) x h e = omega (arith, others_fit ys k x (omega arith) e, top_fits y, sum_by-cons (λ n. n) (top y) (map top ys), sum_by-cons (λ n. n) (nodes y) (map nodes ys))

pub tops_fit : (es : List Definition) → tops es ≤ nodes_of_table es
unfolding tops
tops_fit [] = omega arith
tops_fit (e ∷ es) = omega (arith, top_fits e.desc, tops_fit es)

pub other_tops_fit : (es : List Definition) (k : ℕ) (e : Definition) → k < length es → slice_index_or es k e ≡ e → tops es + nodes e.desc ≤ nodes_of_table es + top e.desc
unfolding tops
other_tops_fit [] k e h q = absurd (omega arith)
other_tops_fit (x ∷ es) zero e h q = rw q (omega (arith, tops_fit es))
other_tops_fit (x ∷ es) (suc k) e h q = omega (arith, other_tops_fit es k e (omega arith) q, top_fits x.desc)

pub field_sum : (fs : List Field) (f : Field) → Contains fs f → nodes f.desc ≤ sum (map nodes_of_field fs)
field_sum fs f c =
    let q : nodes_of_field f ≡ nodes f.desc = fold_out-Field ℕ ℕ ℕ ℕ nodes_step field_nodes tagged_nodes variant_nodes f in
    omega (arith, q, map_sum nodes_of_field fs c.0 f c.1 c.2)

tagged_sum : (vs : List TaggedVariant) (v : TaggedVariant) (f : Field) → Contains vs v → Contains (tagged_fields v) f → nodes f.desc ≤ sum (map nodes_of_tagged vs)
tagged_sum vs v f c k =
    let q : nodes_of_tagged v ≡ sum (map nodes_of_field (tagged_fields v)) = fold_out-TaggedVariant ℕ ℕ ℕ ℕ nodes_step field_nodes tagged_nodes variant_nodes v in
    omega (arith, q, map_sum nodes_of_tagged vs c.0 v c.1 c.2, field_sum (tagged_fields v) f k)

abbrev variant_with : List ℕ → Option (List ℕ) → Option Desc → Variant
variant_with name description payload = record { name = name; description = description; payload = payload }

payload_nodes : (name : List ℕ) (description : Option (List ℕ)) (payload : Option Desc) (x : Desc) → payload ≡ Some x → nodes_of_variant (variant_with name description payload) ≡ nodes x
payload_nodes name description None x e = absurd (cc e)
payload_nodes name description (Some y) x e =
    let q : y ≡ x = cc e in
    fold_out-Variant ℕ ℕ ℕ ℕ nodes_step field_nodes tagged_nodes variant_nodes (variant_with name description (Some y)) ∙ ap nodes q

payload_sum : (vs : List Variant) (v : Variant) (x : Desc) → Contains vs v → v.payload ≡ Some x → nodes x ≤ sum (map nodes_of_variant vs)
payload_sum vs v x c e =
    let q : nodes_of_variant v ≡ nodes x = payload_nodes v.name v.description v.payload x e in
    omega (arith, q, map_sum nodes_of_variant vs c.0 v c.1 c.2)

module _ (table : List Definition) {d : Desc} where
  pub through_option : (x : Desc) → out-Desc d ≡ Desc-F.Option x → (target : List ℕ) → Reaches table target x → Reaches table target d
  through_option x e target (at_once n) = at_once (named_in_option x e n)
  through_option x e target (through name y n f r) = through name y (named_in_option x e n) f r

  pub through_alternative : (ds : List Desc) (x : Desc) → out-Desc d ≡ Desc-F.Untagged ds → Contains ds x → (target : List ℕ) → Reaches table target x → Reaches table target d
  through_alternative ds x e c target (at_once n) = at_once (named_in_alternative ds x e c n)
  through_alternative ds x e c target (through name y n f r) = through name y (named_in_alternative ds x e c n) f r

-- where a descriptor stands below another: at its top, where its own top counts for the other's, or deeper, beside the whole top
pub record AtTop (table : List Definition) (y d : Desc) : Type 0 where
  pub reaches : (target : List ℕ) → Reaches table target d → Reaches table target y
  pub fewer : top d ≤ top y
  pub others : top y + nodes d ≤ nodes y + top d

abbrev pub IsBelow : Desc → Desc → Type 0
IsBelow y d = top y + nodes d ≤ nodes y

abbrev pub IsInside : List Definition → Desc → Desc → Type 0
IsInside table y d = AtTop table y d ⊎ IsBelow y d

module _ (table : List Definition) (y d : Desc) where
  option_inside : (x : Desc) → out-Desc d ≡ Desc-F.Option x → IsInside table y d → IsInside table y x
  option_inside x e (inl a) = inl (record {
    reaches = λ target r. a.reaches target (through_option table x e target r);
    fewer = omega (arith, a.fewer, top_at d _ e);
    others = omega (arith, a.others, top_at d _ e, nodes_at d _ e);
  })
  option_inside x e (inr b) = inr (omega (arith, b, nodes_at d _ e))

  list_inside : (x : Desc) (min max : _) → out-Desc d ≡ Desc-F.List x min max → IsInside table y d → IsInside table y x
  list_inside x min max e (inl a) = inr (omega (arith, a.others, top_at d _ e, nodes_at d _ e))
  list_inside x min max e (inr b) = inr (omega (arith, b, nodes_at d _ e))

  map_inside : (x : Desc) → out-Desc d ≡ Desc-F.Map x → IsInside table y d → IsInside table y x
  map_inside x e (inl a) = inr (omega (arith, a.others, top_at d _ e, nodes_at d _ e))
  map_inside x e (inr b) = inr (omega (arith, b, nodes_at d _ e))

  field_inside : (fs : List Field) (deny : _) (f : Field) → out-Desc d ≡ Desc-F.Struct fs deny → Contains fs f → IsInside table y d → IsInside table y f.desc
  field_inside fs deny f e c (inl a) = inr (omega (arith, a.others, top_at d _ e, nodes_at d _ e, field_sum fs f c))
  field_inside fs deny f e c (inr b) = inr (omega (arith, b, nodes_at d _ e, field_sum fs f c))

  payload_inside : (vs : List Variant) (v : Variant) (x : Desc) → out-Desc d ≡ Desc-F.External vs → Contains vs v → v.payload ≡ Some x → IsInside table y d → IsInside table y x
  payload_inside vs v x e c p (inl a) = inr (omega (arith, a.others, top_at d _ e, nodes_at d _ e, payload_sum vs v x c p))
  payload_inside vs v x e c p (inr b) = inr (omega (arith, b, nodes_at d _ e, payload_sum vs v x c p))

  variant_inside : (tag : _) (vs : List TaggedVariant) (v : TaggedVariant) (f : Field) → out-Desc d ≡ Desc-F.Tagged tag vs → Contains vs v → Contains (tagged_fields v) f → IsInside table y d → IsInside table y f.desc
  variant_inside tag vs v f e c k (inl a) = inr (omega (arith, a.others, top_at d _ e, nodes_at d _ e, tagged_sum vs v f c k))
  variant_inside tag vs v f e c k (inr b) = inr (omega (arith, b, nodes_at d _ e, tagged_sum vs v f c k))

  alternative_inside : (ds : List Desc) (x : Desc) → out-Desc d ≡ Desc-F.Untagged ds → Contains ds x → IsInside table y d → IsInside table y x
  alternative_inside ds x e c (inl a) = inl (record {
    reaches = λ target r. a.reaches target (through_alternative table ds x e c target r);
    fewer = omega (arith, a.fewer, top_at d _ e, map_sum top ds c.0 x c.1 c.2);
    others = omega (arith, a.others, top_at d _ e, nodes_at d _ e, others_fit ds c.0 x c.1 c.2);
  })
  alternative_inside ds x e c (inr b) = inr (omega (arith, b, nodes_at d _ e, map_sum nodes ds c.0 x c.1 c.2))

pub stands_inside : (table : List Definition) (y d : Desc) → StandsIn y d → IsInside table y d
stands_inside table y d the_whole = inl (record { reaches = λ target r. r; fewer = omega arith; others = omega arith })
stands_inside table y d (in_option {d = p} x s e) = option_inside table y p x e (stands_inside table y p s)
stands_inside table y d (in_list {d = p} x min max s e) = list_inside table y p x min max e (stands_inside table y p s)
stands_inside table y d (in_map {d = p} x s e) = map_inside table y p x e (stands_inside table y p s)
stands_inside table y d (in_field {d = p} fs deny f s e c) = field_inside table y p fs deny f e c (stands_inside table y p s)
stands_inside table y d (in_payload {d = p} vs v x s e c q) = payload_inside table y p vs v x e c q (stands_inside table y p s)
stands_inside table y d (in_variant {d = p} tag vs v f s e c k) = variant_inside table y p tag vs v f e c k (stands_inside table y p s)
stands_inside table y d (in_alternative {d = p} ds x s e c) = alternative_inside table y p ds x e c (stands_inside table y p s)
