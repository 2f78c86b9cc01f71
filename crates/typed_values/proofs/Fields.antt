-- The names that a descriptor lists: whether they are distinct; and the names and presences of its fields.
use Rattle.std.proofs.Common.{◌≡◌, ◌≢◌, ◌↔◌, IsTrue, ℕ, Bool, true, false, not, refl, List, [], ◌∷◌, map, sym, ◌∙◌, ap, subst, arith, ◌⊎◌, inl, inr}
use Rattle.std.specs.Prelude.{Contains}
use Rattle.std.specs.List.{AllByRecursion}
use Rattle.schema_values.specs.Sound.{AreDistinct}
use Rattle.descriptors.specs.declared.desc.Desc.TheVariants as desc
use Rattle.descriptors.specs.declared.desc.Desc.{Desc, out-Desc}
use Rattle.descriptors.specs.declared.desc.Desc.TheOpen.{Desc-F}
use Rattle.descriptors.specs.declared.desc.Desc.TheViews.{roll-out-Desc, roll-Desc}
use Rattle.descriptors.specs.declared.desc.Field.{Field}
use Rattle.descriptors.specs.declared.desc.Named.{Named}
use Rattle.descriptors.specs.declared.desc.Presence.TheVariants.{Required, Nullable, Skipped, Default}
use Rattle.descriptors.specs.declared.desc.TaggedVariant.{TaggedVariant}
use Rattle.descriptors.specs.declared.desc.Variant.{Variant}
use Rattle.descriptors.specs.declared.table.Definition.{Definition}
use Rattle.descriptors.specs.declared.tree.Tree.{Tree}
use Rattle.descriptors.specs.Definitions.{field_name, listed_name, variant_name, tagged_name, tagged_fields}
use Rattle.typed_values.specs.Checks.{names_of_fields, lists_of_names, HasDoubledName, TakesNull, HasTagClash, IsFieldOf, of_struct, of_variant, IsOption, IsBadField, no_option, null_twice, default_misfits, HasBadPresence, IsPlainlyRight}
use Rattle.typed_values.specs.Fits.{Fits}
use Rattle.typed_values.specs.Levels.{DescLevel}
use Rattle.descriptors.proofs.CallerLemmas.{same_or_not}
use Rattle.schema_values.proofs.CallerLemmas.{contains_first, contains_later, contains_cases}

module _ {A : Type 0} (name_of : A → List ℕ) where
  others_of : (name : List ℕ) (xs : List A) → AllByRecursion (λ other. name ≢ other) (map name_of xs) → AllByRecursion (λ x. name ≢ name_of x) xs
  others_of name [] all = tt
  others_of name (x ∷ xs) all = (all.0, others_of name xs all.1)

  names_of : (name : List ℕ) (xs : List A) → AllByRecursion (λ x. name ≢ name_of x) xs → AllByRecursion (λ other. name ≢ other) (map name_of xs)
  names_of name [] all = tt
  names_of name (x ∷ xs) all = (all.0, names_of name xs all.1)

  pub AreDistinct-cons : (x : A) (xs : List A) → AreDistinct (map name_of (x ∷ xs)) ↔ (AllByRecursion (λ other. name_of x ≢ name_of other) xs × AreDistinct (map name_of xs))
  AreDistinct-cons x xs = (λ h. (others_of (name_of x) xs h.0, h.1), λ h. (names_of (name_of x) xs h.0, h.1))

new_or_not : (name : List ℕ) (names : List (List ℕ)) → AllByRecursion (λ other. name ≢ other) names ⊎ (AllByRecursion (λ other. name ≢ other) names → ⊥)
new_or_not name [] = inl tt
new_or_not name (other ∷ names) = elim (same_or_not name other) [
  | inl same ↦ inr (λ h. h.0 same)
  | inr ne ↦ elim (new_or_not name names) [ inl h ↦ inl (ne, h) | inr other ↦ inr (λ h. other h.1) ]
]

distinct_or_not : (names : List (List ℕ)) → AreDistinct names ⊎ (AreDistinct names → ⊥)
distinct_or_not [] = inl tt
distinct_or_not (name ∷ names) = elim (new_or_not name names) [
  | inl new ↦ elim (distinct_or_not names) [ inl h ↦ inl (new, h) | inr other ↦ inr (λ h. other h.1) ]
  | inr other ↦ inr (λ h. other h.0)
]

-- the names of each are distinct, or those of one are not
module _ {A : Type 0} (names_of : A → List (List ℕ)) where
  pub distinct_at : (xs : List A) (x : A) → AllByRecursion AreDistinct (map names_of xs) → Contains xs x → AreDistinct (names_of x)
  distinct_at [] x all c = absurd (omega (arith, c.1))
  distinct_at (y ∷ xs) x all c = elim (contains_cases y xs x c) [ inl q ↦ subst (λ (z : A). AreDistinct (names_of z)) q all.0 | inr k ↦ distinct_at xs x all.1 k ]

  all_distinct : (xs : List A) → ((x : A) → Contains xs x → (AreDistinct (names_of x) → ⊥) → ⊥) → AllByRecursion AreDistinct (map names_of xs)
  all_distinct [] each = tt
  all_distinct (x ∷ xs) each = (
    elim (distinct_or_not (names_of x)) [ inl h ↦ h | inr other ↦ absurd (each x (contains_first x xs) other) ],
    all_distinct xs (λ y c. each y (contains_later x xs y c)),
  )

  pub some_doubled : (xs : List A) (b : Bool) → IsTrue b ↔ ((x : A) × Contains xs x × (AreDistinct (names_of x) → ⊥)) → IsTrue b ↔ (AllByRecursion AreDistinct (map names_of xs) → ⊥)
  some_doubled xs true i = (λ h all. let (x, c, other) = i.0 refl in other (distinct_at xs x all c), λ h. refl)
  some_doubled xs false i = (λ h. absurd (cc h), λ never. absurd (never (all_distinct xs (λ x c other. let t : false ≡ true = i.1 (x, c, other) in cc t))))

each_or_not : (lists : List (List (List ℕ))) → AllByRecursion AreDistinct lists ⊎ (AllByRecursion AreDistinct lists → ⊥)
each_or_not [] = inl tt
each_or_not (names ∷ lists) = elim (distinct_or_not names) [
  | inl first ↦ elim (each_or_not lists) [ inl h ↦ inl (first, h) | inr other ↦ inr (λ h. other h.1) ]
  | inr other ↦ inr (λ h. other h.0)
]

-- each list of names of a level has distinct ones where nothing is wrong
pub names_apart : (table : List Definition) (d : Desc) (z : DescLevel) → out-Desc d ≡ z → IsPlainlyRight table d → AllByRecursion AreDistinct (lists_of_names z)
names_apart table d z e right =
    elim (each_or_not (lists_of_names z)) [ inl h ↦ h | inr other ↦ absurd (right.names_distinct (λ h. other (subst (λ (y : DescLevel). AllByRecursion AreDistinct (lists_of_names y)) e h))) ]

pub fields_distinct : (table : List Definition) (d : Desc) (fs : List Field) (deny : Bool) → out-Desc d ≡ Desc-F.Struct fs deny → IsPlainlyRight table d → AreDistinct (map field_name fs)
fields_distinct table d fs deny e right = (names_apart table d (Desc-F.Struct fs deny) e right).0

doubled_by : (d : Desc) (z : DescLevel) → out-Desc d ≡ z → HasDoubledName d ↔ (AllByRecursion AreDistinct (lists_of_names z) → ⊥)
doubled_by d z e = (
  λ h s. h (subst (λ (y : DescLevel). AllByRecursion AreDistinct (lists_of_names y)) (sym e) s),
  λ h s. h (subst (λ (y : DescLevel). AllByRecursion AreDistinct (lists_of_names y)) e s),
)

one_list : (d : Desc) (names : List (List ℕ)) (b : Bool) → HasDoubledName d ↔ (AllByRecursion AreDistinct (names ∷ []) → ⊥) → IsTrue b ↔ AreDistinct names → IsTrue (not b) ↔ HasDoubledName d
one_list d names true d_is i = (λ h. absurd (cc h), λ never. absurd (d_is.0 never (i.0 refl, tt)))
one_list d names false d_is i = (λ h. d_is.1 (λ s. let t : false ≡ true = i.1 s.0 in cc t), λ never. refl)

module _ (d : Desc) where
  pub HasDoubledName-struct : (fs : List Field) (deny : Bool) (b : Bool) → d ≡ desc.Struct fs deny → IsTrue b ↔ AreDistinct (map field_name fs) → IsTrue (not b) ↔ HasDoubledName d
  HasDoubledName-struct fs deny b e i = one_list d (map field_name fs) b (doubled_by d (Desc-F.Struct fs deny) (ap out-Desc e ∙ desc.outs-Struct fs deny)) i

  pub HasDoubledName-enumeration : (ns : List Named) (b : Bool) → d ≡ desc.Enumeration ns → IsTrue b ↔ AreDistinct (map listed_name ns) → IsTrue (not b) ↔ HasDoubledName d
  HasDoubledName-enumeration ns b e i = one_list d (map listed_name ns) b (doubled_by d (Desc-F.Enumeration ns) (ap out-Desc e ∙ desc.outs-Enumeration ns)) i

  pub HasDoubledName-external : (vs : List Variant) (b : Bool) → d ≡ desc.External vs → IsTrue b ↔ AreDistinct (map variant_name vs) → IsTrue (not b) ↔ HasDoubledName d
  HasDoubledName-external vs b e i = one_list d (map variant_name vs) b (doubled_by d (Desc-F.External vs) (ap out-Desc e ∙ desc.outs-External vs)) i

  pub HasDoubledName-tagged : (tag : List ℕ) (vs : List TaggedVariant) → d ≡ desc.Tagged tag vs → HasDoubledName d ↔ (AreDistinct (map tagged_name vs) × AllByRecursion AreDistinct (map names_of_fields vs) → ⊥)
  HasDoubledName-tagged tag vs e = doubled_by d (Desc-F.Tagged tag vs) (ap out-Desc e ∙ desc.outs-Tagged tag vs)

  -- of the other descriptors none lists names
  none_listed : ((fs deny : _) → d ≡ desc.Struct fs deny → ⊥) → ((ns : _) → d ≡ desc.Enumeration ns → ⊥) → ((vs : _) → d ≡ desc.External vs → ⊥) → ((tag vs : _) → d ≡ desc.Tagged tag vs → ⊥)
      → (z : DescLevel) → d ≡ roll-Desc z → AllByRecursion AreDistinct (lists_of_names z)
  none_listed s n x t (Desc-F.Struct fs deny) e = absurd (s fs deny (e ∙ desc.rolls-Struct fs deny))
  none_listed s n x t (Desc-F.Enumeration ns) e = absurd (n ns (e ∙ desc.rolls-Enumeration ns))
  none_listed s n x t (Desc-F.External vs) e = absurd (x vs (e ∙ desc.rolls-External vs))
  none_listed s n x t (Desc-F.Tagged tag vs) e = absurd (t tag vs (e ∙ desc.rolls-Tagged tag vs))
  none_listed s n x t _ e = tt

  pub none_doubled : ((fs deny : _) → d ≡ desc.Struct fs deny → ⊥) → ((ns : _) → d ≡ desc.Enumeration ns → ⊥) → ((vs : _) → d ≡ desc.External vs → ⊥) → ((tag vs : _) → d ≡ desc.Tagged tag vs → ⊥) → HasDoubledName d → ⊥
  none_doubled s n x t h = h (none_listed s n x t (out-Desc d) (sym (roll-out-Desc d)))

-- a field of a name, where not all have other names
pub named_field : (name : List ℕ) (fs : List Field) → (AllByRecursion (λ f. name ≢ field_name f) fs → ⊥) → (f : Field) × Contains fs f × (f.name ≡ name)
named_field name [] some = absurd (some tt)
named_field name (g ∷ fs) some = elim (same_or_not name g.name) [
  | inl same ↦ (g, contains_first g fs, sym same)
  | inr other ↦ let (f, c, e) = named_field name fs (λ h. some (other, h)) in (f, contains_later g fs f c, e)
]

pub other_named : (name : List ℕ) (fs : List Field) (f : Field) → AllByRecursion (λ f. name ≢ field_name f) fs → Contains fs f → f.name ≡ name → ⊥
other_named name [] f all c e = omega (arith, c.1)
other_named name (g ∷ fs) f all c e = elim (contains_cases g fs f c) [ inl q ↦ all.0 (sym (ap field_name q ∙ e)) | inr k ↦ other_named name fs f all.1 k e ]

pub HasTagClash-tagged : (d : Desc) (tag : List ℕ) (vs : List TaggedVariant) → d ≡ desc.Tagged tag vs → HasTagClash d ↔ ((v : TaggedVariant) × (f : Field) × Contains vs v × Contains (tagged_fields v) f × (f.name ≡ tag))
HasTagClash-tagged d tag vs e = let q = ap out-Desc e ∙ desc.outs-Tagged tag vs in (
  λ h. let w : Desc-F.Tagged h.0 h.1 ≡ Desc-F.Tagged tag vs = sym h.4 ∙ q in
      let t : h.0 ≡ tag = cc w in
      let u : h.1 ≡ vs = cc w in
      (h.2, h.3, subst (λ (ws : List TaggedVariant). Contains ws h.2) u h.5, h.6, h.7 ∙ t),
  λ h. (tag, vs, h.0, h.1, q, h.2, h.3, h.4),
)

-- the fields of a struct, or of a tagged enumeration
module _ {d : Desc} {f : Field} where
  from_struct : (fs : List Field) (deny : Bool) → out-Desc d ≡ Desc-F.Struct fs deny → IsFieldOf d f → Contains fs f
  from_struct fs deny q (of_struct gs other e c) =
      let w : Desc-F.Struct gs other ≡ Desc-F.Struct fs deny = sym e ∙ q in let u : gs ≡ fs = cc w in subst (λ (hs : List Field). Contains hs f) u c
  from_struct fs deny q (of_variant tag vs v e c k) = let w : Desc-F.Tagged tag vs ≡ Desc-F.Struct fs deny = sym e ∙ q in absurd (cc w)

  from_tagged : (tag : List ℕ) (vs : List TaggedVariant) → out-Desc d ≡ Desc-F.Tagged tag vs → IsFieldOf d f → (v : TaggedVariant) × Contains vs v × Contains (tagged_fields v) f
  from_tagged tag vs q (of_struct gs other e c) = let w : Desc-F.Struct gs other ≡ Desc-F.Tagged tag vs = sym e ∙ q in absurd (cc w)
  from_tagged tag vs q (of_variant other ws v e c k) =
      let w : Desc-F.Tagged other ws ≡ Desc-F.Tagged tag vs = sym e ∙ q in let u : ws ≡ vs = cc w in (v, subst (λ (us : List TaggedVariant). Contains us v) u c, k)

  no_field : ((fs deny : _) → d ≡ desc.Struct fs deny → ⊥) → ((tag vs : _) → d ≡ desc.Tagged tag vs → ⊥) → IsFieldOf d f → ⊥
  no_field s t (of_struct fs deny e c) = s fs deny (sym (roll-out-Desc d) ∙ ap roll-Desc e ∙ desc.rolls-Struct fs deny)
  no_field s t (of_variant tag vs v e c k) = t tag vs (sym (roll-out-Desc d) ∙ ap roll-Desc e ∙ desc.rolls-Tagged tag vs)

module _ (table : List Definition) (d : Desc) where
  pub HasBadPresence-struct : (fs : List Field) (deny : Bool) → d ≡ desc.Struct fs deny → HasBadPresence table d ↔ ((f : Field) × Contains fs f × IsBadField table f)
  HasBadPresence-struct fs deny e = let q = ap out-Desc e ∙ desc.outs-Struct fs deny in (
    λ h. (h.0, from_struct fs deny q h.1, h.2),
    λ h. (h.0, of_struct fs deny q h.1, h.2),
  )

  pub HasBadPresence-tagged : (tag : List ℕ) (vs : List TaggedVariant) → d ≡ desc.Tagged tag vs → HasBadPresence table d ↔ ((v : TaggedVariant) × (f : Field) × Contains vs v × Contains (tagged_fields v) f × IsBadField table f)
  HasBadPresence-tagged tag vs e = let q = ap out-Desc e ∙ desc.outs-Tagged tag vs in (
    λ h. let (v, c, k) = from_tagged tag vs q h.1 in (v, h.0, c, k, h.2),
    λ h. (h.1, of_variant tag vs h.0 q h.2 h.3, h.4),
  )

  pub no_bad_presence : ((fs deny : _) → d ≡ desc.Struct fs deny → ⊥) → ((tag vs : _) → d ≡ desc.Tagged tag vs → ⊥) → HasBadPresence table d → ⊥
  no_bad_presence s t h = no_field s t h.1

-- what is wrong with a field of each presence
module _ (table : List Definition) (f : Field) where
  pub required_right : f.presence ≡ Required → IsBadField table f → ⊥
  required_right q (no_option e none) = cc (q, e)
  required_right q (null_twice e null) = cc (q, e)
  required_right q (default_misfits tree e misfits) = cc (q, e)

  pub nullable_bad : f.presence ≡ Nullable → IsBadField table f → IsOption f.desc → ⊥
  nullable_bad q (no_option e none) = none
  nullable_bad q (null_twice e null) = absurd (cc (q, e))
  nullable_bad q (default_misfits tree e misfits) = absurd (cc (q, e))

  pub skipped_bad : f.presence ≡ Skipped → IsBadField table f → TakesNull table f.desc
  skipped_bad q (no_option e none) = absurd (cc (q, e))
  skipped_bad q (null_twice e null) = null
  skipped_bad q (default_misfits tree e misfits) = absurd (cc (q, e))

  pub default_bad : (tree : Tree) → f.presence ≡ Default tree → IsBadField table f → Fits table f.desc tree → ⊥
  default_bad tree q (no_option e none) = absurd (cc (q, e))
  default_bad tree q (null_twice e null) = absurd (cc (q, e))
  default_bad tree q (default_misfits other e misfits) = let w : Default other ≡ Default tree = sym e ∙ q in let t : other ≡ tree = cc w in subst (λ (s : Tree). Fits table f.desc s → ⊥) t misfits
