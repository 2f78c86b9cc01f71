-- The descriptor of configurations passes its checks beside a table without definitions.
use Rattle.std.proofs.Common.{◌≡◌, ◌≢◌, ℕ, Bool, true, false, List, [], ◌∷◌, map, Some, None, refl, sym, ap}
use Rattle.std.proofs.Common.{subst, ◌∙◌, ◌⊎◌, inl, inr, arith, codes}
use Rattle.std.specs.Prelude.{Contains, bytes_eq}
use Rattle.std.specs.List.{AllByRecursion}
use Rattle.std.proofs.lemmas.Bool.{cases_Bool}
use Rattle.std.proofs.lemmas.Slice.Eq.{bytes_eq-Decides}
use Rattle.schema_values.specs.Sound.{AreDistinct}
use Rattle.schema_values.specs.declared.json_value.Json.{Json}
use Rattle.schema_values.proofs.CallerLemmas.{contains_cases}
use Rattle.descriptors.specs.declared.desc.Desc.{Desc, out-Desc}
use Rattle.descriptors.specs.declared.desc.Desc.TheOpen.{Desc-F}
use Rattle.descriptors.specs.declared.desc.Desc.TheVariants as descs
use Rattle.descriptors.specs.declared.desc.Field.{Field}
use Rattle.descriptors.specs.declared.desc.Presence.TheVariants.{Required, Nullable, Skipped, Default}
use Rattle.descriptors.specs.declared.desc.TaggedVariant.{TaggedVariant}
use Rattle.descriptors.specs.Definitions.{field_name}
use Rattle.typed_values.specs.Causes.{SomePart}
use Rattle.typed_values.specs.Checks.{DescPasses, IsBadField, IsFieldOf, IsOption, IsPlainlyRight, TablePasses}
use Rattle.typed_values.specs.Checks.{TakesNull, any_value, null_itself, an_option, a_reference, an_alternative}
use Rattle.typed_values.specs.Checks.{are_bounds_right, default_misfits, is_empty_choice, lists_of_names, no_option}
use Rattle.typed_values.specs.Checks.{null_twice, of_struct, of_variant}
use Rattle.typed_values.specs.Levels.{DescLevel}
use Rattle.typed_values.specs.Parts.{StandsIn}
use Rattle.typed_values.specs.Reached.{IsUntagged, ReachesNoUntagged}
use Rattle.typed_values.proofs.CallerLemmas.{SomeChild, parts_at}
use Rattle.api_types.specs.Types.{IsTableOf}
use Rattle.tag_config.specs.Configurations.{configuration_desc, name_by, policy_field, stands, tags_field}
use Rattle.tag_config.specs.Details.{details_desc, docs_desc, text_desc}
use Rattle.tag_config.specs.Policies.{policy_desc, policy_names}

-- texts differ where the test of equal texts says so
differ : (text other : List ℕ) → bytes_eq text other ≡ false → text ≢ other
differ text other e is = let q : false ≡ true = sym e ∙ (bytes_eq-Decides text other).1 is in cc q

-- three texts differ where the tests say so
three_apart : (a b c : List ℕ) → bytes_eq a b ≡ false → bytes_eq a c ≡ false → bytes_eq b c ≡ false
    → AreDistinct (a ∷ b ∷ c ∷ [])
three_apart a b c first second third = ((differ a b first, (differ a c second, tt)), ((differ b c third, tt), (tt, tt)))

-- ---- what each one is

-- nothing is wrong with a descriptor itself, and it is no untagged union
record IsRight (d : Desc) : Type 0 where
  plainly : IsPlainlyRight [] d
  tagged : IsUntagged d → ⊥

-- it is not so
abbrev IsFlawed : Desc → Type 0
IsFlawed d = IsRight d → ⊥

-- nothing that stands in a descriptor is flawed
abbrev IsClean : Desc → Type 0
IsClean d = SomePart IsFlawed d → ⊥

clean_by : (d : Desc) (z : DescLevel) → out-Desc d ≡ z → IsRight d → (SomeChild (SomePart IsFlawed) z → ⊥) → IsClean d
clean_by d z e right none h = none ((parts_at IsFlawed d z e (λ flawed. flawed right)).0 h)

-- whether null may denote something
abbrev may_take_null : DescLevel → Bool
may_take_null Desc-F.Any = true
may_take_null Desc-F.Null = true
may_take_null (Desc-F.Option x) = true
may_take_null (Desc-F.Ref name) = true
may_take_null (Desc-F.Untagged ds) = true
may_take_null _ = false

no_null : (d : Desc) (z : DescLevel) → out-Desc d ≡ z → may_take_null z ≡ false → TakesNull [] d → ⊥
no_null d z e f (any_value h) = let q : false ≡ true = sym f ∙ ap may_take_null (sym e ∙ h) in cc q
no_null d z e f (null_itself h) = let q : false ≡ true = sym f ∙ ap may_take_null (sym e ∙ h) in cc q
no_null d z e f (an_option x h) = let q : false ≡ true = sym f ∙ ap may_take_null (sym e ∙ h) in cc q
no_null d z e f (a_reference name y h _ _) = let q : false ≡ true = sym f ∙ ap may_take_null (sym e ∙ h) in cc q
no_null d z e f (an_alternative ds x h _ _) = let q : false ≡ true = sym f ∙ ap may_take_null (sym e ∙ h) in cc q

-- a descriptor without fields, by its level
module _ (d : Desc) (z : DescLevel) (e : out-Desc d ≡ z) (names : AllByRecursion AreDistinct (lists_of_names z))
    (some : is_empty_choice z ≡ false) (ranges : are_bounds_right z ≡ true)
    (no_ref : (name : List ℕ) → z ≡ Desc-F.Ref name → ⊥) (once : (x : Desc) → z ≡ Desc-F.Option x → TakesNull [] x → ⊥)
    (no_tagged : (tag : List ℕ) (vs : List TaggedVariant) → z ≡ Desc-F.Tagged tag vs → ⊥)
    (no_untagged : (ds : List Desc) → z ≡ Desc-F.Untagged ds → ⊥)
    (fields : (f : Field) → IsFieldOf d f → IsBadField [] f → ⊥) where
  right_by : IsRight d
  right_by = record {
    plainly = record {
      names_distinct = λ h. h (subst (λ (y : DescLevel). AllByRecursion AreDistinct (lists_of_names y)) (sym e) names);
      defined = λ h. no_ref h.0 (sym e ∙ h.1);
      some_alternative = λ h. let q : false ≡ true = sym some ∙ sym (ap is_empty_choice e) ∙ h in cc q;
      null_once = λ h. once h.0 (sym e ∙ h.1) h.2;
      tags = λ h. no_tagged h.0 h.1 (sym e ∙ h.4);
      ranges = λ h. let q : true ≡ false = sym ranges ∙ sym (ap are_bounds_right e) ∙ h in cc q;
      presences = λ h. fields h.0 h.1 h.2;
    };
    tagged = λ h. no_untagged h.0 (sym e ∙ h.1);
  }

-- ---- those of configurations

truth_clean : IsClean descs.Bool
truth_clean =
    clean_by descs.Bool Desc-F.Bool descs.outs-Bool
    (right_by descs.Bool Desc-F.Bool descs.outs-Bool tt refl refl
    (λ name q. cc q) (λ x q t. cc q) (λ tag vs q. cc q) (λ ds q. cc q) no_fields)
    (λ c. c)
  where
    no_fields : (f : Field) → IsFieldOf descs.Bool f → IsBadField [] f → ⊥
    no_fields f (of_struct fs deny h _) bad =
        let q : Desc-F.Bool ≡ Desc-F.Struct fs deny = sym descs.outs-Bool ∙ h in cc q
    no_fields f (of_variant tag vs v h _ _) bad =
        let q : Desc-F.Bool ≡ Desc-F.Tagged tag vs = sym descs.outs-Bool ∙ h in cc q

abbrev text_level : DescLevel
text_level = Desc-F.Text None None None

text_is : out-Desc text_desc ≡ text_level
text_is = descs.outs-Text None None None

text_clean : IsClean text_desc
text_clean =
    clean_by text_desc text_level text_is
    (right_by text_desc text_level text_is tt refl refl
    (λ name q. cc q) (λ x q t. cc q) (λ tag vs q. cc q) (λ ds q. cc q) no_fields)
    (λ c. c)
  where
    no_fields : (f : Field) → IsFieldOf text_desc f → IsBadField [] f → ⊥
    no_fields f (of_struct fs deny h _) bad = let q : text_level ≡ Desc-F.Struct fs deny = sym text_is ∙ h in cc q
    no_fields f (of_variant tag vs v h _ _) bad = let q : text_level ≡ Desc-F.Tagged tag vs = sym text_is ∙ h in cc q

abbrev policy_level : DescLevel
policy_level = Desc-F.Enumeration policy_names

policy_is : out-Desc policy_desc ≡ policy_level
policy_is = descs.outs-Enumeration policy_names

policies_apart : AreDistinct (codes "Any" ∷ codes "AtLeastOne" ∷ codes "ExactlyOne" ∷ [])
policies_apart = three_apart (codes "Any") (codes "AtLeastOne") (codes "ExactlyOne") refl refl refl

policy_clean : IsClean policy_desc
policy_clean =
    clean_by policy_desc policy_level policy_is
    (right_by policy_desc policy_level policy_is (policies_apart, tt) refl refl
    (λ name q. cc q) (λ x q t. cc q) (λ tag vs q. cc q) (λ ds q. cc q) no_fields)
    (λ c. c)
  where
    no_fields : (f : Field) → IsFieldOf policy_desc f → IsBadField [] f → ⊥
    no_fields f (of_struct fs deny h _) bad = let q : policy_level ≡ Desc-F.Struct fs deny = sym policy_is ∙ h in cc q
    no_fields f (of_variant tag vs v h _ _) bad =
        let q : policy_level ≡ Desc-F.Tagged tag vs = sym policy_is ∙ h in cc q

module _ (x : Desc) where
  option_is : out-Desc (descs.Option x) ≡ Desc-F.Option x
  option_is = descs.outs-Option x

  option_clean : (TakesNull [] x → ⊥) → IsClean x → IsClean (descs.Option x)
  option_clean once clean =
      clean_by (descs.Option x) (Desc-F.Option x) option_is
      (right_by (descs.Option x) (Desc-F.Option x) option_is tt refl refl
      (λ name q. cc q) (λ y q t. let same : y ≡ x = cc q in once (subst (TakesNull []) same t))
      (λ tag vs q. cc q) (λ ds q. cc q) no_fields)
      clean
    where
      no_fields : (f : Field) → IsFieldOf (descs.Option x) f → IsBadField [] f → ⊥
      no_fields f (of_struct fs deny h _) bad =
          let q : Desc-F.Option x ≡ Desc-F.Struct fs deny = sym option_is ∙ h in cc q
      no_fields f (of_variant tag vs v h _ _) bad =
          let q : Desc-F.Option x ≡ Desc-F.Tagged tag vs = sym option_is ∙ h in cc q

  map_is : out-Desc (descs.Map x) ≡ Desc-F.Map x
  map_is = descs.outs-Map x

  map_clean : IsClean x → IsClean (descs.Map x)
  map_clean clean =
      clean_by (descs.Map x) (Desc-F.Map x) map_is
      (right_by (descs.Map x) (Desc-F.Map x) map_is tt refl refl
      (λ name q. cc q) (λ y q t. cc q) (λ tag vs q. cc q) (λ ds q. cc q) no_fields)
      clean
    where
      no_fields : (f : Field) → IsFieldOf (descs.Map x) f → IsBadField [] f → ⊥
      no_fields f (of_struct fs deny h _) bad = let q : Desc-F.Map x ≡ Desc-F.Struct fs deny = sym map_is ∙ h in cc q
      no_fields f (of_variant tag vs v h _ _) bad = let q : Desc-F.Map x ≡ Desc-F.Tagged tag vs = sym map_is ∙ h in cc q

-- ---- structs

-- a field that has to be there, or an option that may be null
abbrev IsGood : Field → Type 0
IsGood f = (f.presence ≡ Required) ⊎ ((f.presence ≡ Nullable) × IsOption f.desc)

good_field : (f : Field) → IsGood f → IsBadField [] f → ⊥
good_field f (inl r) (no_option p _) = let q : Required ≡ Nullable = sym r ∙ p in cc q
good_field f (inl r) (null_twice p _) = let q : Required ≡ Skipped = sym r ∙ p in cc q
good_field f (inl r) (default_misfits tree p _) = let q : Required ≡ Default tree = sym r ∙ p in cc q
good_field f (inr n) (no_option p none) = none n.1
good_field f (inr n) (null_twice p _) = let q : Nullable ≡ Skipped = sym n.0 ∙ p in cc q
good_field f (inr n) (default_misfits tree p _) = let q : Nullable ≡ Default tree = sym n.0 ∙ p in cc q

all_at : (P : Field → Type 0) (fs : List Field) → AllByRecursion P fs → (g : Field) → Contains fs g → P g
all_at P [] all g c = absurd (omega (arith, c.1))
all_at P (f ∷ fs) all g c =
    elim (contains_cases f fs g c) [ inl same ↦ subst P same all.0 | inr later ↦ all_at P fs all.1 g later ]

module _ (fs : List Field) where
  struct_is : out-Desc (descs.Struct fs false) ≡ Desc-F.Struct fs false
  struct_is = descs.outs-Struct fs false

  struct_clean : AreDistinct (map field_name fs) → AllByRecursion IsGood fs → AllByRecursion (λ f. IsClean f.desc) fs
      → IsClean (descs.Struct fs false)
  struct_clean names good clean =
      clean_by (descs.Struct fs false) (Desc-F.Struct fs false) struct_is
      (right_by (descs.Struct fs false) (Desc-F.Struct fs false) struct_is (names, tt) refl refl
      (λ name q. cc q) (λ y q t. cc q) (λ tag vs q. cc q) (λ ds q. cc q) good_fields)
      (λ c. all_at (λ f. IsClean f.desc) fs clean c.0 c.1 c.2)
    where
      good_fields : (f : Field) → IsFieldOf (descs.Struct fs false) f → IsBadField [] f → ⊥
      good_fields f (of_struct gs deny h c) bad =
          let q : Desc-F.Struct fs false ≡ Desc-F.Struct gs deny = sym struct_is ∙ h in
          let same : gs ≡ fs = cc q in
          good_field f (all_at IsGood fs good f (subst (λ (l : List Field). Contains l f) same c)) bad
      good_fields f (of_variant tag vs v h _ _) bad =
          let q : Desc-F.Struct fs false ≡ Desc-F.Tagged tag vs = sym struct_is ∙ h in cc q

text_once : TakesNull [] text_desc → ⊥
text_once = no_null text_desc text_level text_is refl

docs_clean : IsClean docs_desc
docs_clean =
    struct_clean _ ((differ (codes "description") (codes "url") refl, tt), (tt, tt))
    (inr (refl, (text_desc, descs.outs-Option text_desc)), (inl refl, tt))
    (option_clean text_desc text_once text_clean, (text_clean, tt))

details_clean : IsClean details_desc
details_clean =
    struct_clean _ ((differ (codes "description") (codes "external_docs") refl, tt), (tt, tt))
    (inr (refl, (text_desc, descs.outs-Option text_desc)), (inr (refl, (docs_desc, descs.outs-Option docs_desc)), tt)) (
      option_clean text_desc text_once text_clean,
      (option_clean docs_desc (no_null docs_desc _ (struct_is _) refl) docs_clean, tt),
    )

-- ---- configurations

configuration_clean : (policy tags : List ℕ) → AreDistinct (codes "allow_other_tags" ∷ policy ∷ tags ∷ [])
    → IsClean (configuration_desc policy tags)
configuration_clean policy tags names =
    struct_clean _ names (inl refl, (inl refl, (inl refl, tt)))
    (truth_clean, (policy_clean, (map_clean details_desc details_clean, tt)))

-- the names of the three fields differ where those of the policy and the tags are so
fields_apart : (policy tags : List ℕ) → bytes_eq (codes "allow_other_tags") policy ≡ false
    → bytes_eq (codes "allow_other_tags") tags ≡ false → bytes_eq policy tags ≡ false
    → AreDistinct (codes "allow_other_tags" ∷ policy ∷ tags ∷ [])
fields_apart policy tags = three_apart (codes "allow_other_tags") policy tags

-- the names of the three fields, whichever names stand
names_apart : (json : Json)
    → AreDistinct (codes "allow_other_tags" ∷ name_by policy_field json ∷ name_by tags_field json ∷ [])
names_apart json = elim (cases_Bool (stands policy_field.old json)) [
  | inl old ↦ elim (cases_Bool (stands tags_field.old json)) [
    | inl also ↦ rw (old, also) (fields_apart policy_field.old tags_field.old refl refl refl)
    | inr none ↦ rw (old, none) (fields_apart policy_field.old tags_field.new refl refl refl)
  ]
  | inr new ↦ elim (cases_Bool (stands tags_field.old json)) [
    | inl also ↦ rw (new, also) (fields_apart policy_field.new tags_field.old refl refl refl)
    | inr none ↦ rw (new, none) (fields_apart policy_field.new tags_field.new refl refl refl)
  ]
]

-- the descriptor by the new names
new_clean : IsClean (configuration_desc policy_field.new tags_field.new)
new_clean =
    configuration_clean policy_field.new tags_field.new (fields_apart policy_field.new tags_field.new refl refl refl)

-- ---- what follows

passes_of : (d : Desc) → IsClean d → DescPasses [] d
passes_of d clean x inside = record {
  names_distinct = λ h. clean (x, inside, λ right. right.plainly.names_distinct h);
  defined = λ h. clean (x, inside, λ right. right.plainly.defined h);
  some_alternative = λ h. clean (x, inside, λ right. right.plainly.some_alternative h);
  null_once = λ h. clean (x, inside, λ right. right.plainly.null_once h);
  tags = λ h. clean (x, inside, λ right. right.plainly.tags h);
  ranges = λ h. clean (x, inside, λ right. right.plainly.ranges h);
  presences = λ h. clean (x, inside, λ right. right.plainly.presences h);
}

no_untagged : (d : Desc) → IsClean d → (x : Desc) → StandsIn d x → IsUntagged x → ⊥
no_untagged d clean x inside h = clean (x, inside, λ right. right.tagged h)

nothing : {A : Type 0} (x : A) → Contains [] x → ⊥
nothing x c = absurd (omega (arith, c.1))

-- the table without definitions passes
pub empty_passes : TablePasses []
empty_passes = record {
  once = tt;
  named = λ e c. absurd (nothing e c);
  guarded = λ e c. absurd (nothing e c);
  each = λ e c. absurd (nothing e c);
}

pub configuration_passes : (json : Json)
    → DescPasses [] (configuration_desc (name_by policy_field json) (name_by tags_field json))
configuration_passes json =
    passes_of _ (configuration_clean (name_by policy_field json) (name_by tags_field json) (names_apart json))

pub new_passes : DescPasses [] (configuration_desc policy_field.new tags_field.new)
new_passes = passes_of _ new_clean

pub empty_table : (d : Desc) → DescPasses [] d → IsTableOf [] d []
empty_table d passes = record { holds = λ e c. absurd (nothing e c); table_passes = empty_passes; desc_passes = passes }

pub new_tabled : IsTableOf [] (configuration_desc policy_field.new tags_field.new) []
new_tabled = empty_table _ new_passes

pub new_reaches_no_untagged : ReachesNoUntagged [] (configuration_desc policy_field.new tags_field.new)
new_reaches_no_untagged = record {
  in_desc = no_untagged _ new_clean;
  in_reached = λ name e reached found. let q : None ≡ Some e = found in absurd (cc q);
}
