-- What stands in a descriptor: itself, and what stands in those that it is made of.
use Rattle.std.proofs.Common.{◌≡◌, ◌↔◌, List, Some, Bool, true, false, IsTrue, sym, ◌∙◌, ap, subst, refl, ◌⊎◌, inl, inr}
use Rattle.std.specs.Prelude.{Contains}
use Rattle.descriptors.specs.declared.desc.Desc.TheVariants as desc
use Rattle.descriptors.specs.declared.desc.Desc.TheViews.{roll-out-Desc, roll-Desc}
use Rattle.descriptors.specs.declared.desc.Desc.{Desc, out-Desc}
use Rattle.descriptors.specs.declared.desc.Desc.TheOpen.{Desc-F}
use Rattle.descriptors.specs.declared.desc.Field.{Field}
use Rattle.descriptors.specs.declared.desc.TaggedVariant.{TaggedVariant}
use Rattle.descriptors.specs.declared.desc.Variant.{Variant}
use Rattle.typed_values.specs.declared.check.TableError.{TableError}
use Rattle.typed_values.specs.declared.check.TableError.TheVariants.{BadRange}
use Rattle.descriptors.specs.declared.table.Definition.{Definition}
use Rattle.descriptors.specs.Definitions.{tagged_fields}
use Rattle.typed_values.specs.Parts.{StandsIn, the_whole, in_option, in_list, in_map, in_field, in_payload, in_variant, in_alternative}
use Rattle.typed_values.specs.Causes.{AppliesToDesc, SomePart}
use Rattle.typed_values.specs.Lengths.{HasShortLengths}
use Rattle.typed_values.specs.Levels.{DescLevel}

pub untrue : {P : Type 0} {b : Bool} → IsTrue b ↔ P → b ≡ false → P → ⊥
untrue i e p = let q : false ≡ true = sym e ∙ i.1 p in cc q

-- an error does not apply to a descriptor, and its lengths are short if the error is of ranges
pub record IsClear (table : List Definition) (error : TableError) (d : Desc) : Type 0 where
  pub none : AppliesToDesc table d error → ⊥
  pub short : error ≡ BadRange → HasShortLengths d

pub clear_of : (table : List Definition) (error : TableError) (d : Desc) (b : Bool) → IsTrue b ↔ AppliesToDesc table d error → (error ≡ BadRange → b ≡ false → HasShortLengths d) → b ≡ false → IsClear table error d
clear_of table error d b told lengths e = record { none = untrue told e; short = λ is. lengths is e }

-- a fact holds of one of those that a level is made of
abbrev pub SomeChild : (Desc → Type 0) → DescLevel → Type 0
SomeChild Q (Desc-F.Option x) = Q x
SomeChild Q (Desc-F.List x min max) = Q x
SomeChild Q (Desc-F.Map x) = Q x
SomeChild Q (Desc-F.Struct fs deny) = (f : Field) × Contains fs f × Q f.desc
SomeChild Q (Desc-F.External vs) = (v : Variant) × (x : Desc) × Contains vs v × (v.payload ≡ Some x) × Q x
SomeChild Q (Desc-F.Tagged tag vs) = (v : TaggedVariant) × (f : Field) × Contains vs v × Contains (tagged_fields v) f × Q f.desc
SomeChild Q (Desc-F.Untagged ds) = (d : Desc) × Contains ds d × Q d
SomeChild Q _ = ⊥

child_map : (Q R : Desc → Type 0) → ((x : Desc) → Q x → R x) → (z : DescLevel) → SomeChild Q z → SomeChild R z
child_map Q R f Desc-F.Any c = c
child_map Q R f Desc-F.Never c = c
child_map Q R f Desc-F.Null c = c
child_map Q R f Desc-F.Bool c = c
child_map Q R f Desc-F.Char c = c
child_map Q R f (Desc-F.Int kind min max) c = c
child_map Q R f (Desc-F.Text min max format) c = c
child_map Q R f (Desc-F.Enumeration ns) c = c
child_map Q R f (Desc-F.Option x) c = f x c
child_map Q R f (Desc-F.List x min max) c = f x c
child_map Q R f (Desc-F.Map x) c = f x c
child_map Q R f (Desc-F.Struct fs deny) c = (c.0, c.1, f c.0.desc c.2)
child_map Q R f (Desc-F.External vs) c = (c.0, c.1, c.2, c.3, f c.1 c.4)
child_map Q R f (Desc-F.Tagged tag vs) c = (c.0, c.1, c.2, c.3, f c.1.desc c.4)
child_map Q R f (Desc-F.Untagged ds) c = (c.0, c.1, f c.0 c.2)
child_map Q R f (Desc-F.Ref name) c = c

pub stands_through : {a b c : Desc} → StandsIn a b → StandsIn b c → StandsIn a c
stands_through s the_whole = s
stands_through s (in_option x t e) = in_option x (stands_through s t) e
stands_through s (in_list x min max t e) = in_list x min max (stands_through s t) e
stands_through s (in_map x t e) = in_map x (stands_through s t) e
stands_through s (in_field fs deny f t e c) = in_field fs deny f (stands_through s t) e c
stands_through s (in_payload vs v x t e c p) = in_payload vs v x (stands_through s t) e c p
stands_through s (in_variant tag vs v f t e c k) = in_variant tag vs v f (stands_through s t) e c k
stands_through s (in_alternative ds x t e c) = in_alternative ds x (stands_through s t) e c

-- the first step on the way
Step : Desc → Desc → Type 0
Step whole d = (whole ≡ d) ⊎ SomeChild (λ x. StandsIn x d) (out-Desc whole)

one_step : (whole p d : Desc) → ((x : Desc) → StandsIn x p → StandsIn x d) → ((z : DescLevel) → out-Desc p ≡ z → SomeChild (λ x. StandsIn x d) z) → Step whole p → Step whole d
unfolding Step
one_step whole p d further here (inl q) = inr (here (out-Desc whole) (ap out-Desc (sym q)))
one_step whole p d further here (inr c) = inr (child_map (λ x. StandsIn x p) (λ x. StandsIn x d) further (out-Desc whole) c)

first_step : (whole d : Desc) → StandsIn whole d → Step whole d
unfolding Step
first_step whole d the_whole = inl refl
first_step whole d (in_option {d = p} x s e) =
    one_step whole p x (λ y t. in_option x t e) (λ z q. subst (SomeChild (λ y. StandsIn y x)) (sym e ∙ q) the_whole) (first_step whole p s)
first_step whole d (in_list {d = p} x min max s e) =
    one_step whole p x (λ y t. in_list x min max t e) (λ z q. subst (SomeChild (λ y. StandsIn y x)) (sym e ∙ q) the_whole) (first_step whole p s)
first_step whole d (in_map {d = p} x s e) =
    one_step whole p x (λ y t. in_map x t e) (λ z q. subst (SomeChild (λ y. StandsIn y x)) (sym e ∙ q) the_whole) (first_step whole p s)
first_step whole d (in_field {d = p} fs deny f s e c) =
    one_step whole p f.desc (λ y t. in_field fs deny f t e c) (λ z q. subst (SomeChild (λ y. StandsIn y f.desc)) (sym e ∙ q) (f, c, the_whole)) (first_step whole p s)
first_step whole d (in_payload {d = p} vs v x s e c q) =
    one_step whole p x (λ y t. in_payload vs v x t e c q) (λ z h. subst (SomeChild (λ y. StandsIn y x)) (sym e ∙ h) (v, x, c, q, the_whole)) (first_step whole p s)
first_step whole d (in_variant {d = p} tag vs v f s e c k) =
    one_step whole p f.desc (λ y t. in_variant tag vs v f t e c k) (λ z q. subst (SomeChild (λ y. StandsIn y f.desc)) (sym e ∙ q) (v, f, c, k, the_whole)) (first_step whole p s)
first_step whole d (in_alternative {d = p} ds x s e c) =
    one_step whole p x (λ y t. in_alternative ds x t e c) (λ z q. subst (SomeChild (λ y. StandsIn y x)) (sym e ∙ q) (x, c, the_whole)) (first_step whole p s)

-- it is none of the forms that are made of others
pub record IsAlone (d : Desc) : Type 0 where
  pub no_option : (x : _) → d ≡ desc.Option x → ⊥
  pub no_list : (x min max : _) → d ≡ desc.List x min max → ⊥
  pub no_map : (x : _) → d ≡ desc.Map x → ⊥
  pub no_struct : (fs deny : _) → d ≡ desc.Struct fs deny → ⊥
  pub no_external : (vs : _) → d ≡ desc.External vs → ⊥
  pub no_tagged : (tag vs : _) → d ≡ desc.Tagged tag vs → ⊥
  pub no_untagged : (ds : _) → d ≡ desc.Untagged ds → ⊥

module _ (P : Desc → Type 0) (d : Desc) where
  pub part_here : P d → SomePart P d
  part_here p = (d, the_whole, p)

  part_above : (z : DescLevel) → out-Desc d ≡ z → SomeChild (SomePart P) z → SomePart P d
  part_above Desc-F.Any e c = absurd c
  part_above Desc-F.Never e c = absurd c
  part_above Desc-F.Null e c = absurd c
  part_above Desc-F.Bool e c = absurd c
  part_above Desc-F.Char e c = absurd c
  part_above (Desc-F.Int kind min max) e c = absurd c
  part_above (Desc-F.Text min max format) e c = absurd c
  part_above (Desc-F.Enumeration ns) e c = absurd c
  part_above (Desc-F.Option x) e c = (c.0, stands_through (in_option x the_whole e) c.1, c.2)
  part_above (Desc-F.List x min max) e c = (c.0, stands_through (in_list x min max the_whole e) c.1, c.2)
  part_above (Desc-F.Map x) e c = (c.0, stands_through (in_map x the_whole e) c.1, c.2)
  part_above (Desc-F.Struct fs deny) e c = (c.2.0, stands_through (in_field fs deny c.0 the_whole e c.1) c.2.1, c.2.2)
  part_above (Desc-F.External vs) e c = (c.4.0, stands_through (in_payload vs c.0 c.1 the_whole e c.2 c.3) c.4.1, c.4.2)
  part_above (Desc-F.Tagged tag vs) e c = (c.4.0, stands_through (in_variant tag vs c.0 c.1 the_whole e c.2 c.3) c.4.1, c.4.2)
  part_above (Desc-F.Untagged ds) e c = (c.2.0, stands_through (in_alternative ds c.0 the_whole e c.1) c.2.1, c.2.2)
  part_above (Desc-F.Ref name) e c = absurd c

  part_below_by : (x : Desc) → P x → (P d → ⊥) → Step d x → SomeChild (SomePart P) (out-Desc d)
  unfolding Step
  part_below_by x p never (inl q) = absurd (never (subst P (sym q) p))
  part_below_by x p never (inr c) = child_map (λ y. StandsIn y x) (SomePart P) (λ y s. (x, s, p)) (out-Desc d) c

  part_below : (P d → ⊥) → SomePart P d → SomeChild (SomePart P) (out-Desc d)
  part_below never h = part_below_by h.0 h.2 never (first_step d h.0 h.1)

  pub parts_at : (z : DescLevel) → out-Desc d ≡ z → (P d → ⊥) → SomePart P d ↔ SomeChild (SomePart P) z
  parts_at z e never = (λ h. subst (SomeChild (SomePart P)) e (part_below never h), part_above z e)

  all_parts_by : P d → ((x : Desc) → SomeChild (λ y. StandsIn y x) (out-Desc d) → P x) → (x : Desc) → Step d x → P x
  unfolding Step
  all_parts_by here below x (inl q) = subst P q here
  all_parts_by here below x (inr c) = below x c

  -- what holds of it, and of all that stands in those that it is made of, holds of all that stands in it
  pub all_parts : (z : DescLevel) → out-Desc d ≡ z → P d → ((x : Desc) → SomeChild (λ y. StandsIn y x) z → P x) → (x : Desc) → StandsIn d x → P x
  all_parts z e here below x s = all_parts_by here (λ w c. below w (subst (SomeChild (λ y. StandsIn y w)) e c)) x (first_step d x s)

  rolled : (z : DescLevel) → out-Desc d ≡ z → d ≡ roll-Desc z
  rolled z e = sym (roll-out-Desc d) ∙ ap roll-Desc e

  no_child : (Q : Desc → Type 0) → IsAlone d → (z : DescLevel) → out-Desc d ≡ z → SomeChild Q z → ⊥
  no_child Q a Desc-F.Any e c = c
  no_child Q a Desc-F.Never e c = c
  no_child Q a Desc-F.Null e c = c
  no_child Q a Desc-F.Bool e c = c
  no_child Q a Desc-F.Char e c = c
  no_child Q a (Desc-F.Int kind min max) e c = c
  no_child Q a (Desc-F.Text min max format) e c = c
  no_child Q a (Desc-F.Enumeration ns) e c = c
  no_child Q a (Desc-F.Option x) e c = a.no_option x (rolled (Desc-F.Option x) e ∙ desc.rolls-Option x)
  no_child Q a (Desc-F.List x min max) e c = a.no_list x min max (rolled (Desc-F.List x min max) e ∙ desc.rolls-List x min max)
  no_child Q a (Desc-F.Map x) e c = a.no_map x (rolled (Desc-F.Map x) e ∙ desc.rolls-Map x)
  no_child Q a (Desc-F.Struct fs deny) e c = a.no_struct fs deny (rolled (Desc-F.Struct fs deny) e ∙ desc.rolls-Struct fs deny)
  no_child Q a (Desc-F.External vs) e c = a.no_external vs (rolled (Desc-F.External vs) e ∙ desc.rolls-External vs)
  no_child Q a (Desc-F.Tagged tag vs) e c = a.no_tagged tag vs (rolled (Desc-F.Tagged tag vs) e ∙ desc.rolls-Tagged tag vs)
  no_child Q a (Desc-F.Untagged ds) e c = a.no_untagged ds (rolled (Desc-F.Untagged ds) e ∙ desc.rolls-Untagged ds)
  no_child Q a (Desc-F.Ref name) e c = c

  pub none_within : (P d → ⊥) → IsAlone d → SomePart P d → ⊥
  none_within never a h = no_child (SomePart P) a (out-Desc d) refl (part_below never h)

  pub all_within : P d → IsAlone d → (x : Desc) → StandsIn d x → P x
  all_within here a = all_parts (out-Desc d) refl here (λ x c. absurd (no_child (λ y. StandsIn y x) a (out-Desc d) refl c))
