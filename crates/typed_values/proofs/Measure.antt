-- Why a walk along a descriptor ends: the value gets smaller, or fewer steps are left at it.
use Rattle.std.proofs.Common.{◌≡◌, ℕ, zero, suc, ◌+◌, ◌*◌, ◌<◌, ◌≤◌, List, [], ◌∷◌, Option, Some, None, refl, sym, ◌∙◌, ap, MatchOption, length, get_or, arith}
use Rattle.std.specs.Prelude.{⊤}
use denote.Param.Weighed.{most, at_most}
use Rattle.descriptors.specs.declared.desc.Desc.{Desc, out-Desc}
use Rattle.descriptors.specs.declared.desc.Desc.TheVariants.{Ref, Option as DescOption, Untagged, outs-Option, outs-Ref, outs-Untagged}
use Rattle.descriptors.specs.declared.desc.Desc.TheOpen.{Desc-F}
use Rattle.descriptors.specs.declared.table.Definition.{Definition}
use Rattle.descriptors.specs.Definitions.{definition}
use Rattle.typed_values.specs.Denotes.{room}
use Rattle.typed_values.specs.Resting.{EachRests, RestsBy, Rests}
use Rattle.typed_values.specs.Levels.{DescLevel}

abbrev pub steps_after : (Desc → ℕ) → Option Desc → ℕ
steps_after next None = 0
steps_after next (Some d) = suc (next d)

abbrev pub steps_by : List Definition → (Desc → ℕ) → DescLevel → ℕ
steps_by table next (Desc-F.Option d) = suc (next d)
steps_by table next (Desc-F.Ref name) = steps_after next (definition table name)
steps_by table next (Desc-F.Untagged ds) = suc (most next ds)
steps_by table next _ = 0

-- how many steps lead from a descriptor to one that is no reference, no option and no choice: at most n are counted
unfoldable pub steps : List Definition → ℕ → Desc → ℕ
steps table zero d = 0
steps table (suc n) d = steps_by table (steps table n) (out-Desc d)

module _ (n : ℕ) (next : Desc → ℕ) (h : (d : Desc) → next d ≤ n) where
  steps_after_at_most : (o : Option Desc) → steps_after next o ≤ suc n
  steps_after_at_most None = omega arith
  steps_after_at_most (Some d) = omega (arith, h d)

  most_at_most : (ds : List Desc) → most next ds ≤ n
  most_at_most [] = omega arith
  most_at_most (d ∷ ds) = omega (arith, h d, most_at_most ds)

  steps_by_at_most : (table : List Definition) (x : DescLevel) → steps_by table next x ≤ suc n
  steps_by_at_most table Desc-F.Any = omega arith
  steps_by_at_most table Desc-F.Never = omega arith
  steps_by_at_most table Desc-F.Null = omega arith
  steps_by_at_most table Desc-F.Bool = omega arith
  steps_by_at_most table Desc-F.Char = omega arith
  steps_by_at_most table (Desc-F.Int kind min max) = omega arith
  steps_by_at_most table (Desc-F.Text min max format) = omega arith
  steps_by_at_most table (Desc-F.Enumeration ns) = omega arith
  steps_by_at_most table (Desc-F.Option d) = omega (arith, h d)
  steps_by_at_most table (Desc-F.List d min max) = omega arith
  steps_by_at_most table (Desc-F.Map d) = omega arith
  steps_by_at_most table (Desc-F.Struct fs deny) = omega arith
  steps_by_at_most table (Desc-F.External vs) = omega arith
  steps_by_at_most table (Desc-F.Tagged tag vs) = omega arith
  steps_by_at_most table (Desc-F.Untagged ds) = omega (arith, most_at_most ds)
  steps_by_at_most table (Desc-F.Ref name) = steps_after_at_most (definition table name)

pub steps_at_most : (table : List Definition) (n : ℕ) (d : Desc) → steps table n d ≤ n
unfolding steps
steps_at_most table zero d = omega arith
steps_at_most table (suc n) d = steps_by_at_most n (steps table n) (steps_at_most table n) table (out-Desc d)

module _ (Next : Desc → Type 0) (f g : Desc → ℕ) (same : (d : Desc) → Next d → f d ≡ g d) where
  steps_after_same : (o : Option Desc) → MatchOption o ⊤ Next → steps_after f o ≡ steps_after g o
  steps_after_same None h = refl
  steps_after_same (Some d) h = ap suc (same d h)

  most_same : (ds : List Desc) → EachRests Next ds → most f ds ≡ most g ds
  most_same [] h = refl
  most_same (d ∷ ds) h = omega (arith, same d h.0, most_same ds h.1)

  steps_by_same : (table : List Definition) (x : DescLevel) → RestsBy table Next x → steps_by table f x ≡ steps_by table g x
  steps_by_same table Desc-F.Any h = refl
  steps_by_same table Desc-F.Never h = refl
  steps_by_same table Desc-F.Null h = refl
  steps_by_same table Desc-F.Bool h = refl
  steps_by_same table Desc-F.Char h = refl
  steps_by_same table (Desc-F.Int kind min max) h = refl
  steps_by_same table (Desc-F.Text min max format) h = refl
  steps_by_same table (Desc-F.Enumeration ns) h = refl
  steps_by_same table (Desc-F.Option d) h = ap suc (same d h)
  steps_by_same table (Desc-F.List d min max) h = refl
  steps_by_same table (Desc-F.Map d) h = refl
  steps_by_same table (Desc-F.Struct fs deny) h = refl
  steps_by_same table (Desc-F.External vs) h = refl
  steps_by_same table (Desc-F.Tagged tag vs) h = refl
  steps_by_same table (Desc-F.Untagged ds) h = ap suc (most_same ds h)
  steps_by_same table (Desc-F.Ref name) h = steps_after_same (definition table name) h

steps_enough : (table : List Definition) (n : ℕ) (d : Desc) → Rests table n d → steps table (suc n) d ≡ steps table n d
unfolding Rests steps
steps_enough table zero d h = absurd h
steps_enough table (suc n) d h = steps_by_same (Rests table n) (steps table (suc n)) (steps table n) (steps_enough table n) table (out-Desc d) h

-- the row of a descriptor, with no count
steps_row : (table : List Definition) (n : ℕ) (d : Desc) → Rests table n d → steps table n d ≡ steps_by table (steps table n) (out-Desc d)
unfolding Rests steps
steps_row table zero d h = absurd h
steps_row table (suc n) d h = steps_by_same (Rests table n) (steps table n) (steps table (suc n)) (λ e r. sym (steps_enough table n e r)) table (out-Desc d) h

-- a step leaves fewer
module _ (table : List Definition) (n : ℕ) (d : Desc) (h : Rests table n d) where
  pub option_steps : (x : Desc) → d ≡ DescOption x → steps table n d ≡ suc (steps table n x)
  option_steps x e = steps_row table n d h ∙ ap (steps_by table (steps table n)) (ap out-Desc e ∙ outs-Option x)

  pub ref_steps : (name : List ℕ) (x : Desc) → d ≡ Ref name → definition table name ≡ Some x → steps table n d ≡ suc (steps table n x)
  ref_steps name x e f =
      steps_row table n d h ∙ ap (steps_by table (steps table n)) (ap out-Desc e ∙ outs-Ref name) ∙ ap (steps_after (steps table n)) f

  pub untagged_steps : (ds : List Desc) → d ≡ Untagged ds → steps table n d ≡ suc (most (steps table n) ds)
  untagged_steps ds e = steps_row table n d h ∙ ap (steps_by table (steps table n)) (ap out-Desc e ∙ outs-Untagged ds)

-- the factor of a value's depth
abbrev pub stride : List Definition → Desc → ℕ
stride table whole = 4 + 2 * room table whole

-- a value of a size under one descriptor, under any, under one of some alternatives, and under none
module _ (table : List Definition) (whole : Desc) where
  unfoldable pub at_size : ℕ → Desc → ℕ
  at_size n d = n * stride table whole + suc (suc (2 * steps table (room table whole) d))

  unfoldable pub any_at_size : ℕ → ℕ
  any_at_size n = n * stride table whole + (3 + 2 * room table whole)

  unfoldable pub choice_at_size : ℕ → List Desc → ℕ
  choice_at_size n ds = n * stride table whole + suc (2 * suc (most (steps table (room table whole)) ds))

  unfoldable pub size_alone : ℕ → ℕ
  size_alone n = n * stride table whole

no_more_strides : (a b k : ℕ) → a ≤ b → a * k ≤ b * k
no_more_strides a b k p = grind arith

below_stride : (a b k r : ℕ) → a < b → r < k → a * k + r < b * k
below_stride a b k r p q = grind arith

module _ (table : List Definition) (whole : Desc) where
  pub alone-lt-at : (n : ℕ) (d : Desc) → suc (size_alone table whole n) < at_size table whole n d
  unfolding at_size size_alone
  alone-lt-at n d = omega arith

  pub at-lt-any : (n : ℕ) (d : Desc) → at_size table whole n d < any_at_size table whole n
  unfolding at_size any_at_size
  at-lt-any n d = omega (arith, steps_at_most table (room table whole) d)

  pub alone-lt-any : (n : ℕ) → suc (size_alone table whole n) < any_at_size table whole n
  unfolding any_at_size size_alone
  alone-lt-any n = omega arith

  pub any-lt-alone : (n m : ℕ) → n < m → any_at_size table whole n < size_alone table whole m
  unfolding any_at_size size_alone
  any-lt-alone n m h = below_stride n m (stride table whole) (3 + 2 * room table whole) h (omega arith)

  pub at-lt-alone : (n m : ℕ) (d : Desc) → n < m → at_size table whole n d < size_alone table whole m
  at-lt-alone n m d h = omega (arith, at-lt-any n d, any-lt-alone n m h)

  pub alone-le-alone : (n m : ℕ) → n ≤ m → size_alone table whole n ≤ size_alone table whole m
  unfolding size_alone
  alone-le-alone n m h = no_more_strides n m (stride table whole) h

  pub alone-lt-next : (n : ℕ) → suc (suc (size_alone table whole n)) < size_alone table whole (suc n)
  unfolding size_alone
  alone-lt-next n = omega arith

  module _ (n : ℕ) (d : Desc) (h : Rests table (room table whole) d) where
    pub option-lt : (x : Desc) → d ≡ DescOption x → suc (at_size table whole n x) < at_size table whole n d
    unfolding at_size
    option-lt x e = omega (arith, option_steps table (room table whole) d h x e)

    pub ref-lt : (name : List ℕ) (x : Desc) → d ≡ Ref name → definition table name ≡ Some x → at_size table whole n x < at_size table whole n d
    unfolding at_size
    ref-lt name x e f = omega (arith, ref_steps table (room table whole) d h name x e f)

    pub choice-lt-at : (ds : List Desc) → d ≡ Untagged ds → choice_at_size table whole n ds < at_size table whole n d
    unfolding at_size choice_at_size
    choice-lt-at ds e = omega (arith, untagged_steps table (room table whole) d h ds e)

  pub at-lt-choice : (n : ℕ) (ds : List Desc) (i : ℕ) (d : Desc) → i < length ds → d ≡ get_or ds i d → at_size table whole n d < choice_at_size table whole n ds
  unfolding at_size choice_at_size
  at-lt-choice n ds i d h e =
      let s : steps table (room table whole) d ≤ most (steps table (room table whole)) ds = rw e (at_most (steps table (room table whole)) ds i d h) in
      omega (arith, s)
