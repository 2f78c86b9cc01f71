-- The first of the causes that is told, found place by place.
use Rattle.std.proofs.Common.{◌≡◌, ℕ, ◌+◌, ◌<◌, List, length, take, get_or, refl, subst, arith}
use Rattle.std.specs.Prelude.{All, Contains}
use Rattle.std.proofs.lemmas.List.{take_all}
use Rattle.std.proofs.lemmas.List.Elements.{All-contains}
use Rattle.handler_shapes.specs.ShapeLengths.{ShapeHasShortLengths}
use Rattle.api_declarations.specs.Values.{DeclarationValue}
use Rattle.tag_config.specs.Configurations.{Configuration}
use Rattle.endpoint_parameters.proofs.CallerLemmas.{first_at}
use Rattle.api_registration.specs.declared.cause.RegisterCause.{RegisterCause}
use Rattle.api_registration.specs.declared.cause.RegisterCause.TheVariants as cause
use Rattle.api_registration.specs.Registering.{causes, Clears, Stands, Tells, IsFirstTold, MayRegister}

-- a cause does not stand; where the types are supported, lengths have 32 bits
pub record IsPassed (config : Configuration) (before : List DeclarationValue) (e : DeclarationValue) (c : RegisterCause) : Type 0 where
  pub not_told : ¬ Stands config before e c
  pub clear : Clears e c
  pub lengths : c ≡ cause.UnsupportedSchema → ShapeHasShortLengths e.shape

module _ (config : Configuration) (before : List DeclarationValue) (e : DeclarationValue) where
  -- the cause at a place is told, and none before it stands
  pub told_at : (place : ℕ) (d : RegisterCause) (message : List ℕ) → place < length causes → All (IsPassed config before e) (take place causes)
      → Tells config before e (get_or causes place d) message → IsFirstTold config before e (get_or causes place d) message
  told_at place d message inside passed told = record {
    first = first_at (Stands config before e) causes place d inside (λ k other inside_too. (passed k other inside_too).not_told) (message, told);
    is_told = told;
  }

  -- each cause stands in the order
  each_in_order : (c : RegisterCause) → Contains causes c
  each_in_order cause.AtLeastOneTag = (0, omega arith, refl)
  each_in_order cause.ExactlyOneTag = (1, omega arith, refl)
  each_in_order cause.InvalidTag = (2, omega arith, refl)
  each_in_order cause.BadTemplate = (3, omega arith, refl)
  each_in_order cause.BadMethod = (4, omega arith, refl)
  each_in_order cause.PathMismatch = (5, omega arith, refl)
  each_in_order cause.PathNotRequired = (6, omega arith, refl)
  each_in_order cause.NotScalar = (7, omega arith, refl)
  each_in_order cause.NotStringList = (8, omega arith, refl)
  each_in_order cause.QueryAndPath = (9, omega arith, refl)
  each_in_order cause.DoubledParameter = (10, omega arith, refl)
  each_in_order cause.BadHeaderName = (11, omega arith, refl)
  each_in_order cause.VisibleWildcard = (12, omega arith, refl)
  each_in_order cause.UnsupportedSchema = (13, omega arith, refl)
  each_in_order cause.TwoBodies = (14, omega arith, refl)
  each_in_order cause.BadBodyForm = (15, omega arith, refl)
  each_in_order cause.BadPagination = (16, omega arith, refl)
  each_in_order cause.BadSuccessCode = (17, omega arith, refl)
  each_in_order cause.NoErrorSchema = (18, omega arith, refl)
  each_in_order cause.PathClash = (19, omega arith, refl)
  each_in_order cause.DefinitionClash = (20, omega arith, refl)

  module _ (place : ℕ) (end : length causes < place + 1) (passed : All (IsPassed config before e) (take place causes)) where
    each_passed : (c : RegisterCause) → IsPassed config before e c
    each_passed c =
        All-contains (IsPassed config before e) causes c (subst (All (IsPassed config before e)) (take_all place causes (omega (arith, end))) passed) (each_in_order c)

    -- at the end none stands
    pub may_register : MayRegister config before e
    may_register = record { none = λ c. (each_passed c).not_told; clear = λ c. (each_passed c).clear }

    pub short_lengths : ShapeHasShortLengths e.shape
    short_lengths = (each_passed cause.UnsupportedSchema).lengths refl
