-- What some slots are given, one behind the other.
use Rattle.std.proofs.Common.{◌≡◌, ℕ, ◌+◌, ◌<◌, ◌≤◌, List, [], ◌∷◌, ◌++◌, length, drop, get_or, refl, sym, ◌∙◌, ap}
use Rattle.std.proofs.lemmas.List.{drop_more}
use Rattle.std.proofs.Math.ListN.{drop_of_length-le}
use Rattle.std.specs.declared.result.Result.TheVariants.{Ok, Err}
use Rattle.handler_shapes.specs.declared.slot.Slot.{Slot}
use Rattle.handler_shapes.specs.declared.arguments.Arg.{Arg}
use Rattle.api_extract.specs.declared.extract_error.ExtractError.{ExtractError}
use Rattle.api_extract.specs.declared.extract_error.ExtractError.TheVariants as errors
use Rattle.api_extract.specs.Answers.{IsGiven}
use Rattle.api_extract.specs.Denotes.{GivenArgs, arg_before, before_args, args_by}
use Rattle.api_extract.specs.Refusals.{GivenArg}

-- arguments before what others are given
abbrev pub args_before : List Arg → GivenArgs → GivenArgs
args_before [] rest = rest
args_before (arg ∷ args) rest = arg_before arg (args_before args rest)

-- of two errors the first one is told
abbrev pub behind : GivenArgs → GivenArgs → GivenArgs
behind (Ok args) rest = args_before args rest
behind (Err error) rest = Err error

before_behind : (one : GivenArg) (some rest : GivenArgs)
    → before_args one (behind some rest) ≡ behind (before_args one some) rest
before_behind (Ok arg) (Ok args) rest = refl
before_behind (Ok arg) (Err error) rest = refl
before_behind (Err error) some rest = refl

module _ (given : Slot → GivenArg) where
  pub args_joined : (front rest : List Slot)
      → args_by given (front ++ rest) ≡ behind (args_by given front) (args_by given rest)
  args_joined [] rest = refl
  args_joined (slot ∷ front) rest =
      ap (before_args (given slot)) (args_joined front rest)
      ∙ before_behind (given slot) (args_by given front) (args_by given rest)

  pub one_arg : (slot : Slot) (arg : Arg) → given slot ≡ Ok arg → args_by given (slot ∷ []) ≡ Ok (arg ∷ [])
  one_arg slot arg e = ap (λ (o : GivenArg). before_args o (Ok [])) e

  pub one_error : (slot : Slot) (error : ExtractError) → given slot ≡ Err error → args_by given (slot ∷ []) ≡ Err error
  one_error slot error e = ap (λ (o : GivenArg). before_args o (Ok [])) e

pub all_before : (args more : List Arg) → args_before args (Ok more) ≡ Ok (args ++ more)
all_before [] more = refl
all_before (arg ∷ args) more = ap (arg_before arg) (all_before args more)

pub error_behind : (args : List Arg) (error : ExtractError) → args_before args (Err error) ≡ Err error
error_behind [] error = refl
error_behind (arg ∷ args) error = ap (arg_before arg) (error_behind args error)

pub none_behind : (args : List Arg) → args_before args (Ok []) ≡ Ok args
none_behind [] = refl
none_behind (arg ∷ args) = ap (arg_before arg) (none_behind args)

one_more : (args : List Arg) (arg : Arg) (rest : GivenArgs)
    → args_before (args ++ arg ∷ []) rest ≡ args_before args (arg_before arg rest)
one_more [] arg rest = refl
one_more (first ∷ args) arg rest = ap (arg_before first) (one_more args arg rest)

-- what a loop over slots has so far, before what is left
module _ (given : Slot → GivenArg) (whole : GivenArgs) (slots : List Slot) (i : ℕ) (args : List Arg)
    (e : whole ≡ args_before args (args_by given (drop i slots))) where
  module _ (slot : Slot) (h : i < length slots) (is : slot ≡ get_or slots i slot) where
    next_given : whole ≡ args_before args (before_args (given slot) (args_by given (drop (i + 1) slots)))
    next_given =
        e ∙ ap (λ (rest : List Slot). args_before args (args_by given rest)) (drop_more slots i slot h
        ∙ ap (λ (y : Slot). y ∷ drop (i + 1) slots) (sym is))

    pub given_step : (arg : Arg) → given slot ≡ Ok arg
        → whole ≡ args_before (args ++ arg ∷ []) (args_by given (drop (i + 1) slots))
    given_step arg ok =
        next_given
        ∙ ap (λ (one : GivenArg). args_before args (before_args one (args_by given (drop (i + 1) slots)))) ok
        ∙ sym (one_more args arg (args_by given (drop (i + 1) slots)))

    given_error : (error : ExtractError) → given slot ≡ Err error → whole ≡ Err error
    given_error error bad =
        next_given
        ∙ ap (λ (one : GivenArg). args_before args (before_args one (args_by given (drop (i + 1) slots)))) bad
        ∙ error_behind args error

    pub given_err : (error : ExtractError) → IsGiven {T = Arg} (Err error) (given slot)
        → IsGiven {T = List Arg} (Err error) whole
    given_err (errors.Refused fault message) is = given_error (errors.Refused fault message) is
    given_err errors.BodyFault is = given_error errors.BodyFault is
    given_err (errors.BodyTooLarge sum) is = given_error (errors.BodyTooLarge sum) is
    given_err (errors.FrameBudget count) is = given_error (errors.FrameBudget count) is
    given_err errors.OutOfMemory is = tt

  pub given_end : length slots ≤ i → whole ≡ Ok args
  given_end h =
      e ∙ ap (λ (rest : List Slot). args_before args (args_by given rest)) (drop_of_length-le slots h)
      ∙ none_behind args
