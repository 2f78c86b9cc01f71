-- In which words a request is refused that gives a handler no arguments. They are this project's own.
use Rattle.std.specs.Prelude.{ℕ, List, [], ◌++◌, Result}
use Rattle.std.specs.declared.result.Result.TheVariants.{Ok, Err}
use Rattle.handler_shapes.specs.declared.arguments.Arg.{Arg}
use Rattle.handler_shapes.specs.declared.arguments.Arg.TheVariants.{Tree as OfTree}
use Rattle.typed_values.specs.declared.fault.FaultKind.{FaultKind}
use Rattle.typed_values.specs.Denotes.{Told, refused}
use Rattle.typed_values.specs.Faults.{Trouble, fault_of, fault_text}
use Rattle.api_extract.specs.declared.extract_error.ExtractError.{ExtractError}
use Rattle.api_extract.specs.declared.extract_error.ExtractError.TheVariants.{Refused}

-- an argument, or why there is none
abbrev pub GivenArg : Type 0
GivenArg = Result Arg ExtractError

-- the fault, and the message for the client: a prefix and the fault's text
abbrev pub refusal : List ℕ → Trouble → ExtractError
refusal prefix trouble = Refused (fault_of trouble) (prefix ++ fault_text (fault_of trouble))

-- a tree as an argument, or the refusal of the fault that is told
abbrev pub told_as : List ℕ → Told → GivenArg
told_as prefix (Ok tree) = Ok (OfTree tree)
told_as prefix (Err trouble) = Err (refusal prefix trouble)

-- a fault of the whole, whose text stands alone
abbrev pub refused_plainly : FaultKind → GivenArg
refused_plainly kind = told_as [] (refused kind)
