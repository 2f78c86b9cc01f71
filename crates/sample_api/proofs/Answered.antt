-- What the handler of an operation answers.
use Rattle.std.proofs.Common.{◌≡◌, List, [], ◌∷◌, refl}
use Rattle.std.specs.Prelude.{Result, Ok, Err, IfOk}
use Rattle.std.specs.declared.alloc.AllocError.{AllocError}
use Rattle.descriptors.specs.declared.table.Definition.{Definition}
use Rattle.handler_shapes.specs.Arguments.{ArgsFit}
use Rattle.handler_shapes.specs.declared.arguments.Arg.{Arg}
use Rattle.tree_store.specs.Tables.{Tables}
use Rattle.api_respond.specs.declared.reply.Reply.{Reply}

-- what is allowed whatever is stored is allowed at this store
pub at_store : (Allowed : List Arg → Tables → Reply → Tables → Type 0) (args : List Arg) (r : Result Reply AllocError)
    → IfOk r (λ reply. (store : Tables) → Allowed args store reply store) → (store : Tables)
    → IfOk r (λ reply. Allowed args store reply store)
at_store Allowed args (Ok reply) all store = all store
at_store Allowed args (Err error) all store = tt

-- where no slot is, no argument is
pub no_arguments : (table : List Definition) (args : List Arg) → ArgsFit table [] args → args ≡ []
no_arguments table [] fit = refl
no_arguments table (arg ∷ args) fit = absurd fit
