-- What proofs of the crates above take from here: a lemma over the words of specs/.
use Rattle.std.proofs.Common.{List, [], ◌∷◌, refl}
use Rattle.handler_shapes.specs.Arguments.{ArgStays, ArgsStay}
use Rattle.handler_shapes.specs.declared.arguments.Arg.{Arg}
use Rattle.handler_shapes.specs.declared.arguments.Arg.TheVariants.{Tree, Raw, Stream}

untouched : (arg : Arg) → ArgStays arg arg
untouched (Tree tree) = refl
untouched (Raw bytes) = refl
untouched (Stream body) = tt

-- arguments that are not touched stay
pub all_untouched : (args : List Arg) → ArgsStay args args
all_untouched [] = tt
all_untouched (arg ∷ args) = (untouched arg, all_untouched args)
