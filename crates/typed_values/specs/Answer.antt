-- What an answer of the decoder says.
use Rattle.std.specs.Prelude.{◌≡◌, ⊤, List, [], ◌∷◌, ◌++◌, reverse}
use Rattle.std.specs.declared.result.Result.{Result}
use Rattle.std.specs.declared.result.Result.TheVariants.{Ok, Err}
use Rattle.typed_values.specs.declared.fault.Misfit.{Misfit}
use Rattle.typed_values.specs.declared.fault.Stop.{Stop}
use Rattle.typed_values.specs.declared.fault.Stop.TheVariants as stop
use Rattle.typed_values.specs.declared.fault.Fault.{Fault}
use Rattle.typed_values.specs.declared.fault.DecodeError.{DecodeError}
use Rattle.typed_values.specs.declared.fault.DecodeError.TheVariants as error
use Rattle.typed_values.specs.Faults.{Trouble, fault_of}
use Rattle.typed_values.specs.Denotes.{Told}

-- the places turn round: the outermost comes first
abbrev pub trouble : Misfit → Trouble
trouble misfit = record { path = reverse misfit.places; kind = misfit.kind }

-- the answer, a tree or a pair, is what is told, unless memory ran out
abbrev pub Tells : {T : Type 0} → Result T Stop → Result T Trouble → Type 0
Tells (Ok tree) told = told ≡ Ok tree
Tells (Err (stop.Misfit misfit)) told = told ≡ Err (trouble misfit)
Tells (Err stop.OutOfMemory) told = ⊤

-- what is told of a part stands behind the parts before it, unless it is a fault, which is the answer, or memory runs out
abbrev pub Pushes : {T U : Type 0} → Result T Stop → Result U Stop → List T → List T → Type 0
Pushes (Ok part) (Ok done) old new = new ≡ old ++ part ∷ []
Pushes (Ok part) (Err end) old new = end ≡ stop.OutOfMemory
Pushes (Err fault) (Ok done) old new = ⊥
Pushes (Err fault) (Err end) old new = end ≡ fault

-- what is told is this fault
abbrev pub IsFaultOf : Told → Fault → Type 0
IsFaultOf told fault = (t : Trouble) × (told ≡ Err t) × (fault ≡ fault_of t)

-- a fact of the fault, where the error is one
abbrev pub IfFault : DecodeError → (Fault → Type 0) → Type 0
IfFault (error.Fault fault) Fact = Fact fault
IfFault error.OutOfMemory Fact = ⊤
