-- What is told of the frames of a body that a slot reads.
use Rattle.std.proofs.Common.{◌≡◌, ℕ, List, Option, subst}
use Rattle.http_bodies.specs.declared.frame.Frame.{Frame}
use Rattle.api_extract.specs.Denotes.{GivenArgs}
use Rattle.api_extract.specs.Extraction.{ReadsFor}

-- what is told of frames as something is given is told as what equals it is given
pub reads_by : (given other : GivenArgs) → given ≡ other → (limit budget : ℕ) (old new : Option (List Frame))
    → ReadsFor limit budget old new given → ReadsFor limit budget old new other
reads_by given other is limit budget old new reads =
    subst (λ (r : GivenArgs). ReadsFor limit budget old new r) is reads
