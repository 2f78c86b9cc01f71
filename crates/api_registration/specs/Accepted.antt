-- Endpoints that were registered one behind the other.
use Rattle.std.specs.Prelude.{⊤, List, [], ◌∷◌, ◌++◌, All}
use Rattle.handler_shapes.specs.ShapeLengths.{ShapeHasShortLengths}
use Rattle.api_declarations.specs.Values.{DeclarationValue}
use Rattle.tag_config.specs.Configurations.{Configuration}
use Rattle.api_registration.specs.Registering.{MayRegister}

-- each endpoint may stand behind those before it
abbrev pub EachBehind : (List DeclarationValue → DeclarationValue → Type 0) → List DeclarationValue → List DeclarationValue
    → Type 0
EachBehind May before [] = ⊤
EachBehind May before (e ∷ es) = May before e × EachBehind May (before ++ e ∷ []) es

-- each endpoint may be registered behind those before it
abbrev pub AreAccepted : Configuration → List DeclarationValue → List DeclarationValue → Type 0
AreAccepted tags = EachBehind (MayRegister tags)

-- an endpoint may be registered behind others under some configuration of tags
abbrev pub MayStandBehind : List DeclarationValue → DeclarationValue → Type 0
MayStandBehind before e = (tags : Configuration) × MayRegister tags before e

-- Each endpoint was accepted behind those before it, whatever the configuration of tags was then: it may change, and
-- nothing but the causes of tags rests on it.
abbrev pub WereAccepted : List DeclarationValue → List DeclarationValue → Type 0
WereAccepted = EachBehind MayStandBehind

-- what is known of endpoints that were registered: each was accepted, and the lengths in its types have 32 bits
pub record AreRegistered (es : List DeclarationValue) : Type 0 where
  pub accepted : WereAccepted [] es
  pub lengths : All (λ (e : DeclarationValue). ShapeHasShortLengths e.shape) es
