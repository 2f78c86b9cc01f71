-- Which of several endpoints is refused first.
use Rattle.std.specs.Prelude.{◌≡◌, List, [], ◌∷◌, ◌++◌}
use Rattle.api_declarations.specs.Values.{DeclarationValue}
use Rattle.tag_config.specs.Configurations.{Configuration}
use Rattle.api_registration.specs.Accepted.{AreAccepted}
use Rattle.api_registration.specs.Registering.{RefusedBy}
use Rattle.api_registration.specs.declared.error.ApiDescriptionRegisterError.{ApiDescriptionRegisterError}

-- the endpoints in front may be registered in turn, and the next may not, which the error tells
pub record IsFirstRefused (tags : Configuration) (ds : List DeclarationValue) (error : ApiDescriptionRegisterError)
    : Type 0 where
  pub front : List DeclarationValue
  pub next : DeclarationValue
  pub rest : List DeclarationValue
  pub order : ds ≡ front ++ next ∷ rest
  pub accepted : AreAccepted tags [] front
  pub refused : RefusedBy tags front next error
