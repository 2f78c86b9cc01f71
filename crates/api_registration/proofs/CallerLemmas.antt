-- What proofs of the crates above take from here: lemmas over the words of specs/.
use Rattle.std.proofs.Common.{List}
use Rattle.handler_shapes.specs.ShapeChecks.{ShapePasses}
use Rattle.api_declarations.specs.Values.{DeclarationValue}
use Rattle.tag_config.specs.Configurations.{Configuration}
use Rattle.api_registration.specs.Accepted.{MayStandBehind}
use Rattle.api_registration.specs.Registering.{MayRegister, RefusedBy}
use Rattle.api_registration.specs.declared.cause.RegisterCause.TheVariants as cause
use Rattle.api_registration.specs.declared.error.ApiDescriptionRegisterError.{ApiDescriptionRegisterError}
-- endpoints each of which may stand behind those before it
pub use Rattle.api_registration.proofs.Accepted.{accepted_behind, each_accepted, pairs_accepted}
-- no two that were accepted serve one method and one template in versions that overlap
pub use Rattle.api_registration.proofs.ServedOnce.{apart_behind}

-- the shape of what may be registered passes its checks
pub may_passes : (before : List DeclarationValue) (e : DeclarationValue) → MayStandBehind before e → ShapePasses e.shape
may_passes before e may = (may.1.clear cause.UnsupportedSchema).passes

-- what is refused may not be registered
pub refused_may_not : (tags : Configuration) (before : List DeclarationValue) (e : DeclarationValue) (error : ApiDescriptionRegisterError) → RefusedBy tags before e error → ¬ MayRegister tags before e
refused_may_not tags before e error refused may = may.none error.cause (error.message, refused.told.is_told)
