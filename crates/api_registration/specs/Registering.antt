-- When an endpoint may be registered behind others, and the first cause why it may not.
use Rattle.std.specs.Prelude.{◌≡◌, ⊤, ℕ, List, [], ◌∷◌, ◌++◌, All, codes}
use Rattle.std.specs.Fmt.{decimal}
use Rattle.handler_shapes.specs.BodySlots.{BodyComesLast}
use Rattle.api_declarations.specs.Values.{DeclarationValue}
use Rattle.tag_config.specs.Configurations.{Configuration}
use Rattle.endpoint_parameters.specs.Firsts.{IsFirstOf}
use Rattle.endpoint_parameters.specs.Parameters.{parameters}
use Rattle.endpoint_parameters.specs.Told.{Says, SaysFirst, quoted}
use Rattle.endpoint_parameters.specs.ParameterTypes.{MayBeAbsent, IsNoScalar, IsScalarOrRest, IsNoStringList}
use Rattle.endpoint_parameters.specs.ParameterTypes.{IsInBoth, IsDoubled, IsNoHeaderName}
use Rattle.endpoint_checks.specs.Clashes.{ServesSame, DefinesOtherwise}
use Rattle.endpoint_checks.specs.Codes.{HasErrorAsSuccess, LacksErrorType}
use Rattle.endpoint_checks.specs.Paths.{HasBadTemplate, template_reason, HasBadMethod, HasVisibleWildcard}
use Rattle.endpoint_checks.specs.Paths.{path_wildcard, HasPathMismatch, mismatch_message, unconsumed, unspecified}
use Rattle.endpoint_checks.specs.Slots.{HasEarlyBody, HasBadForm, HasReadBodies, HasBadPagination}
use Rattle.endpoint_checks.specs.Tags.{LacksTag, LacksOnlyTag, HasUnknownTag}
use Rattle.endpoint_checks.specs.Types.{HasUnsupportedSchema, IsSupported}
use Rattle.api_registration.specs.declared.cause.RegisterCause.{RegisterCause}
use Rattle.api_registration.specs.declared.cause.RegisterCause.TheVariants as cause
use Rattle.api_registration.specs.declared.error.ApiDescriptionRegisterError.{ApiDescriptionRegisterError}

-- the causes in the order in which they are looked for
abbrev pub causes : List RegisterCause
causes =
    cause.AtLeastOneTag
    ∷ cause.ExactlyOneTag
    ∷ cause.InvalidTag
    ∷ cause.BadTemplate
    ∷ cause.BadMethod
    ∷ cause.PathMismatch
    ∷ cause.PathNotRequired
    ∷ cause.NotScalar
    ∷ cause.NotStringList
    ∷ cause.QueryAndPath
    ∷ cause.DoubledParameter
    ∷ cause.BadHeaderName
    ∷ cause.VisibleWildcard
    ∷ cause.UnsupportedSchema
    ∷ cause.TwoBodies
    ∷ cause.BadBodyForm
    ∷ cause.BadPagination
    ∷ cause.BadSuccessCode
    ∷ cause.NoErrorSchema
    ∷ cause.PathClash
    ∷ cause.DefinitionClash
    ∷ []

-- Where a cause stands against an endpoint behind those before it, and how it is told: one row for each cause.
abbrev pub Tells : Configuration → List DeclarationValue → DeclarationValue → RegisterCause → List ℕ → Type 0
Tells tags before e cause.AtLeastOneTag = Says (LacksTag tags e) (codes "At least one tag is required")
Tells tags before e cause.ExactlyOneTag = Says (LacksOnlyTag tags e) (codes "Exactly one tag is required")
Tells tags before e cause.InvalidTag =
    λ message. (tag : List ℕ) × HasUnknownTag tags e tag × (message ≡ codes "Invalid tag: " ++ tag)
Tells tags before e cause.BadTemplate = Says (HasBadTemplate e) (quoted (template_reason e.path) [] e.path)
Tells tags before e cause.BadMethod = Says (HasBadMethod e) (codes "unexpected method `" ++ e.method ++ codes "`")
Tells tags before e cause.PathMismatch = Says (HasPathMismatch e) (mismatch_message (unconsumed e) (unspecified e))
Tells tags before e cause.PathNotRequired = SaysFirst (parameters e.shape) MayBeAbsent
    (quoted (codes "path parameter ") (codes " must be required"))
Tells tags before e cause.NotScalar = SaysFirst (parameters e.shape) (IsNoScalar e.shape.table (path_wildcard e.path))
    (quoted (codes "for endpoint " ++ e.operation_id ++ codes " the parameter ") (codes " must have a scalar type"))
Tells tags before e cause.NotStringList =
    SaysFirst (parameters e.shape) (IsNoStringList e.shape.table (path_wildcard e.path))
    (quoted (codes "the parameter ") (codes " must be an array of strings"))
Tells tags before e cause.QueryAndPath = SaysFirst (parameters e.shape) (IsInBoth (parameters e.shape))
    (quoted (codes "the parameter ") (codes " is specified for both query and path parameters"))
Tells tags before e cause.DoubledParameter = SaysFirst (parameters e.shape) (IsDoubled (parameters e.shape))
    (quoted (codes "the parameter ") (codes " is specified twice"))
Tells tags before e cause.BadHeaderName = SaysFirst (parameters e.shape) IsNoHeaderName
    (quoted (codes "the header ") (codes " is not a header name"))
Tells tags before e cause.VisibleWildcard =
    Says (HasVisibleWildcard e) (quoted (codes "a visible endpoint has a wildcard path: ") [] e.path)
Tells tags before e cause.UnsupportedSchema = Says (HasUnsupportedSchema e) (codes "unsupported schema")
Tells tags before e cause.TwoBodies = Says (HasEarlyBody e) (codes "more than one body parameter")
Tells tags before e cause.BadBodyForm = Says (HasBadForm e) (codes "unsupported body form")
Tells tags before e cause.BadPagination = Says (HasBadPagination e) (codes "unsupported pagination form")
Tells tags before e cause.BadSuccessCode =
    λ message. (code : ℕ) × HasErrorAsSuccess e code
    × (message ≡ codes "success code " ++ decimal code ++ codes " is an error code")
Tells tags before e cause.NoErrorSchema = Says (LacksErrorType e) (codes "the error type has no schema")
Tells tags before e cause.PathClash =
    λ message. (other : DeclarationValue) × IsFirstOf (ServesSame e) before other
    × (message ≡ codes "endpoint " ++ other.operation_id ++ codes " already serves " ++ e.method ++ codes " " ++ e.path)
Tells tags before e cause.DefinitionClash =
    λ message. (other : DeclarationValue) × (clash : IsFirstOf (DefinesOtherwise e) before other)
    × (message ≡ quoted (codes "definition ") (codes " differs from that of endpoint " ++ other.operation_id)
    clash.holds.definition.name)

-- a cause stands against an endpoint behind those before it
abbrev pub Stands : Configuration → List DeclarationValue → DeclarationValue → RegisterCause → Type 0
Stands tags before e cause = (message : List ℕ) × Tells tags before e cause message

-- What holds of an endpoint against which a cause does not stand, where the cause is that a fact does not hold: the
-- fact itself. For the other causes nothing more is said.
abbrev pub Clears : DeclarationValue → RegisterCause → Type 0
Clears e cause.NotScalar = All (IsScalarOrRest e.shape.table (path_wildcard e.path)) (parameters e.shape)
Clears e cause.UnsupportedSchema = IsSupported e.shape
Clears e cause.TwoBodies = BodyComesLast e.shape.slots
Clears e cause.BadBodyForm = HasReadBodies e
Clears e _ = ⊤

-- no cause stands against an endpoint behind those before it, and each fact holds for want of which one would stand
pub record MayRegister (tags : Configuration) (before : List DeclarationValue) (e : DeclarationValue) : Type 0 where
  pub none : (cause : RegisterCause) → ¬ Stands tags before e cause
  pub clear : (cause : RegisterCause) → Clears e cause

-- a cause is the first that stands, and is told by a message
pub record IsFirstTold (tags : Configuration) (before : List DeclarationValue) (e : DeclarationValue) (cause : RegisterCause) (message : List ℕ) : Type 0 where
  pub first : IsFirstOf (Stands tags before e) causes cause
  pub is_told : Tells tags before e cause message

-- an error tells the first cause that stands against an endpoint behind those before it
pub record RefusedBy (tags : Configuration) (before : List DeclarationValue) (e : DeclarationValue) (error : ApiDescriptionRegisterError) : Type 0 where
  pub told : IsFirstTold tags before e error.cause error.message
  pub operation_id : error.operation_id ≡ e.operation_id
