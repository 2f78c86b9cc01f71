-- Where no cause stands against an endpoint, no error but want of memory is told.
use Rattle.std.proofs.Common.{◌≡◌, ℕ, List, [], None, Some, refl, sym, ap, ◌∙◌}
use Rattle.std.specs.Prelude.{IfErr, IsOkUnless}
use Rattle.std.specs.declared.result.Result.{Result}
use Rattle.std.specs.declared.result.Result.TheVariants.{Ok, Err}
use Rattle.handler_shapes.specs.declared.shape.HandlerShape.{HandlerShape}
use Rattle.request_parts.specs.ContentTypes.{kind_of}
use Rattle.request_parts.specs.declared.content_type.ApiEndpointBodyContentType.{ApiEndpointBodyContentType}
use Rattle.endpoint_metadata.specs.Modes.{AskAlike, AskDifferently}
use Rattle.endpoint_metadata.specs.WellTyped.{AreWellTyped, nothing_told}
use Rattle.endpoint_metadata.specs.declared.extension.ExtensionMode.TheVariants as extension
use Rattle.endpoint_metadata.specs.declared.extension.ExtractorMetadata.{ExtractorMetadata}
use Rattle.endpoint_metadata.specs.declared.mode_error.ModeError.{ModeError}
use Rattle.endpoint_metadata.specs.declared.mode_error.ModeError.TheVariants as modes
use Rattle.api_endpoints.specs.NewEndpoints.{IsWhyNotMade, MayBeMade}
use Rattle.api_endpoints.specs.NewErrors.{mode_refusal}
use Rattle.api_endpoints.specs.declared.new_error.NewEndpointError.{NewEndpointError}
use Rattle.api_endpoints.specs.declared.new_error.NewEndpointError.TheVariants as refused

module _ (media : List ℕ) (shape : HandlerShape) where
  only_memory : (error : NewEndpointError) → IsWhyNotMade media shape error → MayBeMade media shape
      → error ≡ refused.OutOfMemory
  only_memory (refused.UnsupportedMime text) is may = absurd (may.supported is.0)
  only_memory refused.IncompatibleModes is may = absurd (may.compatible is.1)
  only_memory refused.OutOfMemory is may = refl

  -- an endpoint that may be made is made, unless memory runs out
  pub made_or_memory : {T : Type 0} (result : Result T NewEndpointError) → IfErr result (IsWhyNotMade media shape)
      → MayBeMade media shape → IsOkUnless result refused.OutOfMemory
  made_or_memory (Ok endpoint) told may = tt
  made_or_memory (Err error) told may = only_memory error told may

  -- it may be made where bodies have its media type, and no two slots of pages ask for different names
  pub may_be_made : (kind : ApiEndpointBodyContentType) → kind_of media ≡ Some kind
      → (AreWellTyped shape.table shape.slots → AskAlike shape.table shape.slots) → MayBeMade media shape
  may_be_made kind is alike = record {
    supported = λ none. let clash : Some kind ≡ None = sym is ∙ none in cc clash;
    compatible = λ h. let d = h.differ in d.4 (alike h.well_typed d.0 d.1 d.2 d.3);
  }

  -- an error of telling the slots of a shape is told as its cause, of a media type that bodies have
  pub modes_told : (kind : ApiEndpointBodyContentType) → kind_of media ≡ Some kind → (mode : ModeError)
      → (mode ≡ modes.IncompatibleModes
      → AreWellTyped shape.table shape.slots × AskDifferently shape.table shape.slots)
      → IsWhyNotMade media shape (mode_refusal mode)
  modes_told kind is modes.IncompatibleModes incompatible =
      let parts = incompatible refl in (
        λ none. let clash : Some kind ≡ None = sym is ∙ none in cc clash,
        record { well_typed = parts.0; differ = parts.1 },
      )
  modes_told kind is modes.OutOfMemory incompatible = tt

-- where nothing is told, there are no parameters and no pages
pub nothing_parts : (told : ExtractorMetadata) (result : Result ExtractorMetadata ModeError) → result ≡ Ok told
    → result ≡ Ok nothing_told → (told.parameters ≡ []) × (told.extension_mode ≡ extension.None)
nothing_parts told result is none =
    let both = sym is ∙ none in
    let same : told ≡ nothing_told = cc both in
    (ap (λ (m : ExtractorMetadata). m.parameters) same, ap (λ (m : ExtractorMetadata). m.extension_mode) same)
