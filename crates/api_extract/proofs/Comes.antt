-- What comes of the frames of a body is denoted, and fits.
use Rattle.std.proofs.Common.{◌≡◌, inl, inr, ℕ, List, sym, ◌∙◌, subst}
use Rattle.std.proofs.lemmas.Result.{IfOk-weaker}
use Rattle.std.specs.Prelude.{IfOk}
use Rattle.std.specs.declared.result.Result.TheVariants.{Ok, Err}
use Rattle.http_bodies.specs.Bodies.{BodyState, frames_of}
use Rattle.http_bodies.specs.Frames.{all_data}
use Rattle.request_parts.specs.Requests.{Request}
use Rattle.request_parts.specs.Wire.{wire_of}
use Rattle.handler_shapes.specs.declared.slot.Slot.{Slot}
use Rattle.handler_shapes.specs.Arguments.{ArgsFit}
use Rattle.handler_shapes.specs.ShapeChecks.{SlotsPass}
use Rattle.typed_values.specs.Checks.{TablePasses}
use Rattle.typed_values.specs.declared.fault.Fault.{Fault}
use Rattle.api_extract.specs.declared.extract_error.ExtractError.TheVariants as errors
use Rattle.api_extract.specs.Denotes.{Denotes, GivenArgs, Terms, args_told}
use Rattle.api_extract.specs.Extraction.{ComesTo, IsCutShort, extracted}
use Rattle.api_extract.proofs.ArgFits.{denoted_fit}
use Rattle.api_extract.proofs.Denoted.{come_denoted, come_refused}

module _ (terms : Terms) (slots : List Slot) (request : Request) (body : BodyState) (result : GivenArgs)
    (comes : ComesTo result (extracted terms slots request body)) where
  pub comes_denoted : IfOk result (Denotes terms slots (wire_of request (all_data (frames_of body))) body)
  comes_denoted = by_result result comes
    where
      by_result : (r : GivenArgs) → ComesTo r (extracted terms slots request body)
          → IfOk r (Denotes terms slots (wire_of request (all_data (frames_of body))) body)
      by_result (Ok args) (inl cut) = absurd cut
      by_result (Ok args) (inr is) = come_denoted terms request body slots args (sym is)
      by_result (Err error) h = tt

  pub comes_fit : TablePasses terms.table → SlotsPass terms.table slots → IfOk result (ArgsFit terms.table slots)
  comes_fit passes right =
      let wire = wire_of request (all_data (frames_of body)) in
      IfOk-weaker result (Denotes terms slots wire body) (ArgsFit terms.table slots)
      (λ args denotes. denoted_fit terms slots wire body passes right args denotes) comes_denoted

  pub comes_refused : (fault : Fault) (message : List ℕ) → result ≡ Err (errors.Refused fault message)
      → args_told terms slots (wire_of request (all_data (frames_of body))) body ≡ Err (errors.Refused fault message)
  comes_refused fault message e =
      elim comes [
        | inl cut ↦ absurd (subst IsCutShort e cut)
        | inr is ↦ come_refused terms request body slots fault message (sym is ∙ e)
      ]
