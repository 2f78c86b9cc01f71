-- A response that has a code, or content of any kind without named headers, is that of a handler.
use Rattle.std.proofs.Common.{◌≡◌, ℕ, Option, Some, None, refl}
use Rattle.std.specs.Prelude.{IsTrue}
use Rattle.descriptors.specs.declared.desc.Desc.{Desc}
use Rattle.handler_shapes.specs.declared.shape.ContentShape.{ContentShape}
use Rattle.handler_shapes.specs.declared.shape.ContentShape.TheVariants.{Json, Empty, Freeform}
use Rattle.handler_shapes.specs.declared.shape.HandlerShape.{HandlerShape}
use Rattle.api_respond.specs.Replies.{IsFreeformWithoutCode}
use Rattle.endpoint_notation.specs.Codeless.{has_code_or_bytes, is_codeless_right}

-- without a code there is content of any kind, and there are no named headers
parts : (code : Option ℕ) (content : ContentShape) (headers : Option Desc)
    → IsTrue (has_code_or_bytes code content headers)
    → (code ≡ None → content ≡ Freeform) × (code ≡ None → headers ≡ None)
parts (Some code) content headers is = (λ e. absurd (cc e), λ e. absurd (cc e))
parts None Freeform None is = (λ e. refl, λ e. refl)
parts None Freeform (Some desc) is = absurd (cc is)
parts None Empty headers is = absurd (cc is)
parts None (Json desc name) headers is = absurd (cc is)

pub codeless : (shape : HandlerShape) → IsTrue (is_codeless_right shape.response) → IsFreeformWithoutCode shape
codeless shape is =
    let both = parts shape.response.success shape.response.content shape.response.headers is in
    record { content = both.0; headers = both.1 }
