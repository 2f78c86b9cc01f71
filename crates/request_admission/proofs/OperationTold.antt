-- When an operation holds, by what is told of its parameters and of its body.
use Rattle.std.proofs.Common.{◌≡◌, ◌↔◌, Bool, true, false, ◌&&◌, Option, Some, IfSome, IsTrue, codes, sym, ◌∙◌, ap₂, subst}
use Rattle.std.proofs.lemmas.Bool.{and_parts}
use Rattle.std.specs.List.{list_all}
use Rattle.schema_values.specs.declared.json_value.Json.{Json}
use Rattle.schema_values.specs.Get.{get_of}
use Rattle.request_words.specs.declared.request.WireRequest.{WireRequest}
use Rattle.openapi_values.specs.Admits.{parameters_of, pagination_of, query_rule_of, operation_pages_hold, OperationHolds}
use Rattle.openapi_values.specs.Options.{is_none_or}
use Rattle.openapi_values.specs.RequestBodies.{BodyHolds}
use Rattle.openapi_values.specs.RequestParameters.{parameter_holds}

module _ (doc : Json) (request : WireRequest) (operation : Json) where
  -- the parameters of the operation hold, and what its pages ask
  abbrev pub are_held : Bool
  are_held =
      list_all (parameter_holds doc request (query_rule_of request operation)) (parameters_of operation)
      && is_none_or (pagination_of operation) (operation_pages_hold request operation)

  abbrev BodyAt : Option Json → Type 0
  BodyAt o = IfSome o (BodyHolds doc request)

  held : OperationHolds doc request operation → are_held ≡ true
  held o = ap₂ (λ a b. a && b) o.parameters o.pages

  made : are_held ≡ true → BodyAt (get_of (codes "requestBody") operation) → OperationHolds doc request operation
  made h body = let parts = and_parts _ _ h in record { parameters = parts.0; pages = parts.1; body = body }

  pub refused_told : are_held ≡ false → IsTrue false ↔ OperationHolds doc request operation
  refused_told h = (λ t. absurd (cc t), λ o. sym h ∙ held o)

  pub body_told : (body : Json) → are_held ≡ true → get_of (codes "requestBody") operation ≡ Some body → (b : Bool) → (IsTrue b ↔ BodyHolds doc request body) → IsTrue b ↔ OperationHolds doc request operation
  body_told body h has_body b told = (
    λ t. made h (subst BodyAt (sym has_body) (told.0 t)),
    λ o. told.1 (subst BodyAt has_body o.body),
  )
