-- A shape has the errors of the library where that is told of the whole shape, and the other way round.
use Rattle.std.proofs.Common.{◌≡◌, [], ◌∷◌, Option, Some, None, ap}
use Rattle.std.specs.Prelude.{option_to_list}
use Rattle.descriptors.specs.declared.table.Definition.{Definition}
use Rattle.handler_shapes.specs.declared.shape.HandlerShape.{HandlerShape}
use Rattle.http_status.specs.ErrorBodies.{error_definition}
use Rattle.api_respond.specs.Replies.{HasHttpErrors}
use Rattle.endpoint_cases.specs.Errors.{IsDefined, IsNamed, with_table}

pub is_named : (shape : HandlerShape) → HasHttpErrors shape → IsNamed shape
is_named shape has = ap (λ error. record shape { error = error }) has.named

pub is_defined : (shape : HandlerShape) → HasHttpErrors shape → IsDefined shape
is_defined shape has = ap (λ found. with_table shape (option_to_list found)) has.defined

-- a list of one is of an option that is there
of_one : (found : Option Definition) (d : Definition) → option_to_list found ≡ d ∷ [] → found ≡ Some d
of_one None d e = absurd (cc e)
of_one (Some x) d e = cc e

pub has_errors : (shape : HandlerShape) → IsNamed shape → IsDefined shape → HasHttpErrors shape
has_errors shape named defined = record {
  named = ap (λ s. s.error) named;
  defined = of_one _ error_definition (ap (λ s. s.table) defined);
}
