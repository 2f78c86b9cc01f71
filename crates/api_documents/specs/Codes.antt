-- The code of an error under its name: that of the tuple of its fields.
use Rattle.std.specs.Prelude.{ℕ, List, refl}
use Rattle.std.specs.Coded.{Coded, code_by, coded×, coded_list, coded_ℕ}
use Rattle.descriptors.specs.contracts.table.Definition as definitions
use Rattle.descriptors.specs.declared.table.Definition.{Definition}
use Rattle.handler_shapes.specs.contracts.shape.ApiEndpointErrorResponse as errors
use Rattle.handler_shapes.specs.declared.shape.ApiEndpointErrorResponse.{ApiEndpointErrorResponse}
use Rattle.api_documents.specs.ErrorNames.{NamedErrorValue}

-- the code of an error under its name
abbrev pub named_error_code : Coded NamedErrorValue
named_error_code = code_by (List ℕ × (List Definition × ApiEndpointErrorResponse))
    (coded× (coded_list coded_ℕ) (coded× (coded_list definitions.the_row.coded) errors.the_row.coded))
    (λ n. (n.name, (n.table, n.error)))
    (λ p. record { name = p.0; table = p.1.0; error = p.1.1 })
    (λ _. refl)
