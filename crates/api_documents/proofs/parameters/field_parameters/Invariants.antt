use Rattle.std.proofs.Common.{◌≡◌, map}
use Rattle.written_texts.specs.FieldParameters.{parameter_of}
use Rattle.endpoint_metadata.specs.Parameters.{written_in}
use Rattle.api_documents.specs.Parameters.{location_of}
use Rattle.api_documents.proofs.parameters.field_parameters.Given as goal

-- the parameters of the fields so far
abbrev pub invariant-loop-field : goal.invariant-loop-field
invariant-loop-field l =
    l.parameters
    ≡ map (parameter_of (location_of l.place) (written_in l.place) l.table) (map (λ item. item.now) l.yielded)
