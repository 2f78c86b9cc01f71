use Rattle.std.proofs.Common.{◌≡◌, map, take}
use Rattle.std.specs.Prelude.{filter}
use Rattle.descriptors.specs.Definitions.{field_name}
use Rattle.written_texts.specs.FieldParameters.{is_required}
use Rattle.endpoint_metadata.proofs.modes.first_page_names.Given as goal

-- the names of the fields so far that must be there
abbrev pub invariant-loop-field : goal.invariant-loop-field
invariant-loop-field l =
    l.names ≡ map field_name
    (filter (λ f. is_required f.presence) (map (λ f. f.now) (take l.field-index l.field-items)))
