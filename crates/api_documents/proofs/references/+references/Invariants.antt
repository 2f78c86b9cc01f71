use Rattle.std.proofs.Common.{◌≡◌, ◌++◌, take}
use Rattle.std.specs.List.{flat_map}
use Rattle.api_documents.specs.References.{references, references_in_fields, references_in_variant}
use Rattle.api_documents.specs.References.{references_in_tagged}
use Rattle.api_documents.proofs.references.+references.Given as goal

-- those of the fields so far
abbrev pub invariant-add_field_references-loop-field : goal.invariant-add_field_references-loop-field
invariant-add_field_references-loop-field l =
    l.names ≡ l.initial.names ++ references_in_fields (take l.field-index l.fields)

-- those of the payloads so far
abbrev pub invariant-add_payload_references-loop-variant : goal.invariant-add_payload_references-loop-variant
invariant-add_payload_references-loop-variant l =
    l.names ≡ l.initial.names ++ flat_map references_in_variant (take l.variant-index l.variants)

-- those of the variants so far
abbrev pub invariant-add_variant_references-loop-variant : goal.invariant-add_variant_references-loop-variant
invariant-add_variant_references-loop-variant l =
    l.names ≡ l.initial.names ++ flat_map references_in_tagged (take l.variant-index l.variants)

-- those of the alternatives so far
abbrev pub invariant-add_alternative_references-loop-alternative
    : goal.invariant-add_alternative_references-loop-alternative
invariant-add_alternative_references-loop-alternative l =
    l.names ≡ l.initial.names ++ flat_map references (take l.alternative-index l.alternatives)
