use Rattle.api_documents.proofs.ReferenceRows.{struct_references, external_references, tagged_references}
use Rattle.api_documents.proofs.ReferenceRows.{choice_references}
use Rattle.api_documents.proofs.references.+references.Goals as goal

pub add_references-returns-in-Struct : goal.add_references-returns-in-Struct
add_references-returns-in-Struct t c =
    let row = struct_references c.args.desc.now c.in-Struct.fields c.in-Struct.deny_unknown c.in-Struct.is in
    rw (row, ← c.as_slice.ensures) c.add_field_references.ensures

pub add_references-returns-in-External : goal.add_references-returns-in-External
add_references-returns-in-External t c =
    let row = external_references c.args.desc.now c.in-External.variants c.in-External.is in
    rw (row, ← c.as_slice-in-External.ensures) c.add_payload_references.ensures

pub add_references-returns-in-Tagged : goal.add_references-returns-in-Tagged
add_references-returns-in-Tagged t c =
    let row = tagged_references c.args.desc.now c.in-Tagged.tag c.in-Tagged.variants c.in-Tagged.is in
    rw (row, ← c.as_slice-in-Tagged.ensures) c.add_variant_references.ensures

pub add_references-returns-in-Untagged : goal.add_references-returns-in-Untagged
add_references-returns-in-Untagged t c =
    let row = choice_references c.args.desc.now c.in-Untagged.alternatives c.in-Untagged.is in
    rw (row, ← c.as_slice-in-Untagged.ensures) c.add_alternative_references.ensures
