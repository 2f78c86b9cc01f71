use Rattle.typed_values.proofs.schema_variants.described_struct.Goals as goal

pub returns : goal.returns
returns c = rw (c.in_ok-with_description.ensures, c.in_ok-description.ensures.copy, c.struct_parts-parts.ensures) at c.object_of.ensures
