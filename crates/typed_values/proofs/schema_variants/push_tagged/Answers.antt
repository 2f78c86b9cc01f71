use Rattle.typed_values.proofs.schema_variants.push_tagged.Goals as goal

pub returns : goal.returns
returns c = λ table. rw (c.in_ok-choice.ensures, c.in_ok-required.ensures table, c.into_vec-required.ensures, c.in_ok-only.ensures, c.in_ok-copy.ensures, c.as_slice.ensures) at c.push.ensures.ok
