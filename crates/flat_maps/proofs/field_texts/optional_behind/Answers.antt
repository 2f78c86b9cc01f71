use Rattle.scalar_texts.proofs.CallerLemmas.{option_passes}
use Rattle.flat_maps.proofs.field_texts.optional_behind.Goals as goal

pub optional_text-requires-clause-inner : goal.optional_text-requires-clause-inner
optional_text-requires-clause-inner c = rw c.get.ensures (option_passes c.args.table.now c.requires.table c.in-Some.resolved.now c.in-Some.ensures.passes c.in-Option.inner c.in-Option.is)
