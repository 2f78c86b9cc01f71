use Rattle.scalar_texts.proofs.CallerLemmas.{option_passes}
use Rattle.flat_maps.proofs.resolve.held.Goals as goal

pub resolve-requires-in-Option-clause-desc : goal.resolve-requires-in-Option-clause-desc
resolve-requires-in-Option-clause-desc c = rw c.get.ensures (option_passes c.args.table.now c.requires.table c.in-Some.resolved.now c.in-Some.ensures.passes c.in-Option.inner c.in-Option.is)
