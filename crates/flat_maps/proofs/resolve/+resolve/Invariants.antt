use Rattle.scalar_texts.proofs.CallerLemmas.{steps}
use Rattle.flat_maps.proofs.resolve.+resolve.Given as goal

abbrev pub decreases-resolve : goal.decreases-resolve
decreases-resolve l = steps l.table.now l.desc.now
