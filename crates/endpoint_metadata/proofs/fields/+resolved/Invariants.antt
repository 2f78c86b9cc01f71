use Rattle.flat_maps.proofs.CallerLemmas.{steps}
use Rattle.endpoint_metadata.proofs.fields.+resolved.Given as goal

abbrev pub decreases-resolved : goal.decreases-resolved
decreases-resolved l = steps l.table.now l.desc.now
