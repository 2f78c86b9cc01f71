use Rattle.typed_values.specs.Parts.{the_whole, of_whole}
use Rattle.typed_values.proofs.fitting.is_value.Goals as goal

pub fits_at-requires : goal.fits_at-requires
fits_at-requires c = rw c.new.ensures.whole (of_whole the_whole)
