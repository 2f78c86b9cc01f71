use Rattle.typed_values.specs.Parts.{the_whole, of_whole}
use Rattle.typed_values.proofs.encode.written.Goals as goal

pub encode_at-requires : goal.encode_at-requires
encode_at-requires c = rw c.new.ensures.whole (of_whole the_whole)
