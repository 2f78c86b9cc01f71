use Rattle.flat_maps.proofs.Chosen.{skipped_text}
use Rattle.flat_maps.proofs.field_texts.field_text.Goals as goal

pub returns-in-Skipped : goal.returns-in-Skipped
returns-in-Skipped c = rw (skipped_text c.args.table.now c.requires.table.guarded c.args.field.now c.in-Skipped.is c.args.tree.now) c.optional_text.ensures
