use Rattle.page_tokens.proofs.Held.{start_sound}
use Rattle.page_tokens.proofs.token.held_tree.Goals as goal

pub returns-in-Some-clause-fits : goal.returns-in-Some-clause-fits
returns-in-Some-clause-fits c = c.started_tree.ensures.fits (start_sound c.args.bytes.now c.in-Ok.object c.in-Some.start.now c.in-Ok.ensures.ok c.in-Some.ensures)
