use Rattle.std.proofs.Common.{sym}
use Rattle.handler_shapes.proofs.CallerLemmas.{all_untouched}
use Rattle.sample_api.proofs.sample_handler.SampleHandlerRouteHandler.handle.Goals as goal

pub answer-requires-clause-passes : goal.answer-requires-clause-passes
answer-requires-clause-passes c = rw c.args.self.now.of_operation at c.requires.shape

pub answer-requires-clause-fit : goal.answer-requires-clause-fit
answer-requires-clause-fit c = rw c.as_slice.ensures (rw c.args.self.now.of_operation at c.requires.args)

pub returns-clause-allowed : goal.returns-clause-allowed
returns-clause-allowed c = rw (sym c.as_slice.ensures) c.answer.ensures.allowed

pub returns-clause-fits : goal.returns-clause-fits
returns-clause-fits c = rw c.args.self.now.of_operation c.answer.ensures.fits

pub returns-clause-keeps : goal.returns-clause-keeps
returns-clause-keeps c = all_untouched c.args.args.now
