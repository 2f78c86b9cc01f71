use Rattle.std.proofs.Common.{sym, subst, inr}
use Rattle.api_respond.specs.Replies.{HasHttpErrors}
use Rattle.sample_api.proofs.Shapes.{has_errors}
use Rattle.sample_api.proofs.sample_handler.SampleHandlerRouteHandler.refuse.Goals as goal

pub returns-clause-fits : goal.returns-clause-fits
returns-clause-fits c =
    inr (subst HasHttpErrors (sym c.args.self.now.of_operation) (has_errors c.args.self.now.operation))
