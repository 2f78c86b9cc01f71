use Rattle.std.proofs.Common.{sym, subst}
use Rattle.api_respond.specs.Replies.{IsFreeformWithoutCode}
use Rattle.sample_api.proofs.Shapes.{has_code}
use Rattle.sample_api.proofs.sample_handler.SampleHandlerRouteHandler.shape.Goals as goal

pub returns-clause-codeless : goal.returns-clause-codeless
returns-clause-codeless c =
    subst IsFreeformWithoutCode (sym c.args.self.now.of_operation) (has_code c.args.self.now.operation)
