use Rattle.endpoint_notation.proofs.CallerLemmas.{codeless}
use Rattle.endpoint_cases.proofs.handler.NotedHandlerRouteHandler.shape.Goals as goal

pub returns-clause-codeless : goal.returns-clause-codeless
returns-clause-codeless c = codeless c.args.self.now.shape.value c.args.self.now.codeless
