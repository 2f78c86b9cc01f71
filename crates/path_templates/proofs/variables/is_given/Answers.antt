use Rattle.std.proofs.Common.{ap, ◌∙◌}
use Rattle.path_templates.specs.Variables.{are_components, is_text}
use Rattle.path_templates.proofs.Values.{value_is}
use Rattle.path_templates.proofs.variables.is_given.Goals as goal

pub returns-in-VarnameSegment : goal.returns-in-VarnameSegment
returns-in-VarnameSegment c =
    rw c.in-VarnameSegment.is (c.is_text.ensures ∙ ap is_text (c.get.ensures.value ∙ value_is c.in-VarnameSegment.name c.args.variables.now.entries))

pub returns-in-VarnameWildcard : goal.returns-in-VarnameWildcard
returns-in-VarnameWildcard c =
    rw c.in-VarnameWildcard.is (c.are_components.ensures ∙ ap are_components (c.get-in-VarnameWildcard.ensures.value ∙ value_is c.in-VarnameWildcard.name c.args.variables.now.entries))
