use Rattle.std.proofs.Common.{◌∷◌, ◌++◌, [], ◌∙◌, ap}
use Rattle.api_documents.proofs.components.in_order.Goals as goal

pub loop-entry-preserved : goal.loop-entry-preserved
loop-entry-preserved g c =
    c.in_ok-push.ensures.ok ∙ ap (λ entries. entries ++ c.in-Some.entry ∷ []) c.loop-entry.invariant
