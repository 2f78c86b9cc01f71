use Rattle.std.proofs.Common.{refl}
use Rattle.api_documents.proofs.components.error_object.Goals as goal

pub returns : goal.returns
returns c = rw (← c.error.view_is, c.in_ok-copy.ensures, c.new.ensures, c.in_ok-content.ensures) refl
