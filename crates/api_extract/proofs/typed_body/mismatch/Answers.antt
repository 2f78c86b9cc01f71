use Rattle.std.proofs.Common.{IsTrue, List, subst, sym, ℕ}
use Rattle.schema_values.specs.Ascii.{all_ascii}
use Rattle.api_extract.proofs.ShownMedia.{mime_ascii}
use Rattle.api_extract.proofs.typed_body.mismatch.Goals as goal

pub from_ascii-requires : goal.from_ascii-requires
from_ascii-requires c =
    subst (λ (t : List ℕ). IsTrue (all_ascii t)) (sym c.mime_type.ensures.media) (mime_ascii c.args.expected)

pub from_ascii-requires-2 : goal.from_ascii-requires-2
from_ascii-requires-2 c =
    subst (λ (t : List ℕ). IsTrue (all_ascii t)) (sym c.mime_type-2.ensures.media) (mime_ascii c.args.given)
