use Rattle.std.proofs.Common.{ap, sym, ◌∙◌}
use Rattle.std.proofs.lemmas.Str.{encodes-chars}
use Rattle.std.specs.Str.{encode_utf8_all}
use Rattle.http_status.proofs.request_id.RequestId.text.Goals as goal

-- the bytes of a text are those of its characters
pub returns-clause-text : goal.returns-clause-text
returns-clause-text c = sym (ap encode_utf8_all (sym c.self.view_is ∙ c.as_str.ensures) ∙ encodes-chars _ c.as_str.utf8)
