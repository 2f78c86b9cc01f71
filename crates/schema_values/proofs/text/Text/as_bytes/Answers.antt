use Rattle.std.proofs.Common.{ap, sym, ◌∙◌}
use Rattle.std.proofs.lemmas.Str.{encodes-chars}
use Rattle.std.specs.Str.{encode_utf8_all}
use Rattle.schema_values.proofs.text.Text.as_bytes.Goals as goal

pub returns : goal.returns
returns c =
    let bytes = c.as_str.result.now in
    c.as_bytes.ensures.value ∙ sym (ap encode_utf8_all c.as_str.ensures ∙ encodes-chars bytes c.as_str.utf8)
