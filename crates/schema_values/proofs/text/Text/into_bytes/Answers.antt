use Rattle.std.proofs.Common.{ap, sym, ◌∙◌}
use Rattle.std.proofs.lemmas.Str.{encodes-chars}
use Rattle.std.specs.Str.{encode_utf8_all, chars}
use Rattle.schema_values.proofs.text.Text.into_bytes.Goals as goal

pub returns : goal.returns
returns c =
    let bytes = c.as_str-valid.result.now in
    c.from_vec.ensures ∙ ap (λ v. v.items) c.into_bytes.ensures.value ∙ sym c.as_str-valid.ensures.value
    ∙ sym (encodes-chars bytes c.as_str-valid.utf8)
    ∙ ap (λ b. encode_utf8_all (chars b)) c.as_str-valid.ensures.value ∙ ap encode_utf8_all c.self.view_is
