use Rattle.std.proofs.Common.{◌≡◌, ap, ◌∙◌}
use Rattle.std.proofs.lemmas.Str.{encodes-chars}
use Rattle.std.specs.Str.{encode_utf8_all}
use Rattle.schema_values.proofs.text.TextDebug.fmt.Goals as goal

pub returns : goal.returns
returns g c =
    let bytes = c.as_str.result.now in
    let same : encode_utf8_all c.args.self.now ≡ bytes = ap encode_utf8_all c.as_str.ensures ∙ encodes-chars bytes c.as_str.utf8 in
    record { writes = rw same c.fmt.ensures.writes }
