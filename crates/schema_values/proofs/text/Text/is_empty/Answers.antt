use Rattle.std.proofs.Common.{◌≡◌, ap, sym, ◌∙◌, length, chars, arith}
use Rattle.std.proofs.lemmas.Bool.Decides.{nat_tests}
use Rattle.std.proofs.lemmas.List.{nil_from_length}
use Rattle.std.proofs.lemmas.Str.{chars-nil, encodes-chars}
use Rattle.std.specs.Str.{encode_utf8_all}
use Rattle.schema_values.proofs.text.Text.is_empty.Goals as goal

pub returns : goal.returns
returns c =
    let bytes = c.as_str.result.now in
    let same : encode_utf8_all c.args.self.now ≡ bytes = ap encode_utf8_all c.as_str.ensures ∙ encodes-chars bytes c.as_str.utf8 in (
      λ h. let none : length bytes ≡ 0 = grind (arith, nat_tests) in
          c.as_str.ensures ∙ ap chars (nil_from_length bytes none) ∙ chars-nil,
      λ e. let none : length bytes ≡ 0 = ap length (sym same ∙ ap encode_utf8_all e) in
          grind (arith, nat_tests),
    )
