use Rattle.std.proofs.Common.{◌≡◌, ◌++◌, ◌∙◌, ap, to_z, of_z}
use Rattle.std.specs.Fmt.{signed_decimal}
use Rattle.std.specs.Int.{w128}
use Rattle.std.proofs.lemmas.Int.{to_z-of_z}
use Rattle.schema_values.proofs.MemberLemmas.{value_written}
use Rattle.schema_values.proofs.Results.{OnOk-map}
use Rattle.schema_values.proofs.member_text.write_number_member.Goals as goal

pub returns-clause-ok : goal.returns-clause-ok
returns-clause-ok c =
    let value = signed_decimal c.args.value in
    let same : to_z w128 (of_z w128 c.args.value) ≡ c.args.value = to_z-of_z w128 c.args.value c.ranges.value in
    OnOk-map c.push_number.result _ _ (λ is.
    is ∙ ap (λ z. c.write_name.new.out ++ signed_decimal z) same ∙ ap (λ out. out ++ value) c.in_ok-write_name.ensures.ok ∙ value_written c.args.out.now c.args.index c.args.name.now value)
    c.push_number.ensures.ok
