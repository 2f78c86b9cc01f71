use Rattle.std.proofs.Common.{◌∙◌, ◌++◌, Bor, List, ap, arith, map, take}
use Rattle.descriptors.specs.declared.desc.Field.{Field}
use Rattle.endpoint_metadata.specs.Parameters.{page_parameter}
use Rattle.endpoint_metadata.specs.Values.{ParameterValue, parameter_values}
use Rattle.endpoint_metadata.proofs.OneMore.{one_further, one_more}
use Rattle.endpoint_metadata.proofs.parameters.add_page_fields.Goals as goal

pub loop-field-preserved : goal.loop-field-preserved
loop-field-preserved c =
    let items = c.args.fields.now in
    let i = c.loop-field.field-index in
    let field = c.field-item.result in
    let of_field : Bor Field → ParameterValue = λ f. page_parameter c.args.table.now f.now in
    let before = parameter_values c.args.told.now in
    one_more before (map of_field (take i items)) c.loop-field.told c.push.new.self c.in_ok-page_parameter.field-0
    (of_field field) c.in_ok-push.ensures.ok c.in_ok-page_parameter.ensures c.loop-field.invariant
    ∙ ap (λ (values : List ParameterValue). before ++ values)
    (one_further of_field items i field (omega arith) c.field-item.is)
