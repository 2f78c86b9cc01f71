use Rattle.std.proofs.Common.{◌∙◌, ◌++◌, Bor, List, ap, arith, map, sym, take}
use Rattle.std.proofs.lemmas.List.{map_push}
use Rattle.descriptors.specs.declared.desc.Field.{Field}
use Rattle.endpoint_metadata.specs.Parameters.{field_parameter}
use Rattle.endpoint_metadata.specs.Values.{ParameterValue, parameter_values}
use Rattle.endpoint_metadata.proofs.OneMore.{one_further, one_more}
use Rattle.endpoint_metadata.proofs.parameters.add_struct.Goals as goal

pub loop-field-preserved : goal.loop-field-preserved
loop-field-preserved c =
    let items = c.deref-field-items.result.now in
    let i = c.loop-field.field-index in
    let field = c.field-item.result in
    let of_field = field_parameter c.args.location c.args.table.now in
    let field_of : Bor Field → Field = λ f. f.now in
    let before = parameter_values c.args.told.now in
    let so_far = map field_of (take i items) in
    one_more before (map of_field so_far) c.loop-field.told c.push.new.self c.in_ok-field_parameter.field-0
    (of_field field.now) c.in_ok-push.ensures.ok c.in_ok-field_parameter.ensures c.loop-field.invariant
    ∙ ap (λ (values : List ParameterValue). before ++ values) (sym (map_push of_field so_far field.now))
    ∙ ap (λ (fields : List Field). before ++ map of_field fields)
    (one_further field_of items i field (omega arith) c.field-item.is)
