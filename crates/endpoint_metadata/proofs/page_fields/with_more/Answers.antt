use Rattle.std.proofs.Common.{◌∙◌, ◌∷◌, Bor, List, ap, arith, map, refl}
use Rattle.std.proofs.lemmas.List.{take_all}
use Rattle.schema_values.specs.Order.{sorted_by}
use Rattle.schema_values.proofs.CallerLemmas.{map_sorted}
use Rattle.descriptors.specs.declared.desc.Field.{Field}
use Rattle.descriptors.specs.Definitions.{field_name}
use Rattle.endpoint_metadata.proofs.page_fields.with_more.Goals as goal

pub returns : goal.returns
returns c =
    let field_of : Bor Field → Field = λ f. f.now in
    let more = c.args.more.now in
    ap (map field_of) c.in_ok-sort_by_name.ensures.sorted
    ∙ map_sorted (λ (f : Bor Field). field_name f.now) field_name field_of (λ f. refl) c.loop-field.fields.items
    ∙ ap (sorted_by field_name)
    (c.loop-field.invariant
    ∙ ap (λ (fields : List Field). c.args.limit.now ∷ c.args.token.now ∷ fields)
    (take_all c.loop-field.field-index more (omega arith)))
