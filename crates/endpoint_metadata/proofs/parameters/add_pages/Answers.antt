use Rattle.std.proofs.Common.{◌≡◌, ◌∙◌, ◌++◌, ◌∷◌, Bor, List, ap, ap₂, map, subst, sym}
use Rattle.std.proofs.lemmas.Simd.{map-map}
use Rattle.std.specs.Prelude.{OnOk}
use Rattle.schema_values.specs.Order.{sorted_by}
use Rattle.descriptors.specs.Definitions.{field_name}
use Rattle.descriptors.specs.declared.desc.Field.{Field}
use Rattle.written_texts.specs.PageParameters.{limit_field, token_field}
use Rattle.endpoint_metadata.specs.Parameters.{listed_pages, page_parameter}
use Rattle.endpoint_metadata.specs.Structs.{listed_fields}
use Rattle.endpoint_metadata.specs.Values.{ParameterValue, parameter_values}
use Rattle.endpoint_metadata.proofs.parameters.add_pages.Goals as goal

pub returns : goal.returns
returns c =
    let table = c.args.table.now in
    let scanned = listed_fields table c.args.scan.now in
    let field_of : Bor Field → Field = λ f. f.now in
    let fields = c.in_ok-fields.fields.items in
    let in_order =
    c.in_ok-fields.ensures
    ∙ ap₂ (λ (limit token : Field). sorted_by field_name (limit ∷ token ∷ c.listed_fields.result.now))
    (c.get.ensures ∙ c.in_ok-limit.ensures) (c.get-2.ensures ∙ c.in_ok-token.ensures)
    ∙ ap (λ (fields : List Field). sorted_by field_name (limit_field ∷ token_field ∷ fields)) c.listed_fields.ensures in
    let all : map (λ (f : Bor Field). page_parameter table f.now) c.as_slice.result.now ≡ listed_pages table scanned =
    ap (map (λ (f : Bor Field). page_parameter table f.now)) c.as_slice.ensures.value
    ∙ sym (map-map (page_parameter table) field_of fields) ∙ ap (map (page_parameter table)) in_order in
    subst (λ (values : List ParameterValue). OnOk c.add_page_fields.result
    (parameter_values c.add_page_fields.new.told ≡ parameter_values c.args.told.now ++ values)) all
    c.add_page_fields.ensures
