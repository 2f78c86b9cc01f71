use Rattle.std.proofs.Common.{◌≡◌, ℕ, ◌<◌, ◌∙◌, ◌++◌, ◌∷◌, [], List, ap, arith, chars, get_or, length, map, sym, take}
use Rattle.std.proofs.lemmas.List.{map_more}
use Rattle.schema_values.specs.declared.schema.Schema.{Schema}
use Rattle.descriptors.specs.declared.table.Definition.{Definition}
use Rattle.typed_values.specs.Schemas.{definition_value}
use Rattle.endpoint_metadata.specs.Values.{SchemasInOrder}
use Rattle.endpoint_metadata.proofs.SchemasInOrder.{named_last, next_is_new}
use Rattle.endpoint_metadata.proofs.definitions.definitions_of.Goals as goal

pub define-requires : goal.define-requires
define-requires c =
    let table = c.args.table.now in
    let items = c.definitions-definition-items.ensures.items in
    let i = c.loop-definition.definition-index in
    let e = c.definition-item.result in
    let is : e ≡ get_or table i e = rw (← items) c.definition-item.is in
    let inside : i < length table = rw (← items) (omega arith) in
    let so_far = rw items at c.loop-definition.invariant in
    next_is_new
    (definition_value table) table i e c.loop-definition.definitions.entries c.as_str.result.now
    c.definitions-definition-items.ensures.distinct inside is so_far c.as_str.ensures

pub loop-definition-preserved : goal.loop-definition-preserved
loop-definition-preserved c =
    let table = c.args.table.now in
    let items = c.definitions-definition-items.result.now in
    let i = c.loop-definition.definition-index in
    let e = c.definition-item.result in
    let name = c.as_str.result.now in
    let schema = c.in_ok-schema.schema in
    let row : Definition → List ℕ × Schema = λ d. (d.name, definition_value table d) in
    let inside : i < length items = omega arith in
    let is_row : ◌≡◌ {A = List ℕ × Schema} (chars name, schema) (row e) =
    cc (c.as_str.ensures, c.in_ok-schema.ensures) in
    named_last c.loop-definition.definitions.entries c.define.new.definitions.entries name schema c.in_ok-define.ensures
    ∙ ap (λ (names : SchemasInOrder). names ++ (chars name, schema) ∷ []) c.loop-definition.invariant
    ∙ ap (λ (entry : List ℕ × Schema). map row (take i items) ++ entry ∷ []) (is_row ∙ ap row c.definition-item.is)
    ∙ sym (map_more row items i e inside)
