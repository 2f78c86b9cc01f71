use Rattle.std.proofs.Common.{◌≡◌, List, [], ◌∷◌, ◌++◌, None, Some, unwrap_or, rules, refl, sym, ap, ◌∙◌}
use Rattle.std.specs.Option.{option_or}
use Rattle.schema_values.specs.declared.schema.SchemaObject.{out-SchemaObject}
use Rattle.openapi_values.specs.Refusal.{Refusal, first_of, object_level, items_of, own_items_refusal, enum_conflict, const_unsupported, values_refusal, bounds_refusal, kinds_refusal}
use Rattle.openapi_values.proofs.refusal.own_refusal.Goals as goal

-- the answer is the first refusal of those that were asked
record First (asked : List Refusal) (answer : Refusal) : Type 0 where
  is : answer ≡ first_of asked

first_more : (asked : List Refusal) (refusal : Refusal) → first_of (asked ++ refusal ∷ []) ≡ option_or (first_of asked) refusal
first_more [] None = refl
first_more [] (Some e) = refl
first_more (None ∷ asked) refusal = first_more asked refusal
first_more (Some e ∷ asked) refusal = refl

next : {asked : List Refusal} {answer : Refusal} → First asked answer → (refusal later : Refusal) → later ≡ option_or answer refusal → First (asked ++ refusal ∷ []) later
next {asked} {answer} first refusal later e = record { is = e ∙ ap (λ a. option_or a refusal) first.is ∙ sym (first_more asked refusal) }

pub returns : goal.returns
returns c =
    let schema = out-SchemaObject c.args.schema.now in
    let level = object_level c.args.schema.now in
    let none : First [] None = record { is = refl } in
    let types = next none _ _ c.types_refusal.ensures in
    let items = next types (own_items_refusal schema.instance_type (items_of level)) c.or_else.result (search rules) in
    let among = next items (enum_conflict schema.const_value schema.enum_values) c.or_else-2.result (search rules) in
    let alone = next among (const_unsupported schema.const_value schema.instance_type level.subschemas) c.or_else-3.result (search rules) in
    let values = next alone (values_refusal schema.instance_type (unwrap_or schema.enum_values [])) c.or_else-4.result (search rules) in
    let bounds = next values (bounds_refusal schema.number) c.or_else-5.result (search rules) in
    (next bounds (kinds_refusal schema.instance_type level.subschemas) c.or_else-6.result (search rules)).is
