use Rattle.std.proofs.Common.{◌*◌, sym, ◌∙◌, ap, arith}
use Rattle.std.proofs.Math.Utf8.{encodes}
use Rattle.std.proofs.lemmas.Str.{encodes-chars}
use Rattle.std.proofs.lemmas.Result.{err_from_is_err_and, on_ok_weaker, IfErr-weaker}
use Rattle.std.specs.HashMap.{get_by_text}
use Rattle.std.specs.Option.{option_copied}
use Rattle.schema_values.specs.declared.schema.Schema.{size-Schema}
use Rattle.schema_util.specs.Forms.{schema_form}
use Rattle.schema_util.specs.Met.{names_met}
use Rattle.schema_util.specs.References.{reason_of}
use Rattle.schema_util.specs.StructMembers.{is_enumeration, is_no_object, breaks, has_others, of_enumeration, of_no_object, misfit_of}
use Rattle.schema_util.proofs.Chains.{met_longer}
use Rattle.schema_util.proofs.Levels.{form_of_truth}
use Rattle.schema_util.proofs.Sizes.{falls}
use Rattle.schema_util.proofs.Steps.{followed}
use Rattle.schema_util.proofs.StructSteps.{formed, enumerated, without_object, refers_to, reference_given, reference_refused, struct_given, struct_refused, one_more, one_stops, all_given}
use Rattle.schema_util.proofs.struct_members.+add.Goals as goal

pub add_each-returns-in_err-add_struct-clause-refused : goal.add_each-returns-in_err-add_struct-clause-refused
add_each-returns-in_err-add_struct-clause-refused t c =
    let p = err_from_is_err_and c.from_residual.result c.from_residual.ensures.1 in
    rw (p.1, p.2) (
    one_stops (get_by_text c.args.definitions.now) (names_met c.args.met) c.args.required c.args.schemas.now c.args.members.now c.loop-schema.schema-index
    c.schema-item.result c.loop-schema.members (omega arith) c.schema-item.is c.loop-schema.invariant (misfit_of c.in_err-add_struct.field-0.0) c.in_err-add_struct.ensures.refused
    )

pub add_each-loop-schema-preserved : goal.add_each-loop-schema-preserved
add_each-loop-schema-preserved t c =
    one_more (get_by_text c.args.definitions.now) (names_met c.args.met) c.args.required c.args.schemas.now c.args.members.now c.loop-schema.schema-index
    c.schema-item.result c.loop-schema.members (omega arith) c.schema-item.is c.loop-schema.invariant c.add_struct.new.members c.in_ok-add_struct.ensures.added

pub add_each-returns-clause-added : goal.add_each-returns-clause-added
add_each-returns-clause-added t c =
    all_given (get_by_text c.args.definitions.now) (names_met c.args.met) c.args.required c.args.schemas.now c.args.members.now c.loop-schema.schema-index
    c.loop-schema.members c.loop-schema-test.false c.loop-schema.invariant

pub add_struct-add_struct-requires : goal.add_struct-add_struct-requires
add_struct-add_struct-requires t c =
    let met = names_met c.args.met in
    let s = followed (get_by_text c.args.definitions.now) met c.in-Ok.name.now c.in-Ok.next.now c.as_str.result.now (sym c.in-Ok.ensures) in
    rw (met_longer c.in-Ok.name c.args.met) (
      omega (arith, c.decreases, falls c.args.definitions.now.entries met c.in-Ok.name.now c.in-Ok.next.now 2 (2 * size-Schema c.args.schema.now) s.found s.unmet),
      tt,
    )

pub add_struct-returns-in-Ok-clause-added : goal.add_struct-returns-in-Ok-clause-added
add_struct-returns-in-Ok-clause-added t c =
    on_ok_weaker c.add_struct.result
    (reference_given (get_by_text c.args.definitions.now) (names_met c.args.met) c.args.required c.args.schema.now c.as_str.result.now c.in-Ok.name.now c.in-Ok.next.now
    (refers_to c.args.schema.now c.in-Reference.reference.now c.as_str.result.now (formed c.args.schema.now c.in-Object.object c.get.result.now _ c.in-Object.is c.get.ensures c.in-Reference.ensures) (ap encodes c.as_str.ensures ∙ encodes-chars c.as_str.result.now c.as_str.utf8)) (sym c.in-Ok.ensures) c.args.members.now c.add_struct.new.members)
    (rw met_longer at c.add_struct.ensures.added)

pub add_struct-returns-in-Ok-clause-refused : goal.add_struct-returns-in-Ok-clause-refused
add_struct-returns-in-Ok-clause-refused t c =
    IfErr-weaker c.add_struct.result _ _
    (λ error. reference_refused (get_by_text c.args.definitions.now) (names_met c.args.met) c.args.required c.args.schema.now c.as_str.result.now c.in-Ok.name.now
    c.in-Ok.next.now (refers_to c.args.schema.now c.in-Reference.reference.now c.as_str.result.now (formed c.args.schema.now c.in-Object.object c.get.result.now _ c.in-Object.is c.get.ensures c.in-Reference.ensures) (ap encodes c.as_str.ensures ∙ encodes-chars c.as_str.result.now c.as_str.utf8)) (sym c.in-Ok.ensures) (misfit_of error))
    (simp met_longer at c.add_struct.ensures.refused)

pub add_struct-returns-in_ok-of_reference-in-Err-clause-refused : goal.add_struct-returns-in_ok-of_reference-in-Err-clause-refused
add_struct-returns-in_ok-of_reference-in-Err-clause-refused t c =
    rw c.in_ok-of_reference-in-Err.ensures (breaks c.as_str.result.now (reason_of c.in-Err.error) (refers_to c.args.schema.now c.in-Reference.reference.now c.as_str.result.now (formed c.args.schema.now c.in-Object.object c.get.result.now _ c.in-Object.is c.get.ensures c.in-Reference.ensures) (ap encodes c.as_str.ensures ∙ encodes-chars c.as_str.result.now c.as_str.utf8)) (sym c.in-Err.ensures))

pub add_struct-returns-in_default-clause-refused : goal.add_struct-returns-in_default-clause-refused
add_struct-returns-in_default-clause-refused t c =
    of_no_object (ap (λ s. is_no_object (schema_form s)) c.in_default.is ∙ ap is_no_object (form_of_truth c.in_default.field-0))

pub add_struct-returns-in_default-flattened-clause-refused : goal.add_struct-returns-in_default-flattened-clause-refused
add_struct-returns-in_default-flattened-clause-refused t c =
    has_others (option_copied c.in-Struct.parts) (option_copied c.in-Struct.subschemas)
    (formed c.args.schema.now c.in-Object.object c.get.result.now _ c.in-Object.is c.get.ensures c.in-Struct.ensures) (sym c.in_default-flattened.ensures)

pub add_struct-returns-in_ok-add_properties-in-Struct-clause-added : goal.add_struct-returns-in_ok-add_properties-in-Struct-clause-added
add_struct-returns-in_ok-add_properties-in-Struct-clause-added t c =
    on_ok_weaker c.add_each.result
    (struct_given (get_by_text c.args.definitions.now) (names_met c.args.met) c.args.required c.args.schema.now
    (option_copied c.in-Struct.parts) (option_copied c.in-Struct.subschemas) c.in-Some.may_require c.in-Some.schemas.now
    (formed c.args.schema.now c.in-Object.object c.get.result.now _ c.in-Object.is c.get.ensures c.in-Struct.ensures) (sym c.in-Some.ensures)
    c.args.members.now c.add_properties.new.members c.add_each.new.members c.in_ok-add_properties-in-Struct.ensures)
    c.add_each.ensures.added

pub add_struct-returns-in_ok-add_properties-in-Struct-clause-refused : goal.add_struct-returns-in_ok-add_properties-in-Struct-clause-refused
add_struct-returns-in_ok-add_properties-in-Struct-clause-refused t c =
    IfErr-weaker c.add_each.result _ _
    (λ error. struct_refused (get_by_text c.args.definitions.now) (names_met c.args.met) c.args.required c.args.schema.now
    (option_copied c.in-Struct.parts) (option_copied c.in-Struct.subschemas) c.in-Some.may_require c.in-Some.schemas.now
    (formed c.args.schema.now c.in-Object.object c.get.result.now _ c.in-Object.is c.get.ensures c.in-Struct.ensures) (sym c.in-Some.ensures) (misfit_of error))
    c.add_each.ensures.refused

pub add_struct-returns-in-Combination-clause-refused : goal.add_struct-returns-in-Combination-clause-refused
add_struct-returns-in-Combination-clause-refused t c =
    of_enumeration (ap is_enumeration (formed c.args.schema.now c.in-Object.object c.get.result.now _ c.in-Object.is c.get.ensures c.of.ensures) ∙ enumerated c.of.result c.in-Combination.is)

pub add_struct-returns-in-Bare-clause-refused : goal.add_struct-returns-in-Bare-clause-refused
add_struct-returns-in-Bare-clause-refused t c =
    of_no_object (ap is_no_object (formed c.args.schema.now c.in-Object.object c.get.result.now _ c.in-Object.is c.get.ensures c.of.ensures) ∙ without_object c.of.result c.in-Bare.is)
