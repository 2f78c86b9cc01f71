use Rattle.std.proofs.Common.{◌≡◌, ◌∙◌, suc, Bool, option_map, take, codes, chars, sym, ap, arith}
use Rattle.std.proofs.lemmas.List.{length-take}
use Rattle.std.proofs.lemmas.List.Sums.{count_by-le-length}
use Rattle.schema_values.specs.declared.json_value.Json.{Json}
use Rattle.schema_values.proofs.CallerLemmas.{items_sound, members_sound}
use Rattle.openapi_values.specs.Steps.{left}
use Rattle.openapi_values.specs.TextAdmits.{text_within}
use Rattle.openapi_values.proofs.SoundLevels.{named_sound, definition_sound}
use Rattle.openapi_values.proofs.StepsLeft.{left_end, items_passed, members_passed}
use Rattle.openapi_values.proofs.TextWithin.{within-zero, within-suc}
use Rattle.openapi_values.proofs.texts.TextReader.+admits.Goals as goal

pub admits-returns-in-End : goal.admits-returns-in-End
admits-returns-in-End t c =
    let none : left c.args.steps.now ≡ 0 = ap left c.in-End.is ∙ left_end in
    rw none (sym (within-zero c.args.self.now.doc.now (chars c.args.self.now.text.now) c.args.schema.now))

pub admits-step-requires : goal.admits-step-requires
admits-step-requires t c =
    let less : suc (left c.inside.result) ≡ left c.args.steps.now = items_passed c.args.steps.now c.in-Items.first c.in-Items.later c.in-Items.after _ _ c.in-Items.is c.of_items-after.ensures c.inside.ensures in
    (omega (arith, c.decreases, less), (c.requires.doc, c.requires.schema))

pub admits-returns-in-Items : goal.admits-returns-in-Items
admits-returns-in-Items t c =
    let less : suc (left c.inside.result) ≡ left c.args.steps.now = items_passed c.args.steps.now c.in-Items.first c.in-Items.later c.in-Items.after _ _ c.in-Items.is c.of_items-after.ensures c.inside.ensures in
    c.step.ensures ∙ within-suc c.args.self.now.doc.now (chars c.args.self.now.text.now) _ _ c.args.schema.now less

pub admits-step-requires-in-Members : goal.admits-step-requires-in-Members
admits-step-requires-in-Members t c =
    let less : suc (left c.inside-in-Members.result) ≡ left c.args.steps.now = members_passed c.args.steps.now c.in-Members.first c.in-Members.later c.in-Members.after _ _ c.in-Members.is c.of_members-after.ensures c.inside-in-Members.ensures in
    (omega (arith, c.decreases, less), (c.requires.doc, c.requires.schema))

pub admits-returns-in-Members : goal.admits-returns-in-Members
admits-returns-in-Members t c =
    let less : suc (left c.inside-in-Members.result) ≡ left c.args.steps.now = members_passed c.args.steps.now c.in-Members.first c.in-Members.later c.in-Members.after _ _ c.in-Members.is c.of_members-after.ensures c.inside-in-Members.ensures in
    c.step-in-Members.ensures ∙ within-suc c.args.self.now.doc.now (chars c.args.self.now.text.now) _ _ c.args.schema.now less

pub step-reference_or_form-requires : goal.step-reference_or_form-requires
step-reference_or_form-requires t c =
    (omega (arith, c.decreases), (c.requires.doc, (c.requires.schema, members_sound _ _ _ c.in-Object.is c.as_slice.ensures c.requires.schema)))

pub definition_admits-admits-requires : goal.definition_admits-admits-requires
definition_admits-admits-requires t c =
    let found = sym c.definition_named.ensures ∙ ap (option_map (λ json. json.now)) c.in-Some.is in
    (omega (arith, c.requires.1.0), (c.requires.1.1, definition_sound c.args.self.now.doc.now (chars c.args.name.now) c.in-Some.definition.now c.requires.1.1 found))

pub form_admits-all_admits-requires : goal.form_admits-all_admits-requires
form_admits-all_admits-requires t c =
    let found = sym c.find_word.ensures ∙ ap (option_map (λ json. json.now)) c.in-Some.is in
    (omega (arith, c.decreases), (c.requires.doc, named_sound (codes "allOf") c.args.members.now c.in-Some.schemas.now c.requires.members found))

pub one_or_typed-one_admits-requires : goal.one_or_typed-one_admits-requires
one_or_typed-one_admits-requires t c =
    let found = sym c.find_word.ensures ∙ ap (option_map (λ json. json.now)) c.in-Some.is in
    (omega (arith, c.decreases), (c.requires.doc, named_sound (codes "oneOf") c.args.members.now c.in-Some.schemas.now c.requires.members found))

pub all_admits-only_admits-requires : goal.all_admits-only_admits-requires
all_admits-only_admits-requires t c = (omega (arith, c.decreases), (c.requires.doc, items_sound _ _ _ c.in-List.is c.as_slice.ensures c.requires.schemas))

pub one_admits-count_admitting-requires : goal.one_admits-count_admitting-requires
one_admits-count_admitting-requires t c = (omega (arith, c.decreases), (c.requires.doc, items_sound _ _ _ c.in-List.is c.as_slice.ensures c.requires.schemas))

pub count_admitting-overflow_add-count : goal.count_admitting-overflow_add-count
count_admitting-overflow_add-count t c =
    let p : Json → Bool = text_within c.args.self.now.doc.now (chars c.args.self.now.text.now) (left c.args.next.now) in
    let most = count_by-le-length p (take c.loop-schema.schema-index c.args.schemas.now) in
    omega (arith, most, length-take {A = Json})
