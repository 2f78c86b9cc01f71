use Rattle.std.proofs.Common.{codes, ap, ◌∙◌}
use Rattle.openapi_values.specs.Pages.{query_rule}
use Rattle.openapi_values.specs.RequestParameters.{placed_holds}
use Rattle.openapi_values.specs.TextAdmits.{text_admitted}
use Rattle.openapi_values.proofs.CallerLemmas.{parameter_read, found_sound}
use Rattle.request_admission.proofs.Found.{found}
use Rattle.request_admission.proofs.parameters.parameter_holds.Goals as goal

pub returns : goal.returns
returns c =
    let doc = c.args.doc.now in
    let rule = query_rule c.args.query.now.in_pages c.args.query.now.pairs.now.pairs.now in
    let schema = c.in-Some-get_word.schema.now in
    c.placed_holds.ensures
    ∙ ap (λ required. placed_holds c.args.request.now rule (text_admitted doc schema) required c.in-Some-text_of.name.now c.in-Some.place.now) c.is_true_at-required.ensures
    ∙ parameter_read doc c.args.request.now rule c.args.parameter.now c.in-Some.place.now c.in-Some-text_of.name.now schema
    (found _ _ _ c.in-Some.is c.text_of.ensures) (found _ _ _ c.in-Some-text_of.is c.text_of-2.ensures) (found _ _ _ c.in-Some-get_word.is c.get_word.ensures)

pub placed_holds-requires-clause-schema : goal.placed_holds-requires-clause-schema
placed_holds-requires-clause-schema c = found_sound (codes "schema") c.args.parameter.now c.in-Some-get_word.schema.now c.requires.parameter (found _ _ _ c.in-Some-get_word.is c.get_word.ensures)
