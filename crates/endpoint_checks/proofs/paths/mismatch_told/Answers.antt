use Rattle.std.proofs.Common.{◌≡◌, [], ap, ap₂, option_map, sym, unwrap_or, ◌∙◌}
use Rattle.path_templates.specs.Segments.{template_names}
use Rattle.path_templates.specs.Templates.{names_of}
use Rattle.endpoint_checks.specs.Names.{missing_in}
use Rattle.endpoint_parameters.specs.Parameters.{parameters, path_names}
use Rattle.endpoint_checks.proofs.paths.mismatch_told.Goals as goal

pub returns-then-is_empty-2 : goal.returns-then-is_empty-2
returns-then-is_empty-2 c message told =
    let e = c.args.endpoint.now in
    let variables = c.in_ok-variables.ensures ∙ ap (λ segments. unwrap_or (option_map names_of segments) []) c.requires.template in
    let taken = c.in_ok-taken.ensures ∙ ap path_names c.requires.parameters in
    let no_unconsumed : missing_in (path_names (parameters e.shape)) (template_names e.path) ≡ [] =
    sym (ap₂ missing_in (c.as_slice.ensures ∙ taken) (c.as_slice-2.ensures ∙ variables)) ∙ sym c.in_ok-unconsumed.ensures ∙ c.is_empty.ensures.0 c.if-is_empty.true in
    let no_unspecified : missing_in (template_names e.path) (path_names (parameters e.shape)) ≡ [] =
    sym (ap₂ missing_in (c.as_slice-3.ensures ∙ variables) (c.as_slice-4.ensures ∙ taken)) ∙ sym c.in_ok-unspecified.ensures ∙ c.is_empty-then-is_empty.ensures.0 c.if-is_empty-2.true in
    told.0 (no_unconsumed, no_unspecified)
