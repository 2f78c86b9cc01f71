use Rattle.std.proofs.Common.{◌∙◌, ℕ, List, ap₂, sym}
use Rattle.schema_values.specs.declared.json_value.Member.{Member}
use Rattle.schema_values.proofs.CallerLemmas.{chars-all_ascii}
use Rattle.request_lines.proofs.NamedValues.{others_kept, place_in, value_absent, value_taken}
use Rattle.request_lines.proofs.members.take_value.Goals as goal

pub returns-in_err-place-clause-value : goal.returns-in_err-place-clause-value
returns-in_err-place-clause-value c =
    let name = c.args.name.now in
    let same = ap₂ (λ (key : List ℕ) (ms : List Member). place_in key ms) (chars-all_ascii name c.requires)
    c.as_slice.ensures.value in
    c.from_residual.ensures ∙ sym (value_absent c.args.members.now.items name (sym (c.in_err-place.ensures ∙ same)))

pub returns-clause-value : goal.returns-clause-value
returns-clause-value c =
    let name = c.args.name.now in
    let same = ap₂ (λ (key : List ℕ) (ms : List Member). place_in key ms) (chars-all_ascii name c.requires)
    c.as_slice.ensures.value in
    sym (value_taken c.args.members.now.items name c.in_ok-place.place c.remove-value.result
    (sym (c.in_ok-place.ensures ∙ same)) c.remove-value.ensures.value)

pub returns-clause-others : goal.returns-clause-others
returns-clause-others c =
    let name = c.args.name.now in
    let same = ap₂ (λ (key : List ℕ) (ms : List Member). place_in key ms) (chars-all_ascii name c.requires)
    c.as_slice.ensures.value in
    others_kept c.args.members.now.items c.remove-value.new.self.items name c.in_ok-place.place c.remove-value.result
    (sym (c.in_ok-place.ensures ∙ same)) c.remove-value.ensures.items
