use Rattle.std.proofs.Common.{◌≡◌, false, true, inl, inr, ap, map, not, subst, sym, ◌∙◌}
use Rattle.std.proofs.lemmas.Bool.{cases_Bool}
use Rattle.std.specs.Prelude.{Contains}
use Rattle.endpoint_checks.proofs.Configured.{found_among}
use Rattle.endpoint_checks.proofs.tags.UnknownConditionText.holds.Goals as goal

pub returns-clause-holds : goal.returns-clause-holds
returns-clause-holds c =
    let tag = c.args.tag.now in
    let names = ap (λ config. map (λ e. e.0) config.tags) c.config.view_is in
    let both = found_among tag c.config.inside.tags.entries in (
      λ lacks among.
          let found = c.contains_key.ensures ∙ both.1 (subst (λ ns. Contains ns tag) (sym names) among) in
          let clash : false ≡ true = sym (ap not found) ∙ lacks in cc clash,
      λ unknown. elim (cases_Bool c.contains_key.result) [
        | inl found ↦ absurd (unknown (subst (λ ns. Contains ns tag) names (both.0 (sym c.contains_key.ensures ∙ found))))
        | inr lacks ↦ ap not lacks
      ],
    )
