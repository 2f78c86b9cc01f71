-- What the range of two versions holds, by how a version compares with the second.
use Rattle.std.specs.Prelude.{◌≡◌, ◌↔◌}
use Rattle.std.proofs.Common.{refl, sym, ap, ◌∙◌, subst, inl, inr}
use Rattle.std.specs.declared.cmp.Ordering.TheVariants.{Equal, Greater}
use Rattle.std.specs.Ordering.{is_lt}
use Rattle.semver.specs.Parse.{Parts}
use Rattle.api_versions.specs.Order.{IsAtLeast, version_cmp}
use Rattle.api_versions.specs.Ranges.{Holds, from_until}
use Rattle.api_versions.proofs.Orders.{at_least_itself, ties_itself, version_anti}

-- the second itself is held where it is the first
pub held_at : (earliest end version : Parts) → version_cmp version end ≡ Equal
    → (version ≡ earliest) ↔ Holds (from_until earliest end) version
held_at earliest end version tie =
    let same : version ≡ end = version_anti version end tie in (
      λ first. (
        subst (λ v. IsAtLeast v earliest) (sym first) (at_least_itself earliest),
        inr (same, sym same ∙ first),
      ),
      λ held. elim held.1 [
        | inl below ↦ cc (sym below ∙ ap is_lt tie)
        | inr one ↦ one.0 ∙ one.1
      ],
    )

-- what is above the second is not held
pub above_not_held : (earliest end version : Parts) → version_cmp version end ≡ Greater
    → ¬ Holds (from_until earliest end) version
above_not_held earliest end version above held = elim held.1 [
  | inl below ↦ cc (sym below ∙ ap is_lt above)
  | inr one ↦ cc (sym above ∙ ap (version_cmp version) (sym one.0) ∙ ties_itself version)
]

-- from a version until the same one just that version is held
pub one_held : (version other : Parts) → Holds (from_until version version) other ↔ (other ≡ version)
one_held version other = (
  λ held. elim held.1 [ inl below ↦ cc (sym below ∙ held.0) | inr one ↦ one.0 ],
  λ same. (subst (λ v. IsAtLeast v version) (sym same) (at_least_itself version), inr (same, refl)),
)
