-- The test for a range that holds a version decides whether it does.
use Rattle.std.specs.Prelude.{◌≡◌, ◌↔◌, ◌⊎◌, Bool, true, false, not, ◌||◌, IsTrue}
use Rattle.std.proofs.Common.{refl, sym, ap, ◌∙◌, inl, inr}
use Rattle.std.proofs.lemmas.Bool.{and_from, and_parts}
use Rattle.std.specs.Cmp.{Equal-is}
use Rattle.semver.specs.Parse.{Parts}
use Rattle.api_versions.specs.Order.{is_below, version_cmp}
use Rattle.api_versions.specs.Ranges.{Holds, VersionRange, all, from, from_until, until}
use Rattle.api_versions.proofs.CallerLemmas.{ties_itself, version_anti}
use Rattle.api_declarations.specs.Serving.{holds, is_version}

one_version : (version other : Parts) → (is_version version other ≡ true) ↔ (version ≡ other)
one_version version other =
    let ties = Equal-is (version_cmp version other) in (
      λ e. version_anti version other (ties.0 e),
      λ e. ties.1 (ap (version_cmp version) (sym e) ∙ ties_itself version),
    )

not_so : (b : Bool) → (not b ≡ true) ↔ (b ≡ false)
not_so true = (λ e. cc e, λ e. cc e)
not_so false = (λ e. refl, λ e. refl)

either : (a b : Bool) → ((a || b) ≡ true) ↔ ((a ≡ true) ⊎ (b ≡ true))
either true b = (λ e. inl refl, λ e. refl)
either false b = (λ e. inr e, λ e. elim e [ inl never ↦ cc never | inr so ↦ so ])

pub held : (range : VersionRange) (version : Parts) → IsTrue (holds range version) ↔ Holds range version
held all version = (λ e. tt, λ h. refl)
held (from earliest) version = not_so (is_below version earliest)
held (from_until earliest end) version = (
  λ e.
      let both = and_parts _ _ e in (
        (not_so (is_below version earliest)).0 both.0,
        elim ((either (is_below version end) _).0 both.1) [
          | inl below ↦ inl below
          | inr ties ↦ let two = and_parts _ _ ties in inr ((one_version version end).0 two.0, (one_version end earliest).0 two.1)
        ],
      ),
  λ h.
      and_from _ _ ((not_so (is_below version earliest)).1 h.0) ((either (is_below version end) _).1 (elim h.1 [
        | inl below ↦ inl below
        | inr same ↦ inr (and_from _ _ ((one_version version end).1 same.0) ((one_version end earliest).1 same.1))
      ])),
)
held (until end) version = (λ e. e, λ h. h)
