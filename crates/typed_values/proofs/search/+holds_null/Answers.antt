use Rattle.std.proofs.Common.{refl}
use Rattle.typed_values.proofs.Naming.{HoldsNull-at_once, HoldsNull-untagged}
use Rattle.typed_values.proofs.search.+holds_null.Goals as goal

pub holds_null-returns-in-Any : goal.holds_null-returns-in-Any
holds_null-returns-in-Any t c = (λ h. HoldsNull-at_once c.args.desc.now c.in-Any.is, λ h. refl)

pub holds_null-returns-in-Any-2 : goal.holds_null-returns-in-Any-2
holds_null-returns-in-Any-2 t c = (λ h. HoldsNull-at_once c.args.desc.now c.in-Any.is, λ h. refl)

pub holds_null-returns-in-Any-3 : goal.holds_null-returns-in-Any-3
holds_null-returns-in-Any-3 t c = (λ h. HoldsNull-at_once c.args.desc.now c.in-Any.is, λ h. refl)

pub holds_null-returns-in-Untagged : goal.holds_null-returns-in-Untagged
holds_null-returns-in-Untagged t c =
    let i = HoldsNull-untagged c.args.desc.now c.in-Untagged.alternatives c.in-Untagged.is in
    let e = rw c.as_slice.ensures at c.some_holds_null.ensures in
    (λ h. i.1 (e.0 h), λ h. e.1 (i.0 h))
