use Rattle.typed_values.proofs.Naming.{Names-option, Names-untagged, Names-ref}
use Rattle.typed_values.proofs.search.+names.Goals as goal

pub names-returns-in-Option : goal.names-returns-in-Option
names-returns-in-Option t c =
    let i = Names-option c.args.name.now c.args.desc.now c.in-Option.inner c.in-Option.is in
    let e = rw c.get.ensures at c.names.ensures in
    (λ h. i.1 (e.0 h), λ h. e.1 (i.0 h))

pub names-returns-in-Untagged : goal.names-returns-in-Untagged
names-returns-in-Untagged t c =
    let i = Names-untagged c.args.name.now c.args.desc.now c.in-Untagged.alternatives c.in-Untagged.is in
    let e = rw c.as_slice.ensures at c.some_names.ensures in
    (λ h. i.1 (e.0 h), λ h. e.1 (i.0 h))

pub names-returns-in-Ref : goal.names-returns-in-Ref
names-returns-in-Ref t c =
    let i = Names-ref c.args.name.now c.args.desc.now c.in-Ref.found c.in-Ref.is in
    (λ h. i.1 (c.equals.ensures.0 h), λ h. c.equals.ensures.1 (i.0 h))
