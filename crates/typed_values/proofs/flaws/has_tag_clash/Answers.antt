use Rattle.typed_values.proofs.Fields.{HasTagClash-tagged}
use Rattle.typed_values.proofs.flaws.has_tag_clash.Goals as goal

pub returns-in-Tagged : goal.returns-in-Tagged
returns-in-Tagged c =
    let t = c.in-Tagged in
    let i = HasTagClash-tagged c.args.desc.now t.tag t.variants t.is in
    let e = rw c.as_slice.ensures at c.some_field_named.ensures in
    (λ h. i.1 (e.0 h), λ h. e.1 (i.0 h))
