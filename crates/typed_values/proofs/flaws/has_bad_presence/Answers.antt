use Rattle.std.proofs.Common.{sym, true≢false}
use Rattle.typed_values.proofs.Fields.{HasBadPresence-struct, HasBadPresence-tagged, no_bad_presence}
use Rattle.typed_values.proofs.flaws.has_bad_presence.Goals as goal

pub returns-in-Struct : goal.returns-in-Struct
returns-in-Struct c =
    let i = HasBadPresence-struct c.args.table.now c.args.desc.now c.in-Struct.fields c.in-Struct.deny_unknown c.in-Struct.is in
    let e = rw c.as_slice.ensures at c.some_bad_field.ensures in
    (λ h. i.1 (e.0 h), λ h. e.1 (i.0 h))

pub returns-in-Tagged : goal.returns-in-Tagged
returns-in-Tagged c =
    let i = HasBadPresence-tagged c.args.table.now c.args.desc.now c.in-Tagged.tag c.in-Tagged.variants c.in-Tagged.is in
    let e = rw c.as_slice-in-Tagged.ensures at c.some_bad_variant.ensures in
    (λ h. i.1 (e.0 h), λ h. e.1 (i.0 h))

pub returns-in_default : goal.returns-in_default
returns-in_default c = (λ h. absurd (true≢false (sym h)), λ h. absurd (no_bad_presence c.args.table.now c.args.desc.now c.in_default.not-Struct c.in_default.not-Tagged h))
