use Rattle.std.proofs.Common.{sym, true≢false}
use Rattle.typed_values.specs.Checks.{names_of_fields}
use Rattle.typed_values.proofs.Fields.{HasDoubledName-struct, HasDoubledName-enumeration, HasDoubledName-external, HasDoubledName-tagged, some_doubled, none_doubled}
use Rattle.typed_values.proofs.flaws.has_doubled_name.Goals as goal

pub returns-in-Struct : goal.returns-in-Struct
returns-in-Struct c =
    let s = c.in-Struct in
    let e = rw c.as_slice.ensures at c.are_distinct.ensures in
    HasDoubledName-struct c.args.desc.now s.fields s.deny_unknown c.are_distinct.result s.is e

pub returns-in-Enumeration : goal.returns-in-Enumeration
returns-in-Enumeration c =
    let e = rw c.as_slice-in-Enumeration.ensures at c.are_distinct-in-Enumeration.ensures in
    HasDoubledName-enumeration c.args.desc.now c.in-Enumeration.names c.are_distinct-in-Enumeration.result c.in-Enumeration.is e

pub returns-in-External : goal.returns-in-External
returns-in-External c =
    let e = rw c.as_slice-in-External.ensures at c.are_distinct-in-External.ensures in
    HasDoubledName-external c.args.desc.now c.in-External.variants c.are_distinct-in-External.result c.in-External.is e

pub returns-else-not-are_distinct : goal.returns-else-not-are_distinct
returns-else-not-are_distinct c =
    let t = c.in-Tagged in
    let i = HasDoubledName-tagged c.args.desc.now t.tag t.variants t.is in
    let e = rw c.as_slice-in-Tagged.ensures at c.are_distinct-in-Tagged.ensures in
    let f = rw c.as_slice-else-not-are_distinct.ensures at c.has_doubled_field.ensures in
    let some = some_doubled names_of_fields t.variants c.has_doubled_field.result f in
    (λ h. i.1 (λ s. some.0 h s.1), λ h. some.1 (λ s. i.0 h (e.0 c.if-not-are_distinct.false, s)))

pub returns-in_default : goal.returns-in_default
returns-in_default c =
    let d = c.in_default in
    (λ h. absurd (true≢false (sym h)), λ h. absurd (none_doubled c.args.desc.now d.not-Struct d.not-Enumeration d.not-External d.not-Tagged h))
