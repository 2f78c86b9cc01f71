use Rattle.std.proofs.Common.{List, Some, ap, sym, ◌∙◌, subst}
use Rattle.std.specs.Prelude.{Contains}
use Rattle.descriptors.specs.declared.desc.Field.{Field}
use Rattle.flat_maps.proofs.Arms.{open_struct, denied_struct, no_struct}
use Rattle.scalar_texts.proofs.CallerLemmas.{fields_pass}
use Rattle.flat_maps.proofs.resolve.open_fields.Goals as goal

pub returns-then-deny_unknown-clause-fields : goal.returns-then-deny_unknown-clause-fields
returns-then-deny_unknown-clause-fields c = sym (denied_struct c.args.desc.now c.in-Struct.fields c.in-Struct.deny_unknown c.in-Struct.is c.if-deny_unknown.true)

pub returns-else-deny_unknown-clause-fields : goal.returns-else-deny_unknown-clause-fields
returns-else-deny_unknown-clause-fields c =
    ap Some c.as_slice.ensures ∙ sym (open_struct c.args.desc.now c.in-Struct.fields c.in-Struct.deny_unknown c.in-Struct.is c.if-deny_unknown.false)

pub returns-else-deny_unknown-clause-passes : goal.returns-else-deny_unknown-clause-passes
returns-else-deny_unknown-clause-passes c table passes right f inside =
    fields_pass table passes c.args.desc.now right c.in-Struct.fields c.in-Struct.deny_unknown c.in-Struct.is f (subst (λ (fs : List Field). Contains fs f) c.as_slice.ensures inside)

pub returns-in_default-clause-fields : goal.returns-in_default-clause-fields
returns-in_default-clause-fields c = sym (no_struct c.args.desc.now c.in_default.not-Struct)
