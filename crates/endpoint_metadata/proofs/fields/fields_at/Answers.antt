use Rattle.std.proofs.Common.{Some, ap, sym, ◌∙◌}
use Rattle.endpoint_metadata.proofs.Structs.{no_struct, struct}
use Rattle.endpoint_metadata.proofs.fields.fields_at.Goals as goal

pub returns-in-Struct : goal.returns-in-Struct
returns-in-Struct c =
    ap Some c.as_slice.ensures ∙ sym (struct c.args.desc.now c.in-Struct.fields c.in-Struct.deny_unknown c.in-Struct.is)

pub returns-in_default : goal.returns-in_default
returns-in_default c = sym (no_struct c.args.desc.now c.in_default.not-Struct)
