use Rattle.std.proofs.Common.{sym, ◌∙◌, ap}
use Rattle.std.proofs.Math.Utf8.{encodes}
use Rattle.std.proofs.lemmas.Str.{encodes-chars}
use Rattle.schema_util.specs.Code.{asked_of}
use Rattle.schema_util.specs.Forms.{form_of}
use Rattle.schema_util.specs.Scalars.{refers, finding, finding_of_form, single_type}
use Rattle.schema_util.proofs.Levels.{finding_of_object}
use Rattle.schema_util.proofs.scalar.look_into.Goals as goal

pub returns-in-Reference : goal.returns-in-Reference
returns-in-Reference c =
    ap refers (sym (ap encodes c.as_str.ensures ∙ encodes-chars c.as_str.result.now c.as_str.utf8))
    ∙ ap (λ form. finding_of_form (asked_of c.args.wanted) form (single_type c.get.result.now)) c.in-Reference.ensures
    ∙ ap (λ object. finding_of_form (asked_of c.args.wanted) (form_of object) (single_type object)) c.get.ensures
    ∙ sym (ap (finding (asked_of c.args.wanted)) c.in-Object.is ∙ finding_of_object (asked_of c.args.wanted) c.in-Object.object)
