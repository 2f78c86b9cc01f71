use Rattle.std.proofs.Common.{Some, sym, ◌∙◌, ap}
use Rattle.std.proofs.Math.Utf8.{encodes}
use Rattle.std.proofs.lemmas.Str.{encodes-chars}
use Rattle.schema_util.specs.Forms.{schema_form, form_of}
use Rattle.schema_util.specs.References.{reference_in}
use Rattle.schema_util.proofs.Levels.{form_of_object}
use Rattle.schema_util.proofs.references.reference_of.Goals as goal

pub returns-in-Reference : goal.returns-in-Reference
returns-in-Reference c =
    ap Some (sym (ap encodes c.as_str.ensures ∙ encodes-chars c.as_str.result.now c.as_str.utf8))
    ∙ ap reference_in (c.in-Reference.ensures ∙ ap form_of c.get.ensures)
    ∙ ap reference_in (sym (ap schema_form c.in-Object.is ∙ form_of_object c.in-Object.object))
