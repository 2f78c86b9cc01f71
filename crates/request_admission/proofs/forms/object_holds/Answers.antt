use Rattle.std.proofs.Common.{codes}
use Rattle.request_admission.proofs.SoundOperations.{named_told}
use Rattle.request_admission.proofs.forms.object_holds.Goals as goal

pub fields_hold-requires-clause-properties : goal.fields_hold-requires-clause-properties
fields_hold-requires-clause-properties c = named_told (codes "properties") c.args.schema.now c.requires.schema c.find_word.result c.find_word.ensures
