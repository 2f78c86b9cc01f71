use Rattle.schema_values.proofs.CallerLemmas.{members_sound}
use Rattle.request_admission.proofs.forms.object_fields_hold.Goals as goal

pub properties_hold-requires-clause-properties : goal.properties_hold-requires-clause-properties
properties_hold-requires-clause-properties c = members_sound _ _ _ c.in-Object.is c.as_slice.ensures c.requires.properties
