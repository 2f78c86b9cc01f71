use Rattle.std.proofs.Common.{refl}
use Rattle.schema_util.proofs.Accepted.{faultless_is, is_faultless}
use Rattle.schema_util.proofs.laws.accepted_exactly.Goals as goal

pub returns : goal.returns
returns c = λ asked names met schema. (λ fault. faultless_is asked names fault refl, is_faultless asked names)
