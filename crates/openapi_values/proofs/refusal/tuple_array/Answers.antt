use Rattle.std.proofs.Common.{refl}
use Rattle.openapi_values.proofs.RefusalLevels.{item-is, tuple-is}
use Rattle.openapi_values.proofs.refusal.tuple_array.Goals as goal

pub returns-in-One : goal.returns-in-One
returns-in-One c = rw (c.in-One.is, item-is c.in-One.field-0) refl

pub returns-in-Tuple : goal.returns-in-Tuple
returns-in-Tuple c = rw (c.in-Tuple.is, tuple-is c.in-Tuple.field-0) refl
