use Rattle.std.proofs.Common.{refl}
use Rattle.handler_shapes.proofs.ShortSlots.{short-last}
use Rattle.handler_shapes.proofs.body_slots.+body_comes_last.Goals as goal

pub returns-in-len1 : goal.returns-in-len1
returns-in-len1 n c = (λ t. short-last c.args.slots.now c.in-len1.len_below, λ h. refl)
