use Rattle.std.proofs.Common.{◌≡◌, take}
use Rattle.endpoint_metadata.proofs.parameter.copy_texts.Given as goal

-- the texts so far are copied
abbrev pub invariant-loop-text : goal.invariant-loop-text
invariant-loop-text l = l.copies ≡ take l.text-index l.texts
