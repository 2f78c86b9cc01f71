use Rattle.std.proofs.Common.{take}
use Rattle.reply_lines.proofs.ReplyTexts.{PairsWritten}
use Rattle.reply_lines.proofs.writing.write_pairs.Given as goal

-- the lines so far, as pairs
abbrev pub invariant-loop-index : goal.invariant-loop-index
invariant-loop-index l = PairsWritten (take l.index l.lines) l.initial.out l.out
