use Rattle.reply_lines.proofs.ReplyTexts.{no_pair_written, pair_written}
use Rattle.reply_lines.proofs.writing.write_pairs.Goals as goal

pub loop-index-init : goal.loop-index-init
loop-index-init c = no_pair_written c.args.out.now

pub loop-index-preserved : goal.loop-index-preserved
loop-index-preserved c =
    pair_written c.args.lines.now c.loop-index.index c.index-lines-index.result c.args.out.now c.loop-index.out
    c.write_comma.new.out c.write_pair.new.out
    c.loop-index-test.true c.index-lines-index.is c.loop-index.invariant c.in_ok-write_comma.ensures.ok
    c.in_ok-write_pair.ensures
