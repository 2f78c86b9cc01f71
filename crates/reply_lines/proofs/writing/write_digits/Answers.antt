use Rattle.std.proofs.Common.{[], ◌∷◌, ◌++◌, ◌∙◌, ap, append-nil, arith, sym}
use Rattle.reply_lines.proofs.ReplyTexts.{byte_written}
use Rattle.reply_lines.proofs.writing.write_digits.Goals as goal

pub loop-byte-init : goal.loop-byte-init
unfolding Rattle.hex.specs.Hex.encode_with
loop-byte-init c = sym (append-nil c.args.out.now)

pub loop-byte-preserved : goal.loop-byte-preserved
loop-byte-preserved c =
    let at = c.loop-byte.byte-index in
    byte_written c.args.bytes.now at c.args.out.now c.loop-byte.out c.push.new.self c.push-in-loop-byte.new.self
    c.loop-byte-test.true (omega (arith, c.type_inv.bytes at)) c.loop-byte.invariant
    (c.in_ok-push.ensures.ok ∙ ap (λ digit. c.loop-byte.out ++ digit ∷ []) c.digit.ensures)
    (c.in_ok-push-2.ensures.ok ∙ ap (λ digit. c.push.new.self ++ digit ∷ []) c.digit-in-loop-byte.ensures)
