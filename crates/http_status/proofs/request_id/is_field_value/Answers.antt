use Rattle.std.proofs.Common.{◌∙◌, IsTrue, arith, refl, subst, sym, take_all, true≢false, ℕ}
use Rattle.std.proofs.lemmas.List.Elements.{All-get_or, All-more}
use Rattle.http_header.specs.Token.{AllPass, is_value_byte}
use Rattle.http_status.proofs.request_id.is_field_value.Goals as goal

pub returns-then-not-is_value_byte : goal.returns-then-not-is_value_byte
returns-then-not-is_value_byte c =
    let Passes = λ (b : ℕ). IsTrue (is_value_byte b) in (
      λ h. absurd (true≢false (sym h)),
      λ all. sym c.if-not-is_value_byte.true ∙ c.is_value_byte.ensures
          ∙ All-get_or Passes c.args.bytes.now c.loop-byte.byte-index 0 c.loop-byte-test.true all,
    )

pub loop-byte-preserved : goal.loop-byte-preserved
loop-byte-preserved c =
    let Passes = λ (b : ℕ). IsTrue (is_value_byte b) in
    All-more Passes c.args.bytes.now c.loop-byte.byte-index 0 c.loop-byte-test.true c.loop-byte.invariant
    (sym c.is_value_byte.ensures ∙ c.if-not-is_value_byte.false)

pub returns : goal.returns
returns c =
    let bytes = c.args.bytes.now in (
      λ h. subst (AllPass is_value_byte) (take_all c.loop-byte.byte-index bytes (omega (arith, c.loop-byte-test.false))) c.loop-byte.invariant,
      λ all. refl,
    )
