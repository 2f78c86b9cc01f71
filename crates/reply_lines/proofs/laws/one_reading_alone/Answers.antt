use Rattle.std.proofs.Common.{◌≡◌, ◌∙◌, arith, sym, true, false}
use Rattle.reply_lines.proofs.laws.one_reading_alone.Goals as goal

pub returns-clause-whole : goal.returns-clause-whole
returns-clause-whole c budget body whole = (
  λ fault.
      let same : true ≡ false =
      sym fault.fails ∙ whole.none_fails fault.earlier (omega (arith, fault.reached)) in
      cc same,
  λ more. absurd (omega (arith, whole.few, more.many)),
)

pub returns-clause-fails : goal.returns-clause-fails
returns-clause-fails c budget body fault = (
  λ whole.
      let same : true ≡ false =
      sym fault.fails ∙ whole.none_fails fault.earlier (omega (arith, fault.reached)) in
      cc same,
  λ more.
      let same : true ≡ false =
      sym fault.fails ∙ more.none_fails fault.earlier (omega (arith, fault.within)) in
      cc same,
)

pub returns-clause-many : goal.returns-clause-many
returns-clause-many c budget body more = (
  λ whole. absurd (omega (arith, whole.few, more.many)),
  λ fault.
      let same : true ≡ false =
      sym fault.fails ∙ more.none_fails fault.earlier (omega (arith, fault.within)) in
      cc same,
)
