use Rattle.std.proofs.Common.{refl, sym, ◌∙◌, arith}
use Rattle.std.specs.Str.{chars}
use Rattle.descriptors.specs.Definitions.{listed_name}
use Rattle.scalar_texts.proofs.Listed.{found_here, found_behind}
use Rattle.scalar_texts.proofs.scalars.find_listed.Goals as goal

pub returns-then-equals_str : goal.returns-then-equals_str
returns-then-equals_str c =
    sym (found_here listed_name c.args.names.now (chars c.args.text.now) c.loop-place.place c.index-names-place.result (omega arith) c.index-names-place.is (c.if-equals_str.ensures.0 refl))
    ∙ c.loop-place.invariant

pub loop-place-preserved : goal.loop-place-preserved
loop-place-preserved c =
    sym (found_behind listed_name c.args.names.now (chars c.args.text.now) c.loop-place.place c.index-names-place.result (omega arith) c.index-names-place.is (λ e. let t = c.if-equals_str.ensures.1 e in absurd (cc t)))
    ∙ c.loop-place.invariant
