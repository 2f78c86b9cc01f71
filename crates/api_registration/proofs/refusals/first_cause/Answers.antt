use Rattle.std.proofs.Common.{map, ap, ◌∙◌, arith}
use Rattle.std.proofs.lemmas.List.Elements.{All-more}
use Rattle.api_registration.specs.Registering.{causes}
use Rattle.api_declarations.specs.Values.{DeclarationValue}
use Rattle.api_registration.proofs.FirstTold.{IsPassed, may_register, short_lengths, told_at}
use Rattle.api_registration.proofs.refusals.first_cause.Goals as goal

pub returns-in-Some-clause-first : goal.returns-in-Some-clause-first
returns-in-Some-clause-first g c = record {
  told =
      told_at c.args.config.now (map g.E.Declared.declared c.args.before.now) c.args.endpoint.now c.loop-cause.cause-index _ c.in-Some.message c.loop-cause-test.true c.loop-cause.invariant
      (rw c.in-Some.is at c.in_ok-message.ensures.told);
  operation_id = c.in_ok-copy.ensures ∙ ap (λ (e : DeclarationValue). e.operation_id) c.endpoint.view_is;
}

pub loop-cause-preserved : goal.loop-cause-preserved
loop-cause-preserved g c =
    All-more (IsPassed c.args.config.now (map g.E.Declared.declared c.args.before.now) c.args.endpoint.now) causes c.loop-cause.cause-index _ c.loop-cause-test.true c.loop-cause.invariant
    record {
      not_told = λ stands. (rw c.in_default.is at c.in_ok-message.ensures.told) stands.0 stands.1;
      clear = rw c.in_default.is at c.in_ok-message.ensures.clear;
      lengths = λ here. rw c.in_default.is at (c.in_ok-message.ensures.lengths here);
    }

pub returns-clause-first : goal.returns-clause-first
returns-clause-first g c =
    may_register c.args.config.now (map g.E.Declared.declared c.args.before.now) c.args.endpoint.now c.loop-cause.cause-index (omega (arith, c.loop-cause-test.false)) c.loop-cause.invariant

pub returns-clause-lengths : goal.returns-clause-lengths
returns-clause-lengths g c =
    short_lengths c.args.config.now (map g.E.Declared.declared c.args.before.now) c.args.endpoint.now c.loop-cause.cause-index (omega (arith, c.loop-cause-test.false)) c.loop-cause.invariant
