use Rattle.std.proofs.Common.{◌≡◌, ◌<◌, ◌≤◌, length, get_or, arith, refl, sym, true≢false}
use Rattle.descriptors.specs.declared.table.Definition.{Definition}
use Rattle.typed_values.proofs.Searching.{one_more}
use Rattle.typed_values.proofs.Within.{IsClear, clear_of}
use Rattle.typed_values.proofs.check.applies_somewhere.Goals as goal

pub returns-then-applies-clause-told : goal.returns-then-applies-clause-told
returns-then-applies-clause-told c =
    let table = c.args.table.now in
    let e = c.definition-item.result in
    let i = c.loop-definition.definition-index in
    let is : e ≡ get_or table i e = rw (← c.definitions-definition-items.ensures.items) c.definition-item.is in
    let inside : i < length table = rw (← c.definitions-definition-items.ensures.items) (omega arith) in
    (λ h. (e, (i, inside, sym is), c.applies.ensures.told.0 c.if-applies.true), λ h. refl)

pub loop-definition-preserved : goal.loop-definition-preserved
loop-definition-preserved c =
    let table = c.args.table.now in
    let e = c.definition-item.result in
    let i = c.loop-definition.definition-index in
    let is : e ≡ get_or table i e = rw (← c.definitions-definition-items.ensures.items) c.definition-item.is in
    let inside : i < length table = rw (← c.definitions-definition-items.ensures.items) (omega arith) in
    one_more (λ (e : Definition). IsClear table c.args.error e.desc) table i e is inside c.loop-definition.invariant
    (clear_of table c.args.error e.desc c.applies.result c.applies.ensures.told c.applies.ensures.lengths c.if-applies.false)

pub returns : goal.returns
returns c =
    let table = c.args.table.now in
    let all : length table ≤ c.loop-definition.definition-index = rw (← c.definitions-definition-items.ensures.items) (omega arith) in
    record {
      told = (λ h. absurd (true≢false (sym h)), λ h. absurd ((c.loop-definition.invariant h.1.0 h.0 (omega (arith, h.1.1)) h.1.2).none h.2));
      lengths = λ is none e k. (c.loop-definition.invariant k.0 e (omega (arith, k.1)) k.2).short is;
    }
