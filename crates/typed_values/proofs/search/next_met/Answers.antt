use Rattle.std.proofs.Common.{◌≡◌, ◌<◌, length, get_or, sym, arith}
use Rattle.std.specs.Option.{option_copied}
use Rattle.descriptors.specs.declared.table.Definition.{Definition}
use Rattle.typed_values.specs.Guarded.{Names}
use Rattle.typed_values.specs.Search.{all_met, IsMet}
use Rattle.descriptors.proofs.CallerLemmas.{definition_found}
use Rattle.typed_values.proofs.Searching.{one_more}
use Rattle.typed_values.proofs.Within.{untrue}
use Rattle.typed_values.proofs.search.next_met.Goals as goal
use Rattle.typed_values.proofs.search.next_met.Goals.{else-names-via-then-names+else-not-is_met, else-names-via-else-names}

pub returns-then-not-is_met-clause-next : goal.returns-then-not-is_met-clause-next
returns-then-not-is_met-clause-next c =
    let table = c.args.table.now in
    let e = c.definition-item.result in
    let i = c.loop-definition.definition-index in
    let is : e ≡ get_or table i e = rw (← c.definitions-definition-items.ensures.items) c.definition-item.is in
    let inside : i < length table = rw (← c.definitions-definition-items.ensures.items) (omega arith) in
    record {
      found = definition_found table e c.definitions-definition-items.ensures.distinct (i, inside, sym is);
      in_table = (i, inside, sym is);
      named = c.names.ensures.0 c.if-names.true;
      unmet = untrue c.is_met.ensures c.if-not-is_met.true;
    }

pub loop-definition-preserved : goal.loop-definition-preserved
loop-definition-preserved c =
    let table = c.args.table.now in
    let met = all_met (option_copied c.args.met) in
    let e = c.definition-item.result in
    let i = c.loop-definition.definition-index in
    let is : e ≡ get_or table i e = rw (← c.definitions-definition-items.ensures.items) c.definition-item.is in
    let inside : i < length table = rw (← c.definitions-definition-items.ensures.items) (omega arith) in
    let Q : Definition → Type 0 = λ x. Names x.name c.args.desc.now → IsMet met x.name in
    let here : Q e = elim c.else-names.branch [
      | else-names-via-then-names+else-not-is_met w ↦ λ h. w.is_met.ensures.0 w.if-not-is_met.false
      | else-names-via-else-names w ↦ λ h. absurd (untrue c.names.ensures w.if-names.false h)
    ] in
    one_more Q table i e is inside c.loop-definition.invariant here
