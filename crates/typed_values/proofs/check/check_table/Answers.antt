use Rattle.std.proofs.Common.{refl, sym, true≢false}
use Rattle.typed_values.specs.declared.check.TableError.TheVariants.{DoubledName, Dangling, EmptyEnumeration, NullOfNull, TagClash, BadRange, BadPresence}
use Rattle.typed_values.specs.Causes.{AppliesToTable}
use Rattle.typed_values.proofs.First.{first_doubled, first_bad, first_dangling, first_unguarded, first_empty, first_null, first_clash, first_range, first_presence, on_cycle_unguarded, table_fails, table_passes}
use Rattle.typed_values.proofs.Within.{untrue}
use Rattle.typed_values.proofs.check.check_table.Goals as goal

pub returns-then-applies_somewhere : goal.returns-then-applies_somewhere
returns-then-applies_somewhere c =
    let applied = c.applies_somewhere.ensures.told.0 c.if-applies_somewhere.true in
    record {
      ok = (λ h. absurd (true≢false (sym h)), λ passes. absurd (table_fails c.args.table.now DoubledName applied passes));
      first = first_doubled (AppliesToTable c.args.table.now) applied;
      lengths = λ h. absurd (true≢false (sym h));
    }

pub returns-then-not-are_names_right : goal.returns-then-not-are_names_right
returns-then-not-are_names_right c =
    let bad = c.if-not-are_names_right.ensures.names in
    record {
      ok = (λ h. absurd (true≢false (sym h)), λ passes. absurd (bad.2 (passes.named bad.0 bad.1)));
      first = first_bad (AppliesToTable c.args.table.now) (untrue c.applies_somewhere.ensures.told c.if-applies_somewhere.false) bad;
      lengths = λ h. absurd (true≢false (sym h));
    }

pub returns-then-applies_somewhere-2 : goal.returns-then-applies_somewhere-2
returns-then-applies_somewhere-2 c =
    let applied = c.applies_somewhere-2.ensures.told.0 c.if-applies_somewhere-2.true in
    record {
      ok = (λ h. absurd (true≢false (sym h)), λ passes. absurd (table_fails c.args.table.now Dangling applied passes));
      first = first_dangling (AppliesToTable c.args.table.now) (untrue c.applies_somewhere.ensures.told c.if-applies_somewhere.false) (λ h. h.2 (c.if-not-are_names_right.ensures.names h.0 h.1)) applied;
      lengths = λ h. absurd (true≢false (sym h));
    }

pub returns-in-Some : goal.returns-in-Some
returns-in-Some c = record {
  ok = (λ h. absurd (true≢false (sym h)), λ passes. absurd (on_cycle_unguarded c.args.table.now c.in-Some.definition.now c.in-Some.ensures.cycle passes.guarded));
  first = first_unguarded (AppliesToTable c.args.table.now) (untrue c.applies_somewhere.ensures.told c.if-applies_somewhere.false) (λ h. h.2 (c.if-not-are_names_right.ensures.names h.0 h.1)) (untrue c.applies_somewhere-2.ensures.told c.if-applies_somewhere-2.false) c.as_str.result (c.in-Some.definition.now, c.in-Some.ensures.cycle, c.as_str.ensures);
  lengths = λ h. absurd (true≢false (sym h));
}

pub returns-then-applies_somewhere-3 : goal.returns-then-applies_somewhere-3
returns-then-applies_somewhere-3 c =
    let applied = c.applies_somewhere-3.ensures.told.0 c.if-applies_somewhere-3.true in
    record {
      ok = (λ h. absurd (true≢false (sym h)), λ passes. absurd (table_fails c.args.table.now EmptyEnumeration applied passes));
      first = first_empty (AppliesToTable c.args.table.now) (untrue c.applies_somewhere.ensures.told c.if-applies_somewhere.false) (λ h. h.2 (c.if-not-are_names_right.ensures.names h.0 h.1)) (untrue c.applies_somewhere-2.ensures.told c.if-applies_somewhere-2.false) (λ name h. on_cycle_unguarded c.args.table.now h.0 h.1 c.in_default.ensures.guarded) applied;
      lengths = λ h. absurd (true≢false (sym h));
    }

pub returns-then-applies_somewhere-4 : goal.returns-then-applies_somewhere-4
returns-then-applies_somewhere-4 c =
    let applied = c.applies_somewhere-4.ensures.told.0 c.if-applies_somewhere-4.true in
    record {
      ok = (λ h. absurd (true≢false (sym h)), λ passes. absurd (table_fails c.args.table.now NullOfNull applied passes));
      first = first_null (AppliesToTable c.args.table.now) (untrue c.applies_somewhere.ensures.told c.if-applies_somewhere.false) (λ h. h.2 (c.if-not-are_names_right.ensures.names h.0 h.1)) (untrue c.applies_somewhere-2.ensures.told c.if-applies_somewhere-2.false) (λ name h. on_cycle_unguarded c.args.table.now h.0 h.1 c.in_default.ensures.guarded) (untrue c.applies_somewhere-3.ensures.told c.if-applies_somewhere-3.false) applied;
      lengths = λ h. absurd (true≢false (sym h));
    }

pub returns-then-applies_somewhere-5 : goal.returns-then-applies_somewhere-5
returns-then-applies_somewhere-5 c =
    let applied = c.applies_somewhere-5.ensures.told.0 c.if-applies_somewhere-5.true in
    record {
      ok = (λ h. absurd (true≢false (sym h)), λ passes. absurd (table_fails c.args.table.now TagClash applied passes));
      first = first_clash (AppliesToTable c.args.table.now) (untrue c.applies_somewhere.ensures.told c.if-applies_somewhere.false) (λ h. h.2 (c.if-not-are_names_right.ensures.names h.0 h.1)) (untrue c.applies_somewhere-2.ensures.told c.if-applies_somewhere-2.false) (λ name h. on_cycle_unguarded c.args.table.now h.0 h.1 c.in_default.ensures.guarded) (untrue c.applies_somewhere-3.ensures.told c.if-applies_somewhere-3.false) (untrue c.applies_somewhere-4.ensures.told c.if-applies_somewhere-4.false) applied;
      lengths = λ h. absurd (true≢false (sym h));
    }

pub returns-then-applies_somewhere-6 : goal.returns-then-applies_somewhere-6
returns-then-applies_somewhere-6 c =
    let applied = c.applies_somewhere-6.ensures.told.0 c.if-applies_somewhere-6.true in
    record {
      ok = (λ h. absurd (true≢false (sym h)), λ passes. absurd (table_fails c.args.table.now BadRange applied passes));
      first = first_range (AppliesToTable c.args.table.now) (untrue c.applies_somewhere.ensures.told c.if-applies_somewhere.false) (λ h. h.2 (c.if-not-are_names_right.ensures.names h.0 h.1)) (untrue c.applies_somewhere-2.ensures.told c.if-applies_somewhere-2.false) (λ name h. on_cycle_unguarded c.args.table.now h.0 h.1 c.in_default.ensures.guarded) (untrue c.applies_somewhere-3.ensures.told c.if-applies_somewhere-3.false) (untrue c.applies_somewhere-4.ensures.told c.if-applies_somewhere-4.false) (untrue c.applies_somewhere-5.ensures.told c.if-applies_somewhere-5.false) applied;
      lengths = λ h. absurd (true≢false (sym h));
    }

pub returns-then-applies_somewhere-7 : goal.returns-then-applies_somewhere-7
returns-then-applies_somewhere-7 c =
    let applied = c.applies_somewhere-7.ensures.told.0 c.if-applies_somewhere-7.true in
    record {
      ok = (λ h. absurd (true≢false (sym h)), λ passes. absurd (table_fails c.args.table.now BadPresence applied passes));
      first = first_presence (AppliesToTable c.args.table.now) (untrue c.applies_somewhere.ensures.told c.if-applies_somewhere.false) (λ h. h.2 (c.if-not-are_names_right.ensures.names h.0 h.1)) (untrue c.applies_somewhere-2.ensures.told c.if-applies_somewhere-2.false) (λ name h. on_cycle_unguarded c.args.table.now h.0 h.1 c.in_default.ensures.guarded) (untrue c.applies_somewhere-3.ensures.told c.if-applies_somewhere-3.false) (untrue c.applies_somewhere-4.ensures.told c.if-applies_somewhere-4.false) (untrue c.applies_somewhere-5.ensures.told c.if-applies_somewhere-5.false) (untrue c.applies_somewhere-6.ensures.told c.if-applies_somewhere-6.false) applied;
      lengths = λ h. absurd (true≢false (sym h));
    }

pub returns-clause-ok : goal.returns-clause-ok
returns-clause-ok c = (
  λ h. table_passes c.args.table.now c.are_names_right.ensures.distinct c.if-not-are_names_right.ensures.names c.in_default.ensures.guarded (untrue c.applies_somewhere.ensures.told c.if-applies_somewhere.false) (untrue c.applies_somewhere-2.ensures.told c.if-applies_somewhere-2.false)
      (untrue c.applies_somewhere-3.ensures.told c.if-applies_somewhere-3.false) (untrue c.applies_somewhere-4.ensures.told c.if-applies_somewhere-4.false) (untrue c.applies_somewhere-5.ensures.told c.if-applies_somewhere-5.false)
      (untrue c.applies_somewhere-6.ensures.told c.if-applies_somewhere-6.false) (untrue c.applies_somewhere-7.ensures.told c.if-applies_somewhere-7.false),
  λ h. refl,
)
