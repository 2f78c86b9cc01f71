use Rattle.std.proofs.Common.{refl, sym, true≢false}
use Rattle.typed_values.specs.declared.check.TableError.TheVariants.{DoubledName, Dangling, EmptyEnumeration, NullOfNull, TagClash, BadRange, BadPresence}
use Rattle.typed_values.specs.Causes.{AppliesToDesc}
use Rattle.typed_values.proofs.First.{first_doubled, first_dangling, first_empty, first_null, first_clash, first_range, first_presence, desc_fails, desc_passes}
use Rattle.typed_values.proofs.Within.{untrue}
use Rattle.typed_values.proofs.check.check_desc.Goals as goal

pub returns-then-applies : goal.returns-then-applies
returns-then-applies c =
    let applied = c.applies.ensures.told.0 c.if-applies.true in
    record {
      ok = (λ h. absurd (true≢false (sym h)), λ passes. absurd (desc_fails c.args.table.now c.args.desc.now DoubledName applied passes));
      first = first_doubled (AppliesToDesc c.args.table.now c.args.desc.now) applied;
      lengths = λ h. absurd (true≢false (sym h));
    }

pub returns-then-applies-2 : goal.returns-then-applies-2
returns-then-applies-2 c =
    let applied = c.applies-2.ensures.told.0 c.if-applies-2.true in
    record {
      ok = (λ h. absurd (true≢false (sym h)), λ passes. absurd (desc_fails c.args.table.now c.args.desc.now Dangling applied passes));
      first = first_dangling (AppliesToDesc c.args.table.now c.args.desc.now) (untrue c.applies.ensures.told c.if-applies.false) (λ h. h.2) applied;
      lengths = λ h. absurd (true≢false (sym h));
    }

pub returns-then-applies-3 : goal.returns-then-applies-3
returns-then-applies-3 c =
    let applied = c.applies-3.ensures.told.0 c.if-applies-3.true in
    record {
      ok = (λ h. absurd (true≢false (sym h)), λ passes. absurd (desc_fails c.args.table.now c.args.desc.now EmptyEnumeration applied passes));
      first = first_empty (AppliesToDesc c.args.table.now c.args.desc.now) (untrue c.applies.ensures.told c.if-applies.false) (λ h. h.2) (untrue c.applies-2.ensures.told c.if-applies-2.false) (λ name h. h.2) applied;
      lengths = λ h. absurd (true≢false (sym h));
    }

pub returns-then-applies-4 : goal.returns-then-applies-4
returns-then-applies-4 c =
    let applied = c.applies-4.ensures.told.0 c.if-applies-4.true in
    record {
      ok = (λ h. absurd (true≢false (sym h)), λ passes. absurd (desc_fails c.args.table.now c.args.desc.now NullOfNull applied passes));
      first = first_null (AppliesToDesc c.args.table.now c.args.desc.now) (untrue c.applies.ensures.told c.if-applies.false) (λ h. h.2) (untrue c.applies-2.ensures.told c.if-applies-2.false) (λ name h. h.2) (untrue c.applies-3.ensures.told c.if-applies-3.false) applied;
      lengths = λ h. absurd (true≢false (sym h));
    }

pub returns-then-applies-5 : goal.returns-then-applies-5
returns-then-applies-5 c =
    let applied = c.applies-5.ensures.told.0 c.if-applies-5.true in
    record {
      ok = (λ h. absurd (true≢false (sym h)), λ passes. absurd (desc_fails c.args.table.now c.args.desc.now TagClash applied passes));
      first = first_clash (AppliesToDesc c.args.table.now c.args.desc.now) (untrue c.applies.ensures.told c.if-applies.false) (λ h. h.2) (untrue c.applies-2.ensures.told c.if-applies-2.false) (λ name h. h.2) (untrue c.applies-3.ensures.told c.if-applies-3.false) (untrue c.applies-4.ensures.told c.if-applies-4.false) applied;
      lengths = λ h. absurd (true≢false (sym h));
    }

pub returns-then-applies-6 : goal.returns-then-applies-6
returns-then-applies-6 c =
    let applied = c.applies-6.ensures.told.0 c.if-applies-6.true in
    record {
      ok = (λ h. absurd (true≢false (sym h)), λ passes. absurd (desc_fails c.args.table.now c.args.desc.now BadRange applied passes));
      first = first_range (AppliesToDesc c.args.table.now c.args.desc.now) (untrue c.applies.ensures.told c.if-applies.false) (λ h. h.2) (untrue c.applies-2.ensures.told c.if-applies-2.false) (λ name h. h.2) (untrue c.applies-3.ensures.told c.if-applies-3.false) (untrue c.applies-4.ensures.told c.if-applies-4.false) (untrue c.applies-5.ensures.told c.if-applies-5.false) applied;
      lengths = λ h. absurd (true≢false (sym h));
    }

pub returns-then-applies-7 : goal.returns-then-applies-7
returns-then-applies-7 c =
    let applied = c.applies-7.ensures.told.0 c.if-applies-7.true in
    record {
      ok = (λ h. absurd (true≢false (sym h)), λ passes. absurd (desc_fails c.args.table.now c.args.desc.now BadPresence applied passes));
      first = first_presence (AppliesToDesc c.args.table.now c.args.desc.now) (untrue c.applies.ensures.told c.if-applies.false) (λ h. h.2) (untrue c.applies-2.ensures.told c.if-applies-2.false) (λ name h. h.2) (untrue c.applies-3.ensures.told c.if-applies-3.false) (untrue c.applies-4.ensures.told c.if-applies-4.false) (untrue c.applies-5.ensures.told c.if-applies-5.false) (untrue c.applies-6.ensures.told c.if-applies-6.false) applied;
      lengths = λ h. absurd (true≢false (sym h));
    }

pub returns-clause-ok : goal.returns-clause-ok
returns-clause-ok c = (
  λ h. desc_passes c.args.table.now c.args.desc.now (untrue c.applies.ensures.told c.if-applies.false) (untrue c.applies-2.ensures.told c.if-applies-2.false) (untrue c.applies-3.ensures.told c.if-applies-3.false)
      (untrue c.applies-4.ensures.told c.if-applies-4.false) (untrue c.applies-5.ensures.told c.if-applies-5.false) (untrue c.applies-6.ensures.told c.if-applies-6.false) (untrue c.applies-7.ensures.told c.if-applies-7.false),
  λ h. refl,
)
