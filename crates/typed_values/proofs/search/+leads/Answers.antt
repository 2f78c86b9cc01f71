use Rattle.std.proofs.Common.{List, [], ◌∷◌, length, sym, refl, ap, ◌∙◌, subst, arith, true≢false}
use Rattle.std.specs.Option.{option_copied}
use Rattle.descriptors.specs.declared.desc.Desc.{Desc}
use Rattle.typed_values.specs.declared.search.Path.{out-Path}
use Rattle.typed_values.specs.Search.{Meets, it_meets, all_met, on_path, IsSearch, SomeLeads}
use Rattle.schema_values.proofs.CallerLemmas.{contains_first}
use Rattle.typed_values.proofs.Searching.{met_longer, path_longer, path_split, before_path, fewer, deeper, deeper_leads, back, back_leads, none_leads}
use Rattle.typed_values.proofs.Within.{untrue}
use Rattle.typed_values.proofs.search.+leads.Goals as goal

pub returns-then-meets : goal.returns-then-meets
returns-then-meets t c =
    let p = out-Path c.args.path.now in
    (λ h. subst (SomeLeads c.args.table.now c.args.sought) (sym (path_split c.args.path.now)) (p.desc.now, contains_first p.desc.now (before_path p.before), it_meets (c.meets.ensures.0 c.if-meets.true)), λ h. refl)

pub leads-requires : goal.leads-requires
leads-requires t c =
    let table = c.args.table.now in
    let met = all_met (option_copied c.args.met) in
    let p = out-Path c.args.path.now in
    let e = c.in-Some.definition.now in
    let next = c.in-Some.ensures.next in
    let split = path_split c.args.path.now in
    let s = subst (IsSearch table c.args.sought met) split c.requires in
    rw (met_longer c.in-Some.definition c.args.met, path_longer) (
      omega (arith, c.decreases, fewer table met e next.in_table next.unmet),
      subst (λ (l : List Desc). IsSearch table c.args.sought (e ∷ met) (e.desc ∷ l)) (sym split) (deeper table c.args.sought met p.desc.now (before_path p.before) s e next),
    )

pub returns-in-Some : goal.returns-in-Some
returns-in-Some t c =
    let table = c.args.table.now in
    let met = all_met (option_copied c.args.met) in
    let p = out-Path c.args.path.now in
    let e = c.in-Some.definition.now in
    let split = path_split c.args.path.now in
    let s = subst (IsSearch table c.args.sought met) split c.requires in
    let l = rw (path_longer, split) at c.leads.ensures in
    let i = deeper_leads table c.args.sought met p.desc.now (before_path p.before) s e c.in-Some.ensures.next in
    rw split (λ h. i.0 (l.0 h), λ h. l.1 (i.1 h))

pub leads-requires-in-Some-before : goal.leads-requires-in-Some-before
leads-requires-in-Some-before t c =
    let table = c.args.table.now in
    let met = all_met (option_copied c.args.met) in
    let p = out-Path c.args.path.now in
    let split = path_split c.args.path.now ∙ ap (λ o. p.desc.now ∷ before_path o) c.in-Some-before.is in
    let s = subst (IsSearch table c.args.sought met) split c.requires in
    let never : Meets c.args.sought p.desc.now → ⊥ = untrue c.meets.ensures c.if-meets.false in
    let fewer_left = ap (λ (l : List Desc). length l) split in
    (omega (arith, c.decreases, fewer_left), back table c.args.sought met p.desc.now (on_path c.in-Some-before.before.now) s never c.in-None.ensures.last)

pub returns-in-Some-before : goal.returns-in-Some-before
returns-in-Some-before t c =
    let table = c.args.table.now in
    let met = all_met (option_copied c.args.met) in
    let p = out-Path c.args.path.now in
    let split = path_split c.args.path.now ∙ ap (λ o. p.desc.now ∷ before_path o) c.in-Some-before.is in
    let s = subst (IsSearch table c.args.sought met) split c.requires in
    let never : Meets c.args.sought p.desc.now → ⊥ = untrue c.meets.ensures c.if-meets.false in
    let i = back_leads table c.args.sought met p.desc.now (on_path c.in-Some-before.before.now) s never c.in-None.ensures.last in
    let l = c.leads-in-Some-before.ensures in
    rw split (λ h. i.0 (l.0 h), λ h. l.1 (i.1 h))

pub returns-in-None-before : goal.returns-in-None-before
returns-in-None-before t c =
    let table = c.args.table.now in
    let met = all_met (option_copied c.args.met) in
    let p = out-Path c.args.path.now in
    let split = path_split c.args.path.now ∙ ap (λ o. p.desc.now ∷ before_path o) c.in-None-before.is in
    let s = subst (IsSearch table c.args.sought met) split c.requires in
    let never : Meets c.args.sought p.desc.now → ⊥ = untrue c.meets.ensures c.if-meets.false in
    let i = back_leads table c.args.sought met p.desc.now [] s never c.in-None.ensures.last in
    rw split (λ h. absurd (true≢false (sym h)), λ h. absurd (none_leads table c.args.sought (i.1 h)))
