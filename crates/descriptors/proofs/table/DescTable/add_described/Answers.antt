use Rattle.std.proofs.Common.{◌≡◌, ℕ, List, length, ◌∙◌, ap, ap₂, sym, subst}
use Rattle.std.specs.List.{insert}
use Rattle.std.specs.Str.{chars}
use Rattle.descriptors.specs.declared.table.Definition.{Definition}
use Rattle.descriptors.specs.Definitions.{definition_with}
use Rattle.descriptors.specs.Index.{IsGapFor}
use Rattle.descriptors.specs.NewNames.{IsNewName}
use Rattle.descriptors.proofs.Indexing.{table_more}
use Rattle.descriptors.proofs.table.DescTable.add_described.Goals as goal

pub invariant_of-self-2 : goal.invariant_of-self-2
invariant_of-self-2 c =
    let es = c.self.inside.definitions in
    let ps = c.self.inside.places.items in
    let gap = c.in-Some.fresh.gap in
    let e : Definition = definition_with c.in-Some.fresh.name c.args.description c.args.desc in
    let found = rw c.in-Some.is at c.in_ok-found.ensures.fresh in
    let fresh : IsNewName es ps (chars c.args.name.now) c.in-Some.fresh = rw (← c.as_slice-definitions.ensures, ← c.new_name_for.ensures.kept) found in
    let here : IsGapFor es ps e.name gap = subst (λ (n : List ℕ). IsGapFor es ps n gap) (sym fresh.named) fresh.gap in
    let inserted : c.insert.new.self.items ≡ insert ps gap (length es) =
    c.in-Ok.ensures.items ∙ ap₂ (λ (places : List ℕ) (n : ℕ). insert places gap n) c.new_name_for.ensures.kept (ap length c.as_slice-definitions.ensures) in
    rw (c.in_ok-push.ensures.ok, inserted) (table_more es e ps gap c.self.invariant.index here c.self.invariant.distinct)
