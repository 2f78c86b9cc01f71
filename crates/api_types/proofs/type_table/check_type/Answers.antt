use Rattle.std.proofs.Common.{subst}
use Rattle.typed_values.specs.Causes.{AppliesToTable}
use Rattle.api_types.specs.TypeTables.{IsFirstFlaw}
use Rattle.api_types.specs.Types.{HoldsAll}
use Rattle.api_types.proofs.type_table.check_type.Goals as goal

pub returns-in-Some-clause-refused : goal.returns-in-Some-clause-refused
returns-in-Some-clause-refused g c =
    let ds = g.T.ApiType.definitions_of in
    let first = rw c.in-Some.is at c.in_ok-flaw.ensures in
    (subst (λ es. HoldsAll es ds) c.requires.made c.requires.held, subst (λ es. IsFirstFlaw (AppliesToTable es) c.in-Some.flaw) c.requires.made first)
