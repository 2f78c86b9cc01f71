-- What a call adds to a table.
use Rattle.std.specs.Prelude.{◌≡◌, ◌++◌, List, Result, OnOk, IfErr}
use Rattle.descriptors.specs.declared.table.Definition.{Definition}
use Rattle.descriptors.specs.declared.table.AddError.{AddError}
use Rattle.api_types.specs.Additions.{with_all, AreRefused}
use Rattle.api_types.specs.Types.{HoldsAll}

-- all of some definitions are added and stand there, or the first clash is told
pub record AddsAll {T : Type 0} (result : Result T AddError) (old ds new : List Definition) : Type 0 where
  pub added : OnOk result (new ≡ with_all old ds)
  pub held : OnOk result (HoldsAll new ds)
  pub refused : IfErr result (AreRefused old ds)

-- the first of some definitions are added, in order, and the others not
pub record AddsFirst (old ds new : List Definition) : Type 0 where
  pub first : List Definition
  pub others : List Definition
  pub parts : ds ≡ first ++ others
  pub added : new ≡ with_all old first
