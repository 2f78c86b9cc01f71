-- Clashes among the definitions of a type.
use Rattle.std.proofs.Common.{List, []}
use Rattle.descriptors.specs.declared.desc.Desc.{Desc}
use Rattle.descriptors.specs.declared.table.AddError.{AddError}
use Rattle.descriptors.specs.declared.table.AddError.TheVariants.{Clash, OutOfMemory}
use Rattle.descriptors.specs.declared.table.Definition.{Definition}
use Rattle.api_types.specs.Additions.{AreRefused}
use Rattle.api_types.specs.TypeTables.{HasNoTable, error_of}

pub clash_told : (ds : List Definition) (desc : Desc) (error : AddError) → AreRefused [] ds error → HasNoTable ds desc (error_of error)
clash_told ds desc (Clash name) refused = refused
clash_told ds desc OutOfMemory refused = tt
