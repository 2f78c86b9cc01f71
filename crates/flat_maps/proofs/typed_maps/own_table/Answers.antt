use Rattle.std.proofs.Common.{[], List, subst}
use Rattle.descriptors.specs.declared.table.AddError.{AddError}
use Rattle.descriptors.specs.declared.table.Definition.{Definition}
use Rattle.api_types.specs.Additions.{AreRefused}
use Rattle.flat_maps.proofs.OwnTables.{never_clashes}
use Rattle.flat_maps.proofs.typed_maps.own_table.Goals as goal

pub unreachable-requires : goal.unreachable-requires
unreachable-requires g c =
    let ds = g.T.ApiType.definitions_of in
    never_clashes ds c.in-Err-Clash.field-0-0 c.requires.holds (subst (λ (e : AddError). AreRefused [] ds e) c.in-Err-Clash.field-0-is (subst (λ (t : List Definition). AreRefused t ds c.in-Err-Clash.field-0) c.new-table.ensures c.in-Err-Clash.ensures.refused))
