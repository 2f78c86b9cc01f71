use Rattle.flat_maps.specs.TypedMaps.{own_table}
use Rattle.flat_maps.proofs.typed_maps.to_map.Goals as goal

pub returns-clause-read_back : goal.returns-clause-read_back
returns-clause-read_back g c struct =
    let back = rw (c.in_ok-table.ensures.table, c.in_ok-desc.ensures, c.in_ok-tree.ensures) at c.to_map_tree.ensures.read_back in
    back struct (c.fits.ensures (own_table g.T.ApiType.definitions_of) c.requires)
