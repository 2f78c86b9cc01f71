use Rattle.result_pages.proofs.Clashes.{none_clash}
use Rattle.result_pages.proofs.next_page.selector_table.Goals as goal

pub unreachable-requires : goal.unreachable-requires
unreachable-requires g c =
    none_clash g.P.ApiType.definitions_of c.requires.holds c.in-Err-Clash.field-0-0 (rw (c.new-table.ensures, c.in-Err-Clash.field-0-is) at c.in-Err-Clash.ensures.refused)
