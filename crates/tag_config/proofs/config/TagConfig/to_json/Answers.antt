use Rattle.std.proofs.Common.{[]}
use Rattle.tag_config.proofs.Passing.{new_passes, new_reaches_no_untagged, new_tabled}
use Rattle.tag_config.proofs.ReadBack.{written_reads_back}
use Rattle.tag_config.proofs.config.TagConfig.to_json.Goals as goal

pub encode_json-requires-clause-desc : goal.encode_json-requires-clause-desc
encode_json-requires-clause-desc c = rw (c.new.ensures, c.in_ok-desc.ensures) new_passes

pub encode_json-requires-clause-fits : goal.encode_json-requires-clause-fits
encode_json-requires-clause-fits c = rw (c.new.ensures, c.in_ok-desc.ensures, c.in_ok-tree.ensures) (c.each_fits.ensures [] new_tabled)

pub returns-clause-reads_back : goal.returns-clause-reads_back
returns-clause-reads_back c =
    written_reads_back c.args.self.now c.encode_json-2.result (rw (c.new.ensures, c.in_ok-desc.ensures, c.in_ok-tree.ensures) at c.encode_json-2.ensures.json)
    ((rw (c.new.ensures, c.in_ok-desc.ensures, c.in_ok-tree.ensures) at c.encode_json-2.ensures.again) new_reaches_no_untagged)
