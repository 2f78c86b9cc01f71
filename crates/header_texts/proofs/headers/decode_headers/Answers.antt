use Rattle.std.proofs.Common.{List, map, subst}
use Rattle.header_lists.specs.HeaderLists.{Line}
use Rattle.request_parts.specs.Wire.{wire_line}
use Rattle.header_texts.specs.HeaderTexts.{HeadersDenote}
use Rattle.header_texts.proofs.HeaderFits.{headers_fit, headers_flat}
use Rattle.header_texts.proofs.headers.decode_headers.Goals as goal

pub returns-in-Ok-clause-fits : goal.returns-in-Ok-clause-fits
returns-in-Ok-clause-fits c =
    let table = c.args.table.now in
    let desc = c.args.desc.now in
    headers_fit table desc (map wire_line c.args.lines.now) c.in-Ok.tree c.requires.table c.requires.desc
    (subst (λ (lines : List Line). HeadersDenote table desc (map wire_line lines) c.in-Ok.tree) c.lines.ensures c.in-Ok.ensures)

pub returns-in-Ok-clause-flat : goal.returns-in-Ok-clause-flat
returns-in-Ok-clause-flat c =
    headers_flat c.args.table.now (map wire_line c.args.lines.now) c.args.desc.now c.in-Ok.tree
    (subst (λ (lines : List Line). HeadersDenote c.args.table.now c.args.desc.now (map wire_line lines) c.in-Ok.tree)
    c.lines.ensures c.in-Ok.ensures)
