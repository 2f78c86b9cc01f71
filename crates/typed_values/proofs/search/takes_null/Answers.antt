use Rattle.typed_values.specs.declared.search.Sought.TheVariants.{Null}
use Rattle.typed_values.proofs.Searching.{path_longer, start_leads, leads_null}
use Rattle.typed_values.proofs.search.takes_null.Goals as goal

pub returns : goal.returns
returns c =
    let e = rw path_longer at c.leads.ensures in
    let s = start_leads c.args.table.now Null c.args.desc.now in
    let l = leads_null c.args.table.now c.args.desc.now in
    (λ h. l.0 (s.0 (e.0 h)), λ h. e.1 (s.1 (l.1 h)))
