use Rattle.typed_values.proofs.Searching.{path_longer, start_leads, leads_back}
use Rattle.typed_values.proofs.search.lies_on_cycle.Goals as goal

pub returns : goal.returns
returns c =
    let e = rw path_longer at c.leads.ensures in
    let s = start_leads c.args.table.now _ c.args.definition.now.desc in
    let l = leads_back c.args.table.now _ c.args.definition.now.desc in
    (λ h. l.0 (s.0 (e.0 h)), λ h. e.1 (s.1 (l.1 h)))
