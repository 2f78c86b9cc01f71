use Rattle.std.proofs.lemmas.Result.{err_from_is_err_and}
use Rattle.api_extract.proofs.path_params.http_extract_path_params.Goals as goal

pub returns-in_err-tree-clause-refused : goal.returns-in_err-tree-clause-refused
returns-in_err-tree-clause-refused g c =
    let p = err_from_is_err_and c.from_residual-in_err-tree.result c.from_residual-in_err-tree.ensures.1 in
    let refused = rw (c.in-Ok.ensures.table, c.in_ok-desc.ensures) at c.in_err-tree.ensures.refused in
    rw (p.1, p.2) refused

pub returns-clause-value : goal.returns-clause-value
returns-clause-value g c =
    let denotes = rw (c.in-Ok.ensures.table, c.in_ok-desc.ensures) at c.in_ok-tree.ensures.denotes in
    rw c.in_ok-from_tree.ensures denotes
