use Rattle.std.proofs.Common.{◌∙◌, ◌++◌, [], ◌∷◌, ap, map, sym, string_bytes, String, Global}
use Rattle.std.specs.Map.Iter.{deref_pair}
use Rattle.std.proofs.lemmas.Iterator.Consumers.{YieldsList-end, YieldsList-from_rest}
use Rattle.std.proofs.lemmas.List.{map-append}
use Rattle.std.proofs.lemmas.Map.Iter.{rest_so_far}
use Rattle.descriptors.specs.declared.tree.Tree.{Tree}
use Rattle.tree_store.specs.Tables.{pairs_with}
use Rattle.tree_store.specs.TableView.{pairs_of_entries}
use Rattle.tree_store.proofs.MapLemmas.{pairs_with-next}
use Rattle.tree_store.proofs.table.Table.copy.Goals as goal

pub loop-key-preserved : goal.loop-key-preserved
loop-key-preserved c =
    let l = c.loop-key in
    let start = c.into_iter-key-iterator.ensures.into_iter_gives in
    let done = map deref_pair l.yielded in
    let entry : String Global × Tree = (c.in-Some.key.now, c.in-Some.tree.now) in
    let split = sym start.0 ∙ rest_so_far deref_pair l.yielded c.into_iter-key-iterator.result l.key-iterator l.yielded_by ∙ ap (λ es. done ++ es) c.in-Some.ensures.steps in
    let next = pairs_with-next done c.next.new.self c.self.inside.trees.entries entry split start.5
    ∙ ap pairs_of_entries (sym (map-append deref_pair l.yielded ((c.in-Some.key, c.in-Some.tree) ∷ []))) in
    rw (c.in_ok-put.ensures, c.in_ok-copy.ensures, c.as_str-in-loop-key.ensures.value)
    (ap (λ table. (table.0, pairs_with (string_bytes entry.0) entry.1 table.1)) l.invariant ∙ ap (λ pairs. (c.args.self.now.0, pairs)) next)

pub returns : goal.returns
returns c =
    let l = c.loop-key in
    let start = c.into_iter-key-iterator.ensures.into_iter_gives in
    let all = YieldsList-end (YieldsList-from_rest c.self.inside.trees.entries start.0) l.yielded l.key-iterator l.yielded_by c.next.result c.next.new.self c.in-None.is c.next.ensures.steps in
    l.invariant ∙ ap (λ es. (c.args.self.now.0, pairs_of_entries es)) all.0 ∙ ap (λ table. (c.args.self.now.0, table.1)) c.self.view_is
