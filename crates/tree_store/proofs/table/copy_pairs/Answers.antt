use Rattle.std.proofs.Common.{◌≡◌, ◌∙◌, [], ap, map, sym, length, arith, take}
use Rattle.std.proofs.lemmas.Iterator.{YieldsList-from_take}
use Rattle.std.proofs.lemmas.Iterator.Consumers.{YieldsList-end, YieldsList-from_rest, YieldsList-turn}
use Rattle.std.proofs.lemmas.List.{length-map, take-map}
use Rattle.tree_store.specs.Tables.{pair_of}
use Rattle.tree_store.specs.TableView.{pairs_of_entries}
use Rattle.tree_store.proofs.table.copy_pairs.Goals as goal
use Rattle.tree_store.proofs.table.copy_pairs.Goals.{In-Some}

pub returns-clause-pairs : goal.returns-clause-pairs
returns-clause-pairs c =
    let l = c.loop-key in
    let all = YieldsList-end (YieldsList-from_take c.args.count (YieldsList-from_rest c.args.entries cc) cc) l.yielded l.key-iterator l.yielded_by c.next.result c.next.new.self c.in-None.is c.next.ensures.steps in
    l.invariant ∙ ap (λ es. map pair_of (pairs_of_entries es)) all.0 ∙ ap (map pair_of) (sym (take-map _ c.args.count c.args.entries))

-- an entry came, so some are asked for and there are some
some_came : (c : In-Some) → take c.args.count (pairs_of_entries c.args.entries) ≡ [] → ⊥
some_came c none =
    let l = c.loop-key in
    let turn = YieldsList-turn (YieldsList-from_take c.args.count (YieldsList-from_rest c.args.entries cc) cc) l.yielded l.key-iterator l.yielded_by c.next.result c.next.new.self _ c.in-Some.is c.next.ensures.steps in
    let more = turn.0 in
    let size = sym (length-map (take c.args.count c.args.entries) _) ∙ ap length (sym (take-map _ c.args.count c.args.entries) ∙ none) in
    omega arith

pub returns-in_err-key-clause-none : goal.returns-in_err-key-clause-none
returns-in_err-key-clause-none c none = absurd (some_came (goal.at.returns-in_err-key-clause-none c).In-Some none)

pub returns-in_err-value-clause-none : goal.returns-in_err-value-clause-none
returns-in_err-value-clause-none c none = absurd (some_came (goal.at.returns-in_err-value-clause-none c).In-Some none)

pub returns-in_err-push-clause-none : goal.returns-in_err-push-clause-none
returns-in_err-push-clause-none c none = absurd (some_came (goal.at.returns-in_err-push-clause-none c).In-Some none)
