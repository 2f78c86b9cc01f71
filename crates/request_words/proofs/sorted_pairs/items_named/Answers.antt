use Rattle.std.proofs.Common.{rules, ◌≡◌, ◌≤◌, List, Bor, map, bytes_eq, length, take, true, false, sym, ◌∙◌, ap, subst}
use Rattle.std.proofs.lemmas.List.{take_rest}
use Rattle.std.proofs.lemmas.List.Sorted.{IsPartitionPoint-from_clause}
use Rattle.std.specs.List.Sorted.{IsPartitionedBy, IsPartitionPoint}
use Rattle.request_words.specs.NameOrder.{is_before, is_not_after}
use Rattle.request_words.proofs.Named.{halved, halved_behind, between, kept_mapped, sorted_behind}
use Rattle.request_words.proofs.sorted_pairs.items_named.Goals as goal

pub returns : goal.returns
returns g c =
    let name_of = g.T.HasName.name_of in
    let key = λ (item : Bor g.row.T.Denot). name_of item.now in
    let items = c.args.ordered.now in
    let name = c.args.name.now in
    let from = c.partition_point-from.result in
    let count = c.partition_point-count.result in
    let sorted = sorted_behind (λ (item : Bor g.row.T.Denot). item.now) name_of items c.requires in
    let rest = take_rest items from in
    let first = IsPartitionPoint-from_clause (is_before key name) items from c.partition_point-from.ensures.partitioned (halved key name items sorted) (λ item r f k. search rules) in
    let second = IsPartitionPoint-from_clause (is_not_after key name) _ count c.partition_point-count.ensures.partitioned (subst (IsPartitionedBy (is_not_after key name)) (sym rest) (halved_behind key name items sorted from)) (λ item r f k. search rules) in
    ap (λ (some : List (Bor g.row.T.Denot)). map (λ item. item.now) (take count some)) rest
    ∙ ap (λ (some : List (Bor g.row.T.Denot)). map (λ item. item.now) some)
    (between key name items sorted from count (subst (λ (some : List (Bor g.row.T.Denot)). count ≤ length some) rest c.partition_point-count.ensures.bound) first
    (subst (λ (some : List (Bor g.row.T.Denot)). IsPartitionPoint (λ x. is_not_after key name x ≡ true) (λ x. is_not_after key name x ≡ false) some count) rest second))
    ∙ sym (kept_mapped (λ item. bytes_eq (name_of item) name) (λ (item : Bor g.row.T.Denot). item.now) items)
