use Rattle.std.proofs.Common.{rules, ◌≡◌, ◌≢◌, true, Some, option_map, sym, ap, ◌∙◌, arith}
use Rattle.std.proofs.lemmas.List.Sorted.{IsPartitionPoint-from_clause}
use Rattle.typed_values.proofs.Places.{is_before, halved, first_here, none_here, sorted_behind, first_behind}
use Rattle.typed_values.proofs.order.first_named.Goals as goal

pub returns-in_default : goal.returns-in_default
returns-in_default g c =
    let key = g.T.HasName.name_of in
    let items = c.args.ordered.now in
    let name = c.args.name.now in
    let sorted = sorted_behind (λ item. item.now) key items c.requires in
    let at = IsPartitionPoint-from_clause (is_before (λ item. key item.now) name) items c.partition_point-place.result c.partition_point-place.ensures.partitioned (halved (λ item. key item.now) name items sorted) (λ item r f k. search rules) in
    let none = none_here (λ item. key item.now) name items sorted c.partition_point-place.result at (λ d low. absurd (omega (arith, low, c.in_default.ensures.lookup.3))) in
    sym (first_behind (λ item. item.now) key items name ∙ ap (option_map (λ item. item.now)) none)

pub returns-then-equals : goal.returns-then-equals
returns-then-equals g c =
    let key = g.T.HasName.name_of in
    let items = c.args.ordered.now in
    let name = c.args.name.now in
    let item = c.in-Some.item.now in
    let there = c.in-Some.ensures.lookup.3 in
    let same : key item.now ≡ name = sym c.name.ensures ∙ c.equals.ensures.0 c.if-equals.true in
    let sorted = sorted_behind (λ item. item.now) key items c.requires in
    let at = IsPartitionPoint-from_clause (is_before (λ item. key item.now) name) items c.partition_point-place.result c.partition_point-place.ensures.partitioned (halved (λ item. key item.now) name items sorted) (λ item r f k. search rules) in
    let first = first_here (λ item. key item.now) name items sorted c.partition_point-place.result at item there.0 (ap (λ found. key found.now) (sym (there.1 item)) ∙ same) in
    sym (first_behind (λ item. item.now) key items name ∙ ap (option_map (λ item. item.now)) first ∙ ap (λ found. Some found.now) (sym (there.1 item)))

pub returns-else-equals : goal.returns-else-equals
returns-else-equals g c =
    let key = g.T.HasName.name_of in
    let items = c.args.ordered.now in
    let name = c.args.name.now in
    let there = c.in-Some.ensures.lookup.3 in
    let other : key c.in-Some.item.now.now ≢ name = λ same. let equal : c.equals.result ≡ true = c.equals.ensures.1 (c.name.ensures ∙ same) in absurd (cc (equal, c.if-equals.false)) in
    let sorted = sorted_behind (λ item. item.now) key items c.requires in
    let at = IsPartitionPoint-from_clause (is_before (λ item. key item.now) name) items c.partition_point-place.result c.partition_point-place.ensures.partitioned (halved (λ item. key item.now) name items sorted) (λ item r f k. search rules) in
    let none = none_here (λ item. key item.now) name items sorted c.partition_point-place.result at (λ d low same. other (ap (λ found. key found.now) (there.1 d) ∙ same)) in
    sym (first_behind (λ item. item.now) key items name ∙ ap (option_map (λ item. item.now)) none)
