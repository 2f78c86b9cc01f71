use Rattle.std.proofs.Common.{◌≡◌, List, Bor, map, filter, refl, sym, ◌∙◌, ap, subst, nat_cmp}
use Rattle.std.specs.Cmp.Lexicographic.{slice_cmp}
use Rattle.std.specs.List.Sorted.{IsSortedByKey}
use Rattle.schema_values.specs.Order.{sorted_by}
use Rattle.schema_values.proofs.CallerLemmas.{sorted_is_sorted}
use Rattle.request_words.specs.declared.pairs.NamedText.{NamedText}
use Rattle.request_words.specs.Pairs.{pair_name}
use Rattle.request_words.proofs.Named.{is_named, named_sorted, two_maps}
use Rattle.request_words.proofs.sorted_pairs.SortedPairs.named.Goals as goal

abbrev lent : List (Bor NamedText) → List NamedText
lent refs = map (λ pair. pair.now) refs

pub items_named-requires : goal.items_named-requires
items_named-requires c =
    let pairs = c.args.self.now.pairs.now in
    let same : lent c.as_slice.result.now ≡ sorted_by pair_name pairs = ap lent c.as_slice.ensures.value ∙ c.args.self.now.ordered in
    subst (IsSortedByKey pair_name (slice_cmp nat_cmp)) (sym same) (sorted_is_sorted pair_name pairs)

pub returns : goal.returns
returns c =
    let pairs = c.args.self.now.pairs.now in
    let name = c.args.name.now in
    let same : lent c.as_slice.result.now ≡ sorted_by pair_name pairs = ap lent c.as_slice.ensures.value ∙ c.args.self.now.ordered in
    sym (two_maps (λ (pair : NamedText). pair.value) (λ (pair : Bor NamedText). pair.now) (λ pair. pair.now.value) (λ pair. refl) c.items_named.result.now)
    ∙ ap (map (λ (pair : NamedText). pair.value)) (c.items_named.ensures ∙ ap (filter (is_named pair_name name)) same ∙ named_sorted pair_name name pairs)
