use Rattle.std.proofs.Common.{◌≡◌, List, Bor, map, option_map, sym, ap, subst, ◌∙◌, nat_cmp}
use Rattle.std.specs.Cmp.Lexicographic.{slice_cmp}
use Rattle.std.specs.List.Sorted.{IsSortedByKey}
use Rattle.schema_values.specs.declared.json_value.Member.{Member}
use Rattle.schema_values.specs.Member.{name_of}
use Rattle.schema_values.specs.Order.{sorted_by}
use Rattle.typed_values.specs.Order.{first_by}
use Rattle.typed_values.proofs.FirstNamed.{first_sorted, value_of_first}
use Rattle.schema_values.proofs.CallerLemmas.{sorted_is_sorted}
use Rattle.typed_values.proofs.members.Members.value_named.Goals as goal

abbrev lent : List (Bor Member) → List Member
lent refs = map (λ member. member.now) refs

pub first_named-requires : goal.first_named-requires
first_named-requires c =
    let ms = c.args.self.now.items.now in
    let same : lent c.as_slice.result.now ≡ sorted_by name_of ms = ap lent c.as_slice.ensures.value ∙ c.args.self.now.ordered in
    subst (IsSortedByKey name_of (slice_cmp nat_cmp)) (sym same) (sorted_is_sorted name_of ms)

pub returns-in_err-member : goal.returns-in_err-member
returns-in_err-member c =
    let ms = c.args.self.now.items.now in
    let name = c.args.name.now in
    let same : lent c.as_slice.result.now ≡ sorted_by name_of ms = ap lent c.as_slice.ensures.value ∙ c.args.self.now.ordered in
    ap (option_map (λ value. value.now)) c.from_residual.ensures
    ∙ ap (option_map (λ member. member.value)) (c.in_err-member.ensures ∙ ap (λ some. first_by name_of some name) same ∙ first_sorted name_of ms name)
    ∙ sym (value_of_first ms name)

pub returns : goal.returns
returns c =
    let ms = c.args.self.now.items.now in
    let name = c.args.name.now in
    let same : lent c.as_slice.result.now ≡ sorted_by name_of ms = ap lent c.as_slice.ensures.value ∙ c.args.self.now.ordered in
    ap (option_map (λ member. member.value)) (c.in_ok-member.ensures ∙ ap (λ some. first_by name_of some name) same ∙ first_sorted name_of ms name) ∙ sym (value_of_first ms name)
