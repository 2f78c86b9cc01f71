use Rattle.std.proofs.Common.{rules, ◌≡◌, true, false, List, Bor, map, sym, ap, subst, ◌∙◌, nat_cmp, arith}
use Rattle.std.specs.Cmp.Lexicographic.{slice_cmp}
use Rattle.std.specs.List.Sorted.{IsSortedByKey}
use Rattle.schema_values.specs.declared.json_value.Member.{Member}
use Rattle.schema_values.specs.Member.{name_of}
use Rattle.descriptors.specs.declared.desc.Field.{Field}
use Rattle.descriptors.specs.Definitions.{field_name}
use Rattle.typed_values.specs.Denotes.{is_declared, denied_name}
use Rattle.schema_values.specs.Order.{sorted_by}
use Rattle.typed_values.specs.Order.{first_by}
use Rattle.typed_values.proofs.FirstNamed.{declared_by_found, denied_sorted, denied_behind, denied_here}
use Rattle.typed_values.proofs.Places.{taken_behind}
use Rattle.schema_values.proofs.CallerLemmas.{sorted_is_sorted}
use Rattle.typed_values.proofs.members.Members.denied_name.Goals as goal

abbrev lent : List (Bor Member) → List Member
lent refs = map (λ member. member.now) refs

abbrev lent_fields : List (Bor Field) → List Field
lent_fields refs = map (λ field. field.now) refs

pub loop-member-init : goal.loop-member-init
loop-member-init c =
    let fs = c.args.fields.now in
    sym (denied_sorted fs c.args.self.now.items.now) ∙ ap (denied_name true fs) (sym c.args.self.now.ordered)

pub first_named-requires : goal.first_named-requires
first_named-requires c =
    let fs = c.args.fields.now in
    let same : lent_fields c.as_slice.result.now ≡ sorted_by field_name fs = ap lent_fields c.as_slice.ensures.value ∙ c.in_ok-declared.ensures in
    subst (IsSortedByKey field_name (slice_cmp nat_cmp)) (sym same) (sorted_is_sorted field_name fs)

pub returns-then-is_none : goal.returns-then-is_none
returns-then-is_none c =
    let fs = c.args.fields.now in
    let ms = lent c.args.self.now.sorted.items in
    let m = c.member-item.result.now in
    let deny : c.args.deny_unknown ≡ true = search rules in
    let same = ap lent_fields c.as_slice.ensures.value ∙ c.in_ok-declared.ensures in
    let told = declared_by_found (λ field. field.now) fs m.name c.first_named.result (c.first_named.ensures ∙ ap (λ some. first_by field_name some m.name) same) in
    let unknown : is_declared fs m.name ≡ false = sym told ∙ c.if-is_none.ensures in
    let at = taken_behind (λ member. member.now) c.deref-member-items.result.now ms (ap lent c.deref-member-items.ensures.value) c.loop-member.member-index c.member-item.result (omega arith) c.member-item.is in
    let sorted = subst (IsSortedByKey name_of (slice_cmp nat_cmp)) (sym c.args.self.now.ordered) (sorted_is_sorted name_of c.args.self.now.items.now) in
    rw deny (sym (c.loop-member.invariant ∙ denied_here fs ms c.loop-member.member-index m at.0 at.1 sorted unknown))

pub loop-member-preserved : goal.loop-member-preserved
loop-member-preserved c =
    let fs = c.args.fields.now in
    let ms = lent c.args.self.now.sorted.items in
    let m = c.member-item.result.now in
    let same = ap lent_fields c.as_slice.ensures.value ∙ c.in_ok-declared.ensures in
    let told = declared_by_found (λ field. field.now) fs m.name c.first_named.result (c.first_named.ensures ∙ ap (λ some. first_by field_name some m.name) same) in
    let known : is_declared fs m.name ≡ true = sym told ∙ c.if-is_none.ensures in
    let at = taken_behind (λ member. member.now) c.deref-member-items.result.now ms (ap lent c.deref-member-items.ensures.value) c.loop-member.member-index c.member-item.result (omega arith) c.member-item.is in
    c.loop-member.invariant ∙ denied_behind fs ms c.loop-member.member-index m at.0 at.1 known
