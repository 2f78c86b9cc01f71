use Rattle.std.proofs.Common.{◌≡◌, ◌<◌, drop, Less, Greater, subst, arith}
use Rattle.std.specs.Cmp.Lexicographic.{slice_cmp}
use Rattle.std.specs.Ordering.{nat_cmp}
use Rattle.schema_values.specs.Member.{name_of}
use Rattle.schema_values.proofs.DistinctLemmas.{Below}
use Rattle.schema_values.proofs.Placing.{AreAbove, above_more, below_from_last, placed_at}
use Rattle.schema_values.proofs.one_pass.place_of.Goals as goal

pub returns-in-Less-clause-placed : goal.returns-in-Less-clause-placed
returns-in-Less-clause-placed c =
    let l = c.loop-index in
    let found = c.index-members-index.result in
    let name = c.args.name.now in
    let less : slice_cmp nat_cmp (name_of found) name ≡ Less = grind arith in
    let some : 0 < l.index = omega (arith, c.loop-index-test.true) in
    let last = subst (λ m. Below (name_of m) name) c.index-members-index.is less in
    placed_at c.args.members.now l.index name (below_from_last name c.args.members.now l.index found some l.invariant.0 c.requires last) l.invariant.1

pub loop-index-preserved : goal.loop-index-preserved
loop-index-preserved c =
    let l = c.loop-index in
    let found = c.index-members-index.result in
    let greater : slice_cmp nat_cmp (name_of found) c.args.name.now ≡ Greater = grind arith in
    (omega (arith, l.invariant.0), above_more c.args.name.now c.args.members.now l.index found (omega (arith, c.loop-index-test.true)) l.invariant.0 c.index-members-index.is greater l.invariant.1)

pub returns-then-index-eq0-clause-placed : goal.returns-then-index-eq0-clause-placed
returns-then-index-eq0-clause-placed c =
    let start : c.loop-index.index ≡ 0 = c.if-index-eq0.true in
    placed_at c.args.members.now 0 c.args.name.now tt (subst (λ i. AreAbove c.args.name.now (drop i c.args.members.now)) start c.loop-index.invariant.1)
