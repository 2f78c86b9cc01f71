use Rattle.std.proofs.Common.{◌≡◌, ◌≤◌, suc, length, refl, sym, ◌∙◌, ap, arith}
use Rattle.api_documents.specs.References.{reached_within, referred_by, roots_of}
use Rattle.api_documents.proofs.Reaching.{same_length, all_reached}
use Rattle.api_documents.proofs.reached.reached.Goals as goal

pub returns-then-len-before : goal.returns-then-len-before
returns-then-len-before c =
    let table = c.args.shape.now.table in
    let steps = c.loop.counter in
    let names = reached_within table (roots_of c.args.shape.now) in
    let all = c.definitions-definitions.ensures.items in
    let next : c.add_all-in-loop.new.names.keys ≡ names (suc steps) =
    rw (c.in_ok-add_all-2.ensures, c.in_ok-referred.ensures, all, c.loop.invariant) refl in
    let before = c.if-len-before.true ∙ c.len-before.ensures.len ∙ ap length c.loop.invariant in
    let as_many : length (names (suc steps)) ≡ length (names steps) =
    ap length (sym next) ∙ sym c.len.ensures.len ∙ before in
    let same = same_length (referred_by (names steps) table) (names steps) as_many in
    let within : steps ≤ length table = omega (arith, c.loop-test.true, ap length all) in
    next ∙ sym (all_reached table (roots_of c.args.shape.now) steps (length table) within same)
