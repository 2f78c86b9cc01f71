use Rattle.std.proofs.Common.{◌++◌, [], ◌∷◌, ◌∙◌, List, length, ap, sym, arith}
use Rattle.std.specs.List.{insert}
use Rattle.std.proofs.lemmas.Result.{on_ok_weaker}
use Rattle.header_lists.specs.HeaderLists.{Line, inserted}
use Rattle.header_lists.proofs.Placed.{line_placed, line_added}
use Rattle.header_lists.proofs.header_list.HeaderList.insert.Goals as goal

pub returns-in_default-clause-ok : goal.returns-in_default-clause-ok
returns-in_default-clause-ok c =
    let added = line_added c.args.name c.args.value _ _ c.in_default.ensures c.as_slice.ensures.value in
    on_ok_weaker c.append.result
    (λ is.
    is
    ∙ ap (λ (ls : List Line). ls ++ (c.args.name, c.args.value) ∷ []) (sym c.self.view_is)
    ∙ sym added.0
    ∙ ap (inserted c.args.name c.args.value) c.self.view_is)
    c.append.ensures.ok

pub returns-in_default-clause-replaces : goal.returns-in_default-clause-replaces
returns-in_default-clause-replaces c there =
    let added = line_added c.args.name c.args.value _ _ c.in_default.ensures c.as_slice.ensures.value in
    absurd (cc (there, added.1))

pub insert-requires : goal.insert-requires
insert-requires c =
    let at = line_placed c.args.name c.args.value _ _ c.in-Some.place c.in-Some.ensures c.as_slice.ensures.value in
    omega (arith, at.within, ap length c.drop_lines.ensures.others, c.drop_lines.new.lines.ok.0)

-- there is room for the line, since one of its name went
pub returns-in_err-insert : goal.returns-in_err-insert
returns-in_err-insert c =
    let at = line_placed c.args.name c.args.value _ _ c.in-Some.place c.in-Some.ensures c.as_slice.ensures.value in
    let kept = ap length c.drop_lines.ensures.others in
    absurd
    (omega (
      arith,
      at.fewer,
      kept,
      c.drop_lines.new.lines.ok.0,
      c.self.inside.lines.ok.0,
      c.drop_lines.ensures.capacity,
      c.in_err-insert.ensures.full,
    ))

pub returns-clause-ok : goal.returns-clause-ok
returns-clause-ok c =
    let at = line_placed c.args.name c.args.value _ _ c.in-Some.place c.in-Some.ensures c.as_slice.ensures.value in
    c.in_ok-insert.ensures.items
    ∙ ap (λ (ls : List Line). insert ls c.in-Some.place (c.args.name, c.args.value)) c.drop_lines.ensures.others
    ∙ sym at.placed
    ∙ ap (inserted c.args.name c.args.value) c.self.view_is
