use Rattle.std.proofs.Common.{◌++◌, ◌∙◌, List, not, ap, rules}
use Rattle.std.proofs.lemmas.Fn.{filter_same}
use Rattle.header_lists.specs.HeaderLists.{Line, extended, has_line}
use Rattle.header_lists.proofs.header_list.HeaderList.extend.Goals as goal

pub returns-clause-ok : goal.returns-clause-ok
returns-clause-ok c =
    let more = c.other.inside.lines.items in
    let kept =
    filter_same _ (λ line. not (has_line line.0 more)) _ (λ x b q r. search rules) _ _ c.retain.ensures.filtered in
    c.in_ok-append.ensures.items
    ∙ ap (λ (ls : List Line). ls ++ more) kept
    ∙ ap (λ (ls : List Line). extended ls more) (c.in_ok-reserve.ensures.items ∙ c.self.view_is)
    ∙ ap (extended c.args.self.now) c.other.view_is
