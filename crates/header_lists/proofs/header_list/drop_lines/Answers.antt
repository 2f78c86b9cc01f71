use Rattle.std.proofs.Common.{not, rules}
use Rattle.std.proofs.lemmas.Fn.{filter_same}
use Rattle.header_lists.specs.HeaderLists.{is_line_of}
use Rattle.header_lists.proofs.header_list.drop_lines.Goals as goal

pub returns-clause-others : goal.returns-clause-others
returns-clause-others c =
    filter_same _ (λ line. not (is_line_of c.args.name.now line)) _
    (λ x b q r. search rules) _ _ c.retain.ensures.filtered
