use Rattle.std.proofs.Common.{Some, None}
use Rattle.api_types.proofs.CallerLemmas.{words_one, words_at}
use Rattle.sample_types.proofs.label.label_in.Goals as goal

pub unreachable-requires : goal.unreachable-requires
unreachable-requires c =
    let (w, is) = words_one (Some 1) None None c.args.tree.now c.requires in c.in_default.not-Text w is

pub returns-clause-right : goal.returns-clause-right
returns-clause-right c =
    words_at (Some 1) None None c.args.tree.now c.in-Text.text c.requires c.in-Text.is
