use Rattle.std.proofs.Common.{◌+◌, ap, sym, take, ◌∙◌, ◌∷◌}
use Rattle.path_templates.specs.Segments.{pieces}
use Rattle.path_templates.proofs.Pieces.{cut_at, cut_nowhere, rest_whole}
use Rattle.path_templates.proofs.segments.first_piece.Goals as goal

pub returns-in-Some-clause-pieces : goal.returns-in-Some-clause-pieces
returns-in-Some-clause-pieces c =
    (cut_at c.args.text.now c.in-Some.end (sym c.in-Some.ensures)).1
    ∙ ap (λ rest. take c.in-Some.end c.args.text.now ∷ pieces rest) (sym (rest_whole (c.in-Some.end + 1) c.args.text.now))

pub returns-in-None-clause-pieces : goal.returns-in-None-clause-pieces
returns-in-None-clause-pieces c = cut_nowhere c.args.text.now (sym c.in-None.ensures)
