use Rattle.std.proofs.Common.{◌∷◌, [], refl}
use Rattle.line_types.proofs.Headers.{line_at, line_one}
use Rattle.line_types.proofs.header.texts_in.Goals as goal

pub unreachable-requires : goal.unreachable-requires
unreachable-requires c = let (a, b, is, first, second) = line_one c.args.tree.now c.requires in c.in_default.not-List (a ∷ b ∷ []) is

pub returns-clause-two : goal.returns-clause-two
returns-clause-two c =
    let (a, b, is, first, second) = line_at c.args.tree.now c.in-List.texts c.requires c.in-List.is in
    rw (c.as_slice.ensures, is) refl

pub returns-clause-fit : goal.returns-clause-fit
returns-clause-fit c =
    let (a, b, is, first, second) = line_at c.args.tree.now c.in-List.texts c.requires c.in-List.is in
    rw (c.as_slice.ensures, is) (first, (second, tt))
