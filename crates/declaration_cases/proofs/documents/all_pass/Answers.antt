use Rattle.std.proofs.Common.{subst, arith}
use Rattle.std.specs.Prelude.{All}
use Rattle.std.proofs.lemmas.List.{take_all}
use Rattle.std.proofs.lemmas.List.Elements.{All-more}
use Rattle.handler_shapes.specs.ShapeChecks.{ShapePasses}
use Rattle.api_declarations.specs.Values.{DeclarationValue}
use Rattle.declaration_cases.proofs.documents.all_pass.Goals as goal

-- the shape of a declaration passes
abbrev Passes : DeclarationValue → Type 0
Passes d = ShapePasses d.shape

pub loop-declaration-preserved : goal.loop-declaration-preserved
loop-declaration-preserved c =
    All-more Passes c.args.declarations.now c.loop-declaration.declaration-index c.declaration-item.result (omega arith)
    c.loop-declaration.invariant
    (subst Passes c.declaration-item.is (c.passes.ensures c.if-not-passes.false))

pub returns : goal.returns
returns c =
    λ t. subst (All Passes) (take_all c.loop-declaration.declaration-index c.args.declarations.now (omega arith))
    c.loop-declaration.invariant
