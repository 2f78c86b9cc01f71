use Rattle.std.proofs.Common.{take}
use Rattle.std.specs.Prelude.{All}
use Rattle.handler_shapes.specs.ShapeChecks.{ShapePasses}
use Rattle.api_declarations.specs.Values.{DeclarationValue}
use Rattle.declaration_cases.proofs.documents.all_pass.Given as goal

-- the shapes of the declarations so far pass
abbrev pub invariant-loop-declaration : goal.invariant-loop-declaration
invariant-loop-declaration l =
    All (λ (d : DeclarationValue). ShapePasses d.shape) (take l.declaration-index l.declarations)
