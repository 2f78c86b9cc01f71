use Rattle.std.proofs.Common.{sym, subst}
use Rattle.handler_shapes.specs.ShapeChecks.{ShapePasses}
use Rattle.api_declarations.specs.Values.{DeclarationValue}
use Rattle.api_documents.proofs.components.schemas.Goals as goal

-- the shape is that of one of the endpoints
pub add_schemas-requires : goal.add_schemas-requires
add_schemas-requires c =
    let item = c.declaration-item in
    let passes = c.requires c.loop-declaration.declaration-index item.result c.loop-declaration-test.true in
    subst (λ (d : DeclarationValue). ShapePasses d.shape) (sym item.is) passes
