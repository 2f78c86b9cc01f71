use Rattle.std.proofs.Common.{sym}
use Rattle.handler_shapes.specs.ShapeChecks.{ShapePasses}
use Rattle.api_documents.specs.Places.{has_method}
use Rattle.api_documents.proofs.DocumentParts.{first_passes}
use Rattle.api_documents.proofs.operations.operation_by.Goals as goal

pub operation_of-requires : goal.operation_of-requires
operation_of-requires c =
    let by_method = has_method c.args.method.now in
    let found = c.in-Some in
    first_passes (λ d. ShapePasses d.shape) by_method c.args.declarations.now c.requires c.args.places.now
    found.declaration.now (sym found.ensures)
