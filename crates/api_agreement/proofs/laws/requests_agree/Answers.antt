use Rattle.std.proofs.lemmas.Bool.{and_from}
use Rattle.std.proofs.lemmas.List.Elements.{All-contains}
use Rattle.openapi_values.specs.Document.{open_api_json}
use Rattle.handler_shapes.specs.ShapeChecks.{ShapePasses}
use Rattle.api_declarations.proofs.CallerLemmas.{held}
use Rattle.api_documents.specs.Documents.{document_of, errors_of}
use Rattle.api_declarations.specs.Serving.{is_listed}
use Rattle.api_documents.specs.Listed.{listed, path_of}
use Rattle.api_documents.specs.Operations.{operation_of}
use Rattle.api_documents.proofs.CallerLemmas.{kept}
use Rattle.api_agreement.proofs.RequestsAgree.{agrees}
use Rattle.api_agreement.proofs.laws.requests_agree.Goals as goal

pub returns : goal.returns
returns c = λ version ds configured info may d is shown.
    let document = document_of ds configured info version in
    let named = errors_of (listed version ds) in
    let tested = and_from _ _ is.visible ((held d.versions version).1 is.held) in
    let here = kept (is_listed version) ds d is.declared tested in
    let at = (c.documents_list.ensures.lists version ds configured info may).each d is in
    agrees (open_api_json document) named d shown
    (All-contains (λ other. ShapePasses other.shape) (listed version ds) d may.passing here)
    (c.documents_define.ensures (listed version ds) configured info may.passing may.definitions d here)
    (λ request. c.operations_admitted.ensures document (path_of d) d.method (operation_of named d) request at)
    (λ terms request body within.
    c.requests_within_limits_are_read.ensures terms d.shape.slots request body within)
