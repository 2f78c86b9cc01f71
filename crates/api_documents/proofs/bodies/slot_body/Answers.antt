use Rattle.std.proofs.Common.{IsTrue, refl, sym, subst}
use Rattle.schema_values.specs.Ascii.{all_ascii}
use Rattle.request_parts.specs.ContentTypes.{mime_of}
use Rattle.request_parts.specs.declared.content_type.ApiEndpointBodyContentType.{ApiEndpointBodyContentType}
use Rattle.request_parts.specs.declared.content_type.ApiEndpointBodyContentType.TheVariants.{Bytes, Json, UrlEncoded}
use Rattle.request_parts.specs.declared.content_type.ApiEndpointBodyContentType.TheVariants.{MultipartFormData}
use Rattle.api_documents.proofs.bodies.slot_body.Goals as goal

-- each media type is ASCII
ascii_media : (kind : ApiEndpointBodyContentType) → IsTrue (all_ascii (mime_of kind))
ascii_media Bytes = refl
ascii_media Json = refl
ascii_media UrlEncoded = refl
ascii_media MultipartFormData = refl

pub content-requires-clause-ascii : goal.content-requires-clause-ascii
content-requires-clause-ascii c =
    subst (λ text. IsTrue (all_ascii text)) (sym c.mime_type.ensures.media) (ascii_media c.args.kind)
