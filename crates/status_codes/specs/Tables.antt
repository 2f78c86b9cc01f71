-- The constants: each name with its number. Those of errors by the client are the first two tables together.
use Rattle.std.specs.Prelude.{ℕ, List, [], ◌∷◌, codes}

-- 400 to 413: RFC 9110, section 15.5. 413 keeps the name that it had before RFC 9110.
abbrev pub table_400 : List (List ℕ × ℕ)
table_400 =
    (codes "BAD_REQUEST", 400) ∷
    (codes "UNAUTHORIZED", 401) ∷
    (codes "PAYMENT_REQUIRED", 402) ∷
    (codes "FORBIDDEN", 403) ∷
    (codes "NOT_FOUND", 404) ∷
    (codes "METHOD_NOT_ALLOWED", 405) ∷
    (codes "NOT_ACCEPTABLE", 406) ∷
    (codes "PROXY_AUTHENTICATION_REQUIRED", 407) ∷
    (codes "REQUEST_TIMEOUT", 408) ∷
    (codes "CONFLICT", 409) ∷
    (codes "GONE", 410) ∷
    (codes "LENGTH_REQUIRED", 411) ∷
    (codes "PRECONDITION_FAILED", 412) ∷
    (codes "PAYLOAD_TOO_LARGE", 413) ∷ []

-- 414 to 451: RFC 9110, section 15.5, but 418 of RFC 2324, 423 and 424 of RFC 4918, 428, 429 and 431 of
-- RFC 6585, and 451 of RFC 7725. 422 keeps the name that it had before RFC 9110.
abbrev pub table_414 : List (List ℕ × ℕ)
table_414 =
    (codes "URI_TOO_LONG", 414) ∷
    (codes "UNSUPPORTED_MEDIA_TYPE", 415) ∷
    (codes "RANGE_NOT_SATISFIABLE", 416) ∷
    (codes "EXPECTATION_FAILED", 417) ∷
    (codes "IM_A_TEAPOT", 418) ∷
    (codes "MISDIRECTED_REQUEST", 421) ∷
    (codes "UNPROCESSABLE_ENTITY", 422) ∷
    (codes "LOCKED", 423) ∷
    (codes "FAILED_DEPENDENCY", 424) ∷
    (codes "UPGRADE_REQUIRED", 426) ∷
    (codes "PRECONDITION_REQUIRED", 428) ∷
    (codes "TOO_MANY_REQUESTS", 429) ∷
    (codes "REQUEST_HEADER_FIELDS_TOO_LARGE", 431) ∷
    (codes "UNAVAILABLE_FOR_LEGAL_REASONS", 451) ∷ []

-- 500 to 511: RFC 9110, section 15.6, but 506 of RFC 2295, 507 of RFC 4918, 508 of RFC 5842, 510 of RFC 2774,
-- and 511 of RFC 6585.
abbrev pub table_500 : List (List ℕ × ℕ)
table_500 =
    (codes "INTERNAL_SERVER_ERROR", 500) ∷
    (codes "NOT_IMPLEMENTED", 501) ∷
    (codes "BAD_GATEWAY", 502) ∷
    (codes "SERVICE_UNAVAILABLE", 503) ∷
    (codes "GATEWAY_TIMEOUT", 504) ∷
    (codes "HTTP_VERSION_NOT_SUPPORTED", 505) ∷
    (codes "VARIANT_ALSO_NEGOTIATES", 506) ∷
    (codes "INSUFFICIENT_STORAGE", 507) ∷
    (codes "LOOP_DETECTED", 508) ∷
    (codes "NOT_EXTENDED", 510) ∷
    (codes "NETWORK_AUTHENTICATION_REQUIRED", 511) ∷ []
