-- What the query of an operation in pages denotes: a page and a limit. A request for the first page says what is scanned,
-- one for a later page has a token of the page before (this project's own; the extension `x-dropshot-pagination`).
use Rattle.std.specs.Prelude.{◌≡◌, ℕ, nat_lt, pos, ⊤, Bool, false, List, [], ◌∷◌, length, Option, Some, None, option_and_then}
use Rattle.std.specs.Prelude.{if◌then◌else◌, bytes_eq, codes, Result}
use Rattle.std.specs.declared.result.Result.TheVariants.{Ok, Err}
use Rattle.std.specs.Str.{encode_utf8_all}
use Rattle.base64.specs.declared.decode.DecodeError.{DecodeError}
use Rattle.base64.specs.Engines.{url_safe}
use Rattle.base64.specs.GeneralPurpose.{decode_of}
use Rattle.schema_values.specs.declared.json_value.Json.{Json, out-Json}
use Rattle.schema_values.specs.declared.json_value.Json.TheOpen.{Json-F}
use Rattle.schema_values.specs.Get.{get_of}
use Rattle.request_words.specs.declared.pairs.NamedText.{NamedText}
use Rattle.request_words.specs.Pairs.{is_doubled, last_value}
use Rattle.descriptors.specs.declared.desc.Desc.{Desc}
use Rattle.descriptors.specs.declared.desc.IntKind.TheVariants.{U32}
use Rattle.descriptors.specs.declared.table.Definition.{Definition}
use Rattle.descriptors.specs.declared.tree.Tree.{Tree, None as Nothing, Fields as Parts, Variant as Choice}
use Rattle.typed_values.specs.declared.fault.FaultKind.{FaultKind}
use Rattle.typed_values.specs.declared.fault.FaultKind.TheVariants.{Doubled, BadLimit, TokenTooLarge, TokenNotBase64, TokenCorrupted}
use Rattle.typed_values.specs.declared.fault.Place.TheVariants.{Name}
use Rattle.typed_values.specs.Denotes.{Told, below, just, refused, told}
use Rattle.flat_maps.specs.declared.repeats.Repeats.TheVariants.{Last}
use Rattle.flat_maps.specs.Pairs.{pairs_told}
use Rattle.scalar_texts.specs.Texts.{number_of_text}
use Rattle.page_tokens.specs.declared.token_error.TokenError.{TokenError}
use Rattle.page_tokens.specs.declared.token_error.TokenError.TheVariants as errors
use Rattle.api_extract.specs.Readings.{value_read}

-- a tree, or a fault of this kind at the whole in place of any other
abbrev pub or_refused : FaultKind → Told → Told
or_refused kind (Ok tree) = Ok tree
or_refused kind (Err trouble) = refused kind

-- ---- the limit

-- a whole number from 1 to 4294967295, where one is given
abbrev pub limit_value : Option (List ℕ) → Told
limit_value None = Ok Nothing
limit_value (Some text) = just (or_refused BadLimit (number_of_text U32 (Some (pos 1)) None text))

-- a pair `limit` stands more than once
abbrev pub doubled_limit : Told
doubled_limit = below (Name (codes "limit")) (refused (Doubled (codes "limit")))

-- the pair `limit` stands at most once
abbrev pub limit_told : List NamedText → Told
limit_told pairs =
    if is_doubled pairs (codes "limit") then doubled_limit else limit_value (last_value (codes "limit") pairs)

-- ---- the page

-- whether a member is the text `v1`
abbrev pub is_v1_level : {X Y : Type 0} → Json-F X Y → Bool
is_v1_level (Json-F.Text text) = bytes_eq text (codes "v1")
is_v1_level _ = false

abbrev pub is_v1 : Option Json → Bool
is_v1 None = false
is_v1 (Some json) = is_v1_level (out-Json json)

-- the start of a page that the JSON of a token has, in the form `v1` of `page_tokens`
abbrev pub start_of : Json → Option Json
start_of json = if is_v1 (get_of (codes "v") json) then get_of (codes "page_start") json else None

-- the selector that a start denotes
abbrev pub started_told : List Definition → Desc → Option Json → Told
started_told table selector None = refused TokenCorrupted
started_told table selector (Some start) = or_refused TokenCorrupted (told table selector start selector)

-- the same of the bytes that a token is the base64 of (RFC 4648, section 5)
abbrev pub decoded_told : List Definition → Desc → Result (List ℕ) DecodeError → Told
decoded_told table selector (Err error) = refused TokenNotBase64
decoded_told table selector (Ok bytes) = started_told table selector (option_and_then start_of (value_read bytes))

-- what the bytes of a token denote: at most 512 of them are read
abbrev pub bytes_told : List Definition → Desc → List ℕ → Told
bytes_told table selector token =
    if nat_lt 512 (length token) then refused TokenTooLarge else decoded_told table selector (decode_of url_safe token)

-- the error of a token, as a fault of the whole; want of memory tells nothing of the token
abbrev pub IsTokenFault : TokenError → Told → Type 0
IsTokenFault (errors.TooLarge size) told = told ≡ refused TokenTooLarge
IsTokenFault errors.NotBase64 told = told ≡ refused TokenNotBase64
IsTokenFault errors.Corrupted told = told ≡ refused TokenCorrupted
IsTokenFault errors.OutOfMemory told = ⊤

-- the tree of a variant
abbrev pub as_choice : ℕ → Told → Told
as_choice place (Ok tree) = Ok (Choice place tree)
as_choice place (Err trouble) = Err trouble

-- what a query in pages is read under: what is scanned, under the table of the handler, and the selector, under its own
pub record PageTypes : Type 0 where
  pub table : List Definition
  pub scan : Desc
  pub selector_table : List Definition
  pub selector : Desc

-- the first page, of the last value of each name that is scanned; or a later one, of the last token, and no other name
-- is read
abbrev pub page_told : PageTypes → List NamedText → Option (List ℕ) → Told
page_told types pairs None = as_choice 0 (pairs_told types.table Last pairs types.scan)
page_told types pairs (Some token) =
    as_choice 1 (bytes_told types.selector_table types.selector (encode_utf8_all token))

-- ---- both

-- the page and the limit
abbrev pub page_beside : Tree → Told → Told
page_beside limit (Ok page) = Ok (Parts (page ∷ limit ∷ []))
page_beside limit (Err trouble) = Err trouble

-- a fault of the limit is told before one of the page
abbrev pub behind_limit : Told → Told → Told
behind_limit (Ok limit) page = page_beside limit page
behind_limit (Err trouble) page = Err trouble

-- what the pairs of a query in pages denote
abbrev pub page_query_told : PageTypes → List NamedText → Told
page_query_told types pairs =
    behind_limit (limit_told pairs) (page_told types pairs (last_value (codes "page_token") pairs))
