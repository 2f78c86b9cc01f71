-- The token of the next page, and why there is none.
use Rattle.std.specs.Prelude.{◌≡◌, ◌≢◌, ◌++◌, ◌-◌, ◌<◌, ◌≤◌, ⊤, ℕ, List, [], length, slice_get, Option, Some, None, Result, Ok, codes}
use Rattle.std.specs.Fmt.{decimal}
use Rattle.std.specs.Fn.{Shared}
use Rattle.std.specs.declared.alloc.AllocError.{AllocError}
use Rattle.std.specs.declared.alloc.Global.{Global}
use Rattle.http_status.specs.declared.error.HttpError.{HttpError}
use Rattle.http_status.specs.declared.refusal.HttpRefusal.{HttpRefusal}
use Rattle.http_status.specs.declared.refusal.HttpRefusal.TheVariants.{Http, OutOfMemory}
use Rattle.http_status.specs.Errors.{internal_error}
use denote.Ref.{Bor}
use Rattle.descriptors.specs.declared.desc.Desc.{Desc}
use Rattle.descriptors.specs.declared.table.Definition.{Definition}
use Rattle.descriptors.specs.declared.tree.Tree.{Tree}
use Rattle.api_types.specs.Additions.{with_all}
use Rattle.api_types.specs.Types.{IsTableOf}
use Rattle.page_tokens.specs.Forms.{v1}
use Rattle.page_tokens.specs.Tokens.{token_of}

-- the function, called on an item and the parameters of the scan, may answer the selector
pub record Selects {F T S P : Type 0} (calls : Shared F (Global × (Bor T × (Bor S × Unit {0}))) (Result P AllocError))
    (f : F) (scan : S) (item : T) (selector : P) : Type 0 where
  pub alloc : Global
  pub item_lent : Bor T
  pub scan_lent : Bor S
  pub lends : (item_lent.now ≡ item) × (scan_lent.now ≡ scan)
  pub answers : calls.post f (alloc, (item_lent, (scan_lent, tt))) (Ok selector)

-- an item is the last one, and a selector is selected for it
pub record SelectsLast {T P : Type 0} (Selected : T → P → Type 0) (items : List T) (selector : P) :
    Type 0 where
  pub last : T
  pub is_last : slice_get items (length items - 1) ≡ Some last
  pub selected : Selected last selector

-- the next page: none where there is no item, else the token of a selector of the last item
abbrev pub IsNextPage : {T P : Type 0} → (T → P → Type 0) → (P → List ℕ) → List T → Option (List ℕ) → Type 0
IsNextPage Selected token items None = items ≡ []
IsNextPage {P = P} Selected token items (Some text) =
    (selector : P) × SelectsLast Selected items selector × (text ≡ token selector) × (length text ≤ 512)

-- a type's definitions, added to an empty table, do not clash, and pass their checks with its descriptor
abbrev pub HasTable : List Definition → Desc → Type 0
HasTable ds desc = IsTableOf ds desc (with_all [] ds)

-- the token of a tree of a type, beside that table
abbrev pub type_token : List Definition → Desc → Tree → List ℕ
type_token ds desc tree = token_of v1 (with_all [] ds) desc tree

-- as `serialized token is too large (516 bytes, max is 512)`
abbrev pub too_large_text : ℕ → List ℕ
too_large_text size = codes "serialized token is too large (" ++ decimal size ++ codes " bytes, max is 512)"

-- the internal error of a token above 512 bytes
abbrev pub IsTooLarge : List ℕ → HttpError → Type 0
IsTooLarge token error = (512 < length token) × (error ≡ internal_error (too_large_text (length token)))

-- why a selector has no token
abbrev pub IsNoToken : List ℕ → HttpRefusal → Type 0
IsNoToken token (Http error) = IsTooLarge token error
IsNoToken token OutOfMemory = ⊤

-- why there is no page: the token of a selector of the last item is too large, or memory is wanting
abbrev pub IsNoPage : {T P : Type 0} → (T → P → Type 0) → (P → List ℕ) → List T → HttpRefusal → Type 0
IsNoPage {P = P} Selected token items (Http error) =
    (selector : P) × SelectsLast Selected items selector × IsTooLarge (token selector) error
IsNoPage Selected token items OutOfMemory = ⊤

-- there is an item, and each selector of the last one has a token above 512 bytes
abbrev pub AreAllTooLarge : {T P : Type 0} → (T → P → Type 0) → (P → List ℕ) → List T → Type 0
AreAllTooLarge {P = P} Selected token items =
    (items ≢ []) × ((selector : P) → SelectsLast Selected items selector → 512 < length (token selector))
