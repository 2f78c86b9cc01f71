-- The token of a tree, and the tree that a token reads as.
use Rattle.std.specs.Prelude.{◌≡◌, ℕ, ◌<◌, ◌≤◌, ⊤, List, length, Ok}
use Rattle.base64.specs.Engines.{url_safe}
use Rattle.base64.specs.GeneralPurpose.{decode_of}
use Rattle.schema_values.specs.declared.json_value.Json.{Json}
use Rattle.schema_values.specs.Reading.{Reads}
use Rattle.descriptors.specs.declared.desc.Desc.{Desc}
use Rattle.descriptors.specs.declared.table.Definition.{Definition}
use Rattle.descriptors.specs.declared.tree.Tree.{Tree}
use Rattle.typed_values.specs.Denotes.{JsonDenotes}
use Rattle.typed_values.specs.Encoding.{json_of_tree}
use Rattle.page_tokens.specs.declared.token_error.TokenError.{TokenError}
use Rattle.page_tokens.specs.declared.token_error.TokenError.TheVariants.{TooLarge, NotBase64, Corrupted, OutOfMemory}
use Rattle.page_tokens.specs.Encoded.{IsNotBase64, encoding_of}
use Rattle.page_tokens.specs.Forms.{Form}

-- the base64 of the compact text of the object that the form makes of the tree's JSON
abbrev pub token_of : Form → List Definition → Desc → Tree → List ℕ
token_of form table selector tree = encoding_of (form.object (json_of_tree table selector tree))

-- the bytes read as JSON that has, in the form, a start which denotes the tree
pub record HoldsStart (form : Form) (table : List Definition) (selector : Desc) (bytes : List ℕ) (tree : Tree) :
    Type 0 where
  pub json : Json
  pub start : Json
  pub reads : Reads bytes json
  pub has_start : form.HasStart json start
  pub denotes : JsonDenotes table selector start tree

-- the token has at most 512 bytes and is the base64 of bytes that hold the tree as their start
pub record TokenReads (form : Form) (table : List Definition) (selector : Desc) (token : List ℕ) (tree : Tree) :
    Type 0 where
  pub bytes : List ℕ
  pub small : length token ≤ 512
  pub decodes : decode_of url_safe token ≡ Ok bytes
  pub holds : HoldsStart form table selector bytes tree

-- no tree is the start that the bytes hold
abbrev pub HoldsNone : Form → List Definition → Desc → List ℕ → Type 0
HoldsNone form table selector bytes = (tree : Tree) → HoldsStart form table selector bytes tree → ⊥

-- Why a token is refused: its size, its letters, or what it encodes. Each cause leaves out those before it.
abbrev pub IsTokenRefused : Form → List Definition → Desc → List ℕ → TokenError → Type 0
IsTokenRefused form table selector token (TooLarge size) = (512 < length token) × (size ≡ length token)
IsTokenRefused form table selector token NotBase64 = (length token ≤ 512) × IsNotBase64 token
IsTokenRefused form table selector token Corrupted =
    (length token ≤ 512) × (bytes : List ℕ) × (decode_of url_safe token ≡ Ok bytes) × HoldsNone form table selector bytes
IsTokenRefused form table selector token OutOfMemory = ⊤

-- bytes are refused where they hold no tree, or memory is wanting
abbrev pub AreBytesRefused : Form → List Definition → Desc → List ℕ → TokenError → Type 0
AreBytesRefused form table selector bytes Corrupted = HoldsNone form table selector bytes
AreBytesRefused form table selector bytes OutOfMemory = ⊤
AreBytesRefused form table selector bytes _ = ⊥

-- a value is refused where it denotes no tree, or memory is wanting
abbrev pub IsStartRefused : List Definition → Desc → Json → TokenError → Type 0
IsStartRefused table selector json Corrupted = (tree : Tree) → JsonDenotes table selector json tree → ⊥
IsStartRefused table selector json OutOfMemory = ⊤
IsStartRefused table selector json _ = ⊥
