-- Faults with their paths, and the texts that tell them.
use Rattle.std.specs.Prelude.{ℕ, List, [], ◌∷◌, ◌++◌, codes, bytes_eq, if◌then◌else◌}
use Rattle.std.specs.Fmt.{decimal}
use Rattle.typed_values.specs.declared.fault.FaultKind.{FaultKind}
use Rattle.typed_values.specs.declared.fault.FaultKind.TheVariants.{Missing, Doubled, Unknown, WrongKind, BadText, OutOfRange, BadLength, NotListed, NoAlternative, NotJson}
use Rattle.typed_values.specs.declared.fault.FaultKind.TheVariants.{HeaderBytes, BadLimit, TokenTooLarge, TokenNotBase64, TokenCorrupted, ContentTypeBytes, ContentTypeUnsupported, ContentTypeMismatch}
use Rattle.typed_values.specs.declared.fault.Place.{Place}
use Rattle.typed_values.specs.declared.fault.Place.TheVariants.{Name, Item}
use Rattle.typed_values.specs.declared.fault.Fault.{Fault}

-- a fault, and the places that lead to it, the outermost first
pub record Trouble : Type 0 where
  pub path : List Place
  pub kind : FaultKind

-- a fault that no place leads to
abbrev pub at_root : FaultKind → Trouble
at_root kind = record { path = []; kind = kind }

-- a place behind others: a name after a dot, an item in brackets
abbrev pub place_behind : Place → List ℕ
place_behind (Name name) = 46 ∷ name
place_behind (Item k) = 91 ∷ decimal k ++ 93 ∷ []

-- some places, one behind another
abbrev pub places_behind : List Place → List ℕ
places_behind [] = []
places_behind (place ∷ rest) = place_behind place ++ places_behind rest

-- a dot at the root, else the places, where a first name has no dot
abbrev pub path_text : List Place → List ℕ
path_text [] = codes "."
path_text (Name name ∷ rest) = name ++ places_behind rest
path_text (Item k ∷ rest) = places_behind (Item k ∷ rest)

-- what a kind of fault is told as
abbrev pub kind_text : FaultKind → List ℕ
kind_text (Missing name) = codes "missing field `" ++ name ++ codes "`"
kind_text (Doubled name) = codes "duplicate field `" ++ name ++ codes "`"
kind_text (Unknown name) = codes "unknown field `" ++ name ++ codes "`"
kind_text WrongKind = codes "invalid type"
kind_text (BadText text kind) = codes "unable to parse '" ++ text ++ codes "' as " ++ kind
kind_text OutOfRange = codes "value out of range"
kind_text BadLength = codes "length out of range"
kind_text NotListed = codes "unknown variant"
kind_text NoAlternative = codes "no alternative fits"
kind_text NotJson = codes "not JSON"
kind_text HeaderBytes = codes "not a visible ASCII text"
kind_text BadLimit = codes "limit must be a whole number from 1 to 4294967295"
kind_text TokenTooLarge = codes "failed to parse pagination token: too large"
kind_text TokenNotBase64 = codes "failed to parse pagination token: not base64"
kind_text TokenCorrupted = codes "failed to parse pagination token: corrupted token"
kind_text ContentTypeBytes = codes "invalid content type: not a visible ASCII text"
kind_text (ContentTypeUnsupported given) = codes "unsupported content-type: " ++ given
kind_text (ContentTypeMismatch expected given) = codes "expected content type \"" ++ expected ++ codes "\", got \"" ++ given ++ codes "\""

-- the fault as it is handed out
abbrev pub fault_of : Trouble → Fault
fault_of trouble = record { path = path_text trouble.path; kind = trouble.kind }

-- the kind's text alone at the root, else the path, a colon, a space and the kind's text
abbrev pub fault_text : Fault → List ℕ
fault_text fault = if bytes_eq fault.path (codes ".") then kind_text fault.kind else fault.path ++ codes ": " ++ kind_text fault.kind
