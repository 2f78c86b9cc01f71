-- Which tree a text denotes under a descriptor, and which fault is told where it denotes none: the texts of path, query
-- and header parameters and of forms, in the style of a single value (OpenAPI 3.0.3, Parameter Object, Style Values).
use Rattle.std.specs.Prelude.{◌≡◌, ◌==◌, ℕ, zero, suc, ℤ, Bool, true, false, ◌&&◌, List, length, Option, Some, None}
use Rattle.std.specs.Prelude.{if◌then◌else◌, bytes_eq, codes}
use Rattle.std.specs.declared.result.Result.TheVariants.{Ok}
use Rattle.request_words.specs.Numbers.{has_minus, number_of}
use Rattle.descriptors.specs.declared.desc.Desc.{Desc, out-Desc}
use Rattle.descriptors.specs.declared.desc.Desc.TheOpen.{Desc-F}
use Rattle.descriptors.specs.declared.desc.IntKind.{IntKind}
use Rattle.descriptors.specs.declared.desc.IntKind.TheVariants.{I8, I16, I32, I64, U8, U16, U32, U64}
use Rattle.descriptors.specs.declared.desc.Named.{Named}
use Rattle.descriptors.specs.declared.table.Definition.{Definition}
use Rattle.descriptors.specs.declared.tree.Tree.{Tree, Bool as Truth, Int as Number, Text as Words}
use Rattle.descriptors.specs.Definitions.{definition, listed_name}
use Rattle.typed_values.specs.declared.fault.FaultKind.TheVariants.{WrongKind, BadText, BadLength, NotListed}
use Rattle.typed_values.specs.Bounds.{is_number_of, is_length_within}
use Rattle.typed_values.specs.Denotes.{Told, refused, if_holds, just, named_from, where_found, bare}
use Rattle.typed_values.specs.Denotes.{at_definition, room}
use Rattle.typed_values.specs.Levels.{DescLevel}

-- the two words of truth values
abbrev pub truth_of_text : List ℕ → Told
truth_of_text text =
    if bytes_eq (codes "true") text then Ok (Truth true) else
    (if bytes_eq (codes "false") text then Ok (Truth false) else refused (BadText text (codes "bool")))

-- the name of a kind of numbers
abbrev pub kind_name : IntKind → List ℕ
kind_name I8 = codes "i8"
kind_name I16 = codes "i16"
kind_name I32 = codes "i32"
kind_name I64 = codes "i64"
kind_name U8 = codes "u8"
kind_name U16 = codes "u16"
kind_name U32 = codes "u32"
kind_name U64 = codes "u64"

-- whether the numbers of a kind have no sign
abbrev pub has_no_sign : IntKind → Bool
has_no_sign I8 = false
has_no_sign I16 = false
has_no_sign I32 = false
has_no_sign I64 = false
has_no_sign U8 = true
has_no_sign U16 = true
has_no_sign U32 = true
has_no_sign U64 = true

-- the number of an optional sign and digits, which has no minus where the kind has no sign
abbrev pub number_in : IntKind → List ℕ → Option ℤ
number_in kind text = if has_no_sign kind && has_minus text then None else number_of text

-- a number of a kind, within bounds, or a fault where the text is none
abbrev pub number_or_fault : IntKind → Option ℤ → Option ℤ → List ℕ → Option ℤ → Told
number_or_fault kind min max text None = refused (BadText text (kind_name kind))
number_or_fault kind min max text (Some n) =
    if_holds (is_number_of kind min max n) (BadText text (kind_name kind)) (Ok (Number n))

-- the number of a text
abbrev pub number_of_text : IntKind → Option ℤ → Option ℤ → List ℕ → Told
number_of_text kind min max text = number_or_fault kind min max text (number_in kind text)

-- the text itself, where its length is within bounds
abbrev pub words_of_text : Option ℕ → Option ℕ → List ℕ → Told
words_of_text min max text = if_holds (is_length_within min max (length text)) BadLength (Ok (Words text))

-- one character
abbrev pub character_of_text : List ℕ → Told
character_of_text text = if_holds (length text == 1) (BadText text (codes "char")) (Ok (Words text))

-- one of the names
abbrev pub name_of_text : List Named → List ℕ → Told
name_of_text ns text = where_found (refused NotListed) bare (named_from listed_name 0 ns text)

-- One row for each descriptor; no other has a text. `next` is what the text denotes with one step less.
abbrev pub text_by : List Definition → List ℕ → (Desc → Told) → DescLevel → Told
text_by table text next Desc-F.Bool = truth_of_text text
text_by table text next Desc-F.Char = character_of_text text
text_by table text next (Desc-F.Int kind min max) = number_of_text kind min max text
text_by table text next (Desc-F.Text min max format) = words_of_text min max text
text_by table text next (Desc-F.Enumeration ns) = name_of_text ns text
text_by table text next (Desc-F.Option d) = just (next d)
text_by table text next (Desc-F.Ref name) = at_definition next (definition table name)
text_by table text next _ = refused WrongKind

-- with no step left nothing is denoted
unfoldable pub text_at : List Definition → List ℕ → ℕ → Desc → Told
text_at table text zero d = refused WrongKind
text_at table text (suc n) d = text_by table text (text_at table text n) (out-Desc d)

-- what a text denotes
unfoldable pub text_told : List Definition → List ℕ → Desc → Told
text_told table text d = text_at table text (room table d) d

-- the text denotes the tree
abbrev pub TextDenotes : List Definition → Desc → List ℕ → Tree → Type 0
TextDenotes table desc text tree = text_told table text desc ≡ Ok tree
