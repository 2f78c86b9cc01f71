-- The map of texts that a struct of texts and optional texts is written as, as named headers are (OpenAPI 3.0.3, Header
-- Object), and what is told where the value is no such struct.
use Rattle.std.specs.Prelude.{ℕ, List, [], ◌∷◌, Option, Some, None, codes}
use Rattle.std.specs.declared.result.Result.{Result}
use Rattle.std.specs.declared.result.Result.TheVariants.{Ok, Err}
use Rattle.schema_values.specs.Order.{sorted_by}
use Rattle.descriptors.specs.declared.desc.Desc.{Desc, out-Desc}
use Rattle.descriptors.specs.declared.desc.Desc.TheOpen.{Desc-F}
use Rattle.descriptors.specs.declared.desc.Field.{Field}
use Rattle.descriptors.specs.declared.table.Definition.{Definition}
use Rattle.descriptors.specs.declared.tree.Tree.{Tree, out-Tree}
use Rattle.descriptors.specs.declared.tree.Tree.TheOpen.{Tree-F}
use Rattle.typed_values.specs.Fits.{field_desc}
use Rattle.typed_values.specs.Levels.{DescLevel, TreeOf}
use Rattle.flat_maps.specs.Flat.{resolved}
use Rattle.flat_maps.specs.Refusals.{invalid_type, refusal_by}

-- a name, and the text under it
abbrev pub TextEntry : Type 0
TextEntry = List ℕ × List ℕ

-- the name of an entry
abbrev pub entry_name : TextEntry → List ℕ
entry_name entry = entry.0

-- the text of a field, if it has one, or the text of a refusal
abbrev pub FieldText : Type 0
FieldText = Result (Option (List ℕ)) (List ℕ)

-- entries, or the text of a refusal
abbrev pub WrittenTexts : Type 0
WrittenTexts = Result (List TextEntry) (List ℕ)

-- a text is there, and anything else is refused
abbrev pub text_alone : List Definition → DescLevel → TreeOf Tree → FieldText
text_alone table (Desc-F.Text min max format) (Tree-F.Text text) = Ok (Some text)
text_alone table x t = Err (refusal_by table x t)

-- the same of what references lead to
abbrev pub text_behind : List Definition → Option Desc → Tree → FieldText
text_behind table None t = Err (invalid_type (codes "unit"))
text_behind table (Some d) t = text_alone table (out-Desc d) (out-Tree t)

-- an option of a text: none is no text; and a text
abbrev pub optional_text : List Definition → DescLevel → TreeOf Tree → FieldText
optional_text table (Desc-F.Option d) Tree-F.None = Ok None
optional_text table (Desc-F.Option d) (Tree-F.Some x) = text_behind table (resolved table d) x
optional_text table x t = text_alone table x t

-- the same of what references lead to
abbrev pub optional_behind : List Definition → Option Desc → Tree → FieldText
optional_behind table None t = Err (invalid_type (codes "unit"))
optional_behind table (Some d) t = optional_text table (out-Desc d) (out-Tree t)

-- the text of a field; one that may be left out has the tree of an option
abbrev pub field_text : List Definition → Field → Tree → FieldText
field_text table f t = optional_behind table (resolved table (field_desc f)) t

-- an entry for a text that is there
abbrev pub entries_with : List ℕ → Option (List ℕ) → List TextEntry → List TextEntry
entries_with name None entries = entries
entries_with name (Some text) entries = (name, text) ∷ entries

-- an entry before others, unless those are refused
abbrev pub entry_before : List ℕ → Option (List ℕ) → WrittenTexts → WrittenTexts
entry_before name text (Ok entries) = Ok (entries_with name text entries)
entry_before name text (Err refusal) = Err refusal

-- one field before others: the first refusal is told
abbrev pub before_rest : List ℕ → FieldText → WrittenTexts → WrittenTexts
before_rest name (Ok text) rest = entry_before name text rest
before_rest name (Err refusal) rest = Err refusal

-- the entries of some fields, in the order in which they are declared
abbrev pub texts_written : List Definition → List Field → List Tree → WrittenTexts
texts_written table [] ts = Ok []
texts_written table (f ∷ fs) [] = Ok []
texts_written table (f ∷ fs) (t ∷ ts) = before_rest f.name (field_text table f t) (texts_written table fs ts)

-- entries in the order of their names
abbrev pub in_name_order : WrittenTexts → WrittenTexts
in_name_order (Ok entries) = Ok (sorted_by entry_name entries)
in_name_order (Err refusal) = Err refusal

-- a struct is written field by field, and anything else is refused
abbrev pub map_by : List Definition → DescLevel → TreeOf Tree → WrittenTexts
map_by table (Desc-F.Struct fs deny) (Tree-F.Fields ts) = in_name_order (texts_written table fs ts)
map_by table x t = Err (refusal_by table x t)

-- the same of what references lead to
abbrev pub map_behind : List Definition → Option Desc → Tree → WrittenTexts
map_behind table None t = Err (invalid_type (codes "unit"))
map_behind table (Some d) t = map_by table (out-Desc d) (out-Tree t)

-- the entries of the map that a value is written as, in the order of their names, or what is told of it
abbrev pub map_written : List Definition → Desc → Tree → WrittenTexts
map_written table d t = map_behind table (resolved table d) t
