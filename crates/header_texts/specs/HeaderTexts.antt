-- Which struct the header lines of a request denote, and which fault is told first where they denote none (OpenAPI 3.0.3,
-- Parameter Object; RFC 9110, sections 5.1 and 5.5).
use Rattle.std.specs.Prelude.{◌≡◌, ℕ, List, Option, option_map, option_and_then}
use Rattle.std.specs.Str.{encode_utf8_all}
use Rattle.std.specs.declared.result.Result.TheVariants.{Ok}
use Rattle.schema_values.specs.declared.variables.VariableValue.TheVariants.{String}
use Rattle.request_words.specs.declared.request.HeaderLine.{HeaderLine}
use Rattle.request_words.specs.HeaderLines.{last_line, all_shown, shown_text}
use Rattle.descriptors.specs.declared.desc.Desc.{Desc}
use Rattle.descriptors.specs.declared.desc.Field.{Field}
use Rattle.descriptors.specs.declared.table.Definition.{Definition}
use Rattle.descriptors.specs.declared.tree.Tree.{Tree}
use Rattle.typed_values.specs.declared.fault.FaultKind.TheVariants.{HeaderBytes}
use Rattle.typed_values.specs.Denotes.{Told, if_holds}
use Rattle.flat_maps.specs.Flat.{resolved, fields_told, flat_fields, under_struct}
use Rattle.flat_maps.specs.Given.{Names}
use Rattle.scalar_texts.specs.Texts.{text_told}

-- what the value of a line denotes under a field's type: its bytes are the characters of a text, and each is a visible
-- character, a space or a tab
abbrev pub line_told : List Definition → Desc → List ℕ → Told
line_told table d value = if_holds (all_shown value) HeaderBytes (text_told table value d)

-- what is told of a field: of the lines of its name, compared without case, the last one counts
abbrev pub header_told : List Definition → List HeaderLine → Field → Option Told
header_told table lines f = option_map (line_told table f.desc) (last_line (encode_utf8_all f.name) lines)

-- what header lines denote under a struct that takes unknown names; any other descriptor has no headers
abbrev pub headers_told : List Definition → List HeaderLine → Desc → Told
headers_told table lines d = under_struct (fields_told (header_told table lines)) (flat_fields (resolved table d))

-- the lines denote the tree
abbrev pub HeadersDenote : List Definition → Desc → List HeaderLine → Tree → Type 0
HeadersDenote table desc lines tree = headers_told table lines desc ≡ Ok tree

-- what header lines give as a map: the value of the last line of a name, where each of its bytes is shown
abbrev pub shown_names : List HeaderLine → Names
shown_names lines name = option_map String (option_and_then shown_text (last_line (encode_utf8_all name) lines))
