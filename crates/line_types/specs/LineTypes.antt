-- What the values of the types of request lines say: the members of a line.
use Rattle.std.specs.Prelude.{ℕ, List, map}
use Rattle.schema_values.specs.declared.variables.VariableValue.{VariableValue}
use Rattle.schema_values.specs.declared.variables.VariableValue.TheVariants.{String, Components}
use Rattle.request_lines.specs.RequestLines.{Members, WrittenFrame, WrittenLine, as_hex, as_text}
use Rattle.line_types.specs.declared.frame.LineFrame.{LineFrame}
use Rattle.line_types.specs.declared.frame.LineFrame.TheVariants as frames
use Rattle.line_types.specs.declared.header.LineHeader.{LineHeader}
use Rattle.line_types.specs.declared.request_line.RequestLine.{RequestLine}
use Rattle.line_types.specs.declared.variable.LineVariable.{LineVariable}
use Rattle.line_types.specs.declared.variable.LineVariable.TheVariants as variables

-- what a variable stands for
abbrev pub line_variable : LineVariable → VariableValue
line_variable (variables.Text text) = String text
line_variable (variables.Components texts) = Components texts

-- a name, and what it stands for
abbrev pub line_entry : List ℕ × LineVariable → List ℕ × VariableValue
line_entry entry = (entry.0, line_variable entry.1)

-- a name and a value
abbrev pub line_header : LineHeader → WrittenLine
line_header header = (header.name, header.value)

-- a text, or digits
abbrev pub line_frame : LineFrame → WrittenFrame
line_frame (frames.Text text) = as_text text
line_frame (frames.Digits digits) = as_hex digits.hex

-- the members of a line that a value has
abbrev pub line_members : RequestLine → Members
line_members line = record {
  method = line.method;
  template = line.template;
  request_id = line.request_id;
  uri = line.uri;
  variables = map line_entry line.variables.entries;
  headers = map line_header line.headers;
  frames = map line_frame line.frames;
}
