-- The members that values say: each line's members are those of a value.
use Rattle.std.proofs.Common.{◌≡◌, ◌↔◌, ℕ, List, [], ◌∷◌, map, refl, sym, ap, ap₂, subst, inl}
use Rattle.std.proofs.lemmas.Simd.{map-map}
use Rattle.std_collections.specs.Layout.BTreeMap.{btree_map}
use Rattle.schema_values.specs.declared.variables.VariableValue.{VariableValue}
use Rattle.schema_values.specs.declared.variables.VariableValue.TheVariants.{String, Components}
use Rattle.descriptors.specs.declared.tree.Tree.{Tree}
use Rattle.descriptors.specs.declared.tree.Tree.TheVariants as trees
use Rattle.api_types.specs.Maps.{pair_of}
use Rattle.http_bodies.specs.declared.frame.Frame.{Frame}
use Rattle.request_parts.specs.Requests.{Request}
use Rattle.request_lines.specs.RequestLines.{AreMade, AsksFor, HasMembers, Members, WrittenFrame, WrittenLine}
use Rattle.request_lines.specs.RequestLines.{as_hex, as_text, frame_tree, line_tree, members_tree, variable_tree}
use Rattle.semver.specs.Parse.{Parts}
use Rattle.line_types.specs.LineTypes.{line_entry, line_frame, line_header, line_members, line_variable}
use Rattle.line_types.specs.declared.frame.LineFrame.{LineFrame}
use Rattle.line_types.specs.declared.frame.LineFrame.TheVariants as frames
use Rattle.line_types.specs.declared.header.LineHeader.{LineHeader}
use Rattle.line_types.specs.declared.request_line.RequestLine.{RequestLine}
use Rattle.line_types.specs.declared.variable.LineVariable.{LineVariable}
use Rattle.line_types.specs.declared.variable.LineVariable.TheVariants as variables

-- the tree of a value, part by part
abbrev pub value_tree : RequestLine → Tree
value_tree value = trees.Fields
    (trees.Text value.method
    ∷ trees.Text value.template
    ∷ trees.Text value.request_id
    ∷ trees.Text value.uri
    ∷ trees.Map (map (pair_of (λ v. variable_tree (line_variable v))) value.variables.entries)
    ∷ trees.List (map (λ h. line_tree (line_header h)) value.headers)
    ∷ trees.List (map (λ f. frame_tree (line_frame f)) value.frames)
    ∷ [])

pub same_tree : (value : RequestLine) → value_tree value ≡ members_tree (line_members value)
same_tree value =
    rw (
      map-map (pair_of variable_tree) line_entry value.variables.entries,
      map-map line_tree line_header value.headers,
      map-map frame_tree line_frame value.frames,
    ) refl

-- ---- the value that says some members

module _ {A B : Type 0} (f : A → B) (back : B → A) (again : (y : B) → f (back y) ≡ y) where
  all_again : (ys : List B) → map f (map back ys) ≡ ys
  all_again [] = refl
  all_again (y ∷ ys) = ap₂ (λ (z : B) (zs : List B). z ∷ zs) (again y) (all_again ys)

abbrev variable_back : VariableValue → LineVariable
variable_back (String text) = variables.Text text
variable_back (Components texts) = variables.Components texts

variable_again : (v : VariableValue) → line_variable (variable_back v) ≡ v
variable_again (String text) = refl
variable_again (Components texts) = refl

abbrev entry_back : List ℕ × VariableValue → List ℕ × LineVariable
entry_back entry = (entry.0, variable_back entry.1)

entry_again : (entry : List ℕ × VariableValue) → line_entry (entry_back entry) ≡ entry
entry_again entry = ap (λ (v : VariableValue). (entry.0, v)) (variable_again entry.1)

abbrev header_back : WrittenLine → LineHeader
header_back line = record { name = line.0; value = line.1 }

abbrev frame_back : WrittenFrame → LineFrame
frame_back (as_text text) = frames.Text text
frame_back (as_hex digits) = frames.Digits (record { hex = digits })

frame_again : (frame : WrittenFrame) → line_frame (frame_back frame) ≡ frame
frame_again (as_text text) = refl
frame_again (as_hex digits) = refl

-- how its map lies in memory says nothing
abbrev value_back : Members → RequestLine
value_back members = record {
  method = members.method;
  template = members.template;
  request_id = members.request_id;
  uri = members.uri;
  variables = btree_map (map entry_back members.variables) (inl tt);
  headers = map header_back members.headers;
  frames = map frame_back members.frames;
}

members_again : (members : Members) → line_members (value_back members) ≡ members
members_again members =
    rw (
      all_again line_entry entry_back entry_again members.variables,
      all_again line_header header_back (λ line. refl) members.headers,
      all_again line_frame frame_back frame_again members.frames,
    ) refl

-- a line asks for what is made of the members of a value that it denotes, and for nothing else
pub asks_by_value : (version : Parts) (line : List ℕ) (request : Request) (frames : List Frame)
    → AsksFor version line request frames
    ↔ ((value : RequestLine) × HasMembers line (line_members value) × AreMade version (line_members value) request frames)
asks_by_value version line request frames = (
  λ asked. (
    value_back asked.members,
    subst (HasMembers line) (sym (members_again asked.members)) asked.has_members,
    subst (λ (members : Members). AreMade version members request frames) (sym (members_again asked.members)) asked.are_made,
  ),
  λ told. record { members = line_members told.0; has_members = told.1; are_made = told.2 },
)
