-- Labels of points: texts of at least one character.
use Rattle.std.specs.Prelude.{ℕ, Bool, List, length, Some, None}
use Rattle.descriptors.specs.declared.desc.Desc.{Desc}
use Rattle.descriptors.specs.declared.desc.Desc.TheVariants as descs
use Rattle.typed_values.specs.Bounds.{is_length_within}

-- a text is a label
abbrev pub is_label : List ℕ → Bool
is_label text = is_length_within (Some 1) None (length text)

-- its descriptor
abbrev pub label_desc : Desc
label_desc = descs.Text (Some 1) None None
