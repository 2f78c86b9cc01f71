-- Labels: texts of 1 to 16 characters.
use Rattle.std.specs.Prelude.{ℕ, Bool, List, length, Some, None}
use Rattle.descriptors.specs.declared.desc.Desc.{Desc}
use Rattle.descriptors.specs.declared.desc.Desc.TheVariants as descs
use Rattle.typed_values.specs.Bounds.{is_length_within}

-- a text of 1 to 16 characters
abbrev pub is_label : List ℕ → Bool
is_label text = is_length_within (Some 1) (Some 16) (length text)

-- the descriptor of labels
abbrev pub label_desc : Desc
label_desc = descs.Text (Some 1) (Some 16) None
