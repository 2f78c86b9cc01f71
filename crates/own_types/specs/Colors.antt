-- Colors: an enumeration of three names.
use Rattle.std.specs.Prelude.{ℕ, List, [], ◌∷◌, codes, Option, Some, None}
use Rattle.descriptors.specs.declared.desc.Desc.{Desc}
use Rattle.descriptors.specs.declared.desc.Desc.TheVariants as descs
use Rattle.descriptors.specs.declared.desc.Named.{Named}
use Rattle.descriptors.specs.declared.table.Definition.{Definition}
use Rattle.descriptors.specs.declared.tree.Tree.{Tree}
use Rattle.descriptors.specs.declared.tree.Tree.TheVariants as trees
use Rattle.descriptors.specs.Definitions.{definition_with}
use Rattle.own_types.specs.declared.color.Color.{Color}
use Rattle.own_types.specs.declared.color.Color.TheVariants.{Red, Green, Blue}

-- a name, with or without a description
abbrev pub named : List ℕ → Option (List ℕ) → Named
named name description = record { name = name; description = description }

-- the names of the colors
abbrev pub color_names : List Named
color_names = named (codes "red") None ∷ named (codes "green") (Some (codes "as grass")) ∷ named (codes "blue") None ∷ []

-- the definition of colors
abbrev pub color_definition : Definition
color_definition = definition_with (codes "Color") None (descs.Enumeration color_names)

-- the descriptor of colors
abbrev pub color_desc : Desc
color_desc = descs.Ref (codes "Color")

-- the place of a color among the names
abbrev pub color_place : Color → ℕ
color_place Red = 0
color_place Green = 1
color_place Blue = 2

-- the tree of a color
abbrev pub color_tree : Color → Tree
color_tree color = trees.Variant (color_place color) trees.Unit
