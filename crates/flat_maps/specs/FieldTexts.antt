-- Which texts stand under which names, where a struct of texts is written as named headers are (OpenAPI 3.0.3, Header
-- Object): exactly those of its fields.
use Rattle.std.specs.Prelude.{◌≡◌, ◌↔◌, ℕ, Bool, List, Option, Some, None, Contains, zip}
use Rattle.schema_values.specs.declared.variables.VariableValue.TheVariants.{String}
use Rattle.descriptors.specs.declared.desc.Desc.{Desc, out-Desc}
use Rattle.descriptors.specs.declared.desc.Desc.TheOpen.{Desc-F}
use Rattle.descriptors.specs.declared.desc.Field.{Field}
use Rattle.descriptors.specs.declared.table.Definition.{Definition}
use Rattle.descriptors.specs.declared.tree.Tree.{Tree, out-Tree}
use Rattle.descriptors.specs.declared.tree.Tree.TheOpen.{Tree-F}
use Rattle.typed_values.specs.Levels.{TreeOf}
use Rattle.flat_maps.specs.Flat.{resolved}
use Rattle.flat_maps.specs.Given.{Names}

-- the text that a tree is
abbrev pub tree_text : TreeOf Tree → Option (List ℕ)
tree_text (Tree-F.Text text) = Some text
tree_text _ = None

-- the text of a field's tree: the tree is that text, or an option that holds it
abbrev pub field_tree_text : TreeOf Tree → Option (List ℕ)
field_tree_text (Tree-F.Some t) = tree_text (out-Tree t)
field_tree_text x = tree_text x

-- a field of this name has this text
abbrev pub FieldHas : List Field → List Tree → List ℕ → List ℕ → Type 0
FieldHas fs ts name text =
    (f : Field) × (t : Tree) × Contains (zip fs ts) (f, t) × (f.name ≡ name) × (field_tree_text (out-Tree t) ≡ Some text)

-- the tree is that of a struct, and a text stands under a name exactly where a field of that name has it
pub record HoldsTexts (table : List Definition) (d : Desc) (t : Tree) (names : Names) : Type 0 where
  pub resolves : Desc
  pub fields : List Field
  pub deny : Bool
  pub trees : List Tree
  pub leads : resolved table d ≡ Some resolves
  pub struct : out-Desc resolves ≡ Desc-F.Struct fields deny
  pub parts : out-Tree t ≡ Tree-F.Fields trees
  pub exactly : (name text : List ℕ) → (names name ≡ Some (String text)) ↔ FieldHas fields trees name text
