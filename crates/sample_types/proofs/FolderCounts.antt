-- Folders, counted by those inside, and by their trees.
use Rattle.std.proofs.Common.{◌≡◌, ℕ, suc, List, [], ◌∷◌, map, refl, sym, ap, ap₂, ◌∙◌, subst}
use Rattle.std.specs.Prelude.{sum}
use Rattle.descriptors.specs.declared.tree.Tree.{Tree}
use Rattle.descriptors.specs.declared.tree.Tree.TheFolds.{fold-Tree, fold-roll-Tree}
use Rattle.descriptors.specs.declared.tree.Tree.TheOpen.{Tree-F}
use Rattle.descriptors.specs.declared.tree.Tree.TheVariants as trees
use Rattle.typed_values.specs.Levels.{TreeOf, PairOf, same_pair}
use Rattle.own_types.specs.declared.folder.Folder.{Folder, out-Folder}
use Rattle.own_types.specs.declared.folder.Folder.TheFolds.{fold_out-Folder, fold-roll-Folder, ind-Folder, map-Folder}
use Rattle.own_types.specs.declared.folder.Folder.TheOpen.{Folder-F}
use Rattle.own_types.specs.declared.folder.Folder.TheViews.{roll-Folder}
use Rattle.own_types.specs.Folders.{folder_tree, folder_tree_step}
use Rattle.sample_types.specs.Folders.{count_step, folder_count}

-- the number of folders, by those of the folders inside
pub folder_count-is : (folder : Folder) → folder_count folder
    ≡ suc (sum (map folder_count (out-Folder folder).children))
folder_count-is folder = fold_out-Folder ℕ count_step folder

-- ---- the same by trees

-- a struct of a name and a list is one folder more than those of the list
abbrev tree_step : TreeOf ℕ → ℕ
tree_step (Tree-F.Fields (name ∷ children ∷ [])) = suc children
tree_step (Tree-F.List counts) = sum counts
tree_step _ = 0

abbrev tree_count : Tree → ℕ
tree_count = fold-Tree ℕ (PairOf ℕ) tree_step same_pair

struct_count : (name children : Tree) → tree_count (trees.Fields (name ∷ children ∷ [])) ≡ suc (tree_count children)
struct_count name children =
    ap tree_count (sym (trees.rolls-Fields (name ∷ children ∷ [])))
    ∙ fold-roll-Tree ℕ (PairOf ℕ) tree_step same_pair (Tree-F.Fields (name ∷ children ∷ []))

list_count : (ts : List Tree) → tree_count (trees.List ts) ≡ sum (map tree_count ts)
list_count ts =
    ap tree_count (sym (trees.rolls-List ts)) ∙ fold-roll-Tree ℕ (PairOf ℕ) tree_step same_pair (Tree-F.List ts)

-- a folder whose tree counts as it does
abbrev Counted : Folder → Type 0
Counted folder = tree_count (folder_tree folder) ≡ folder_count folder

abbrev Item : Type 0
Item = (folder : Folder) × Counted folder

abbrev plain : Folder-F Item → Folder-F Folder
plain = map-Folder Item Folder (λ e. e.0)

each_counted : (es : List Item)
    → map tree_count (map folder_tree (map (λ e. e.0) es)) ≡ map folder_count (map (λ e. e.0) es)
each_counted [] = refl
each_counted (e ∷ es) = ap₂ (λ (n : ℕ) (ns : List ℕ). n ∷ ns) e.1 (each_counted es)

of_level : (y : Folder-F Item) → Counted (roll-Folder (plain y))
of_level y =
    let ts = map folder_tree (plain y).children in
    ap tree_count (fold-roll-Folder Tree folder_tree_step (plain y))
    ∙ struct_count (trees.Text y.name) (trees.List ts)
    ∙ ap suc (list_count ts ∙ ap sum (each_counted y.children))
    ∙ sym (fold-roll-Folder ℕ count_step (plain y))

counted : (folder : Folder) → Counted folder
counted = ind-Folder Counted (λ x y is. subst (λ (z : Folder-F Folder). Counted (roll-Folder z)) is (of_level y))

-- folders of one tree are as many
pub same_tree_count : (one other : Folder) → folder_tree one ≡ folder_tree other
    → folder_count one ≡ folder_count other
same_tree_count one other same = sym (counted one) ∙ ap tree_count same ∙ counted other
