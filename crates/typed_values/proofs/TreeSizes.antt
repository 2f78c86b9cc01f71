-- The sizes of what a tree is made of.
use Rattle.std.proofs.Common.{◌≡◌, ℕ, suc, ◌<◌, ◌≤◌, List, ◌∙◌, length, get_or, arith}
use denote.Param.Weighed.{most, at_most}
use Rattle.descriptors.specs.declared.tree.Pair.{Pair, size-Pair, size_is-Pair}
use Rattle.descriptors.specs.declared.tree.Tree.{Tree, Some, List as Items, Map as Entries, Fields as Parts, Variant as Choice, size-Tree}
use Rattle.descriptors.specs.declared.tree.Tree.TheViews.{sized-Some, sized-List, sized-Map, sized-Fields, sized-Variant}

pub size_some : (t : Tree) → size-Tree (Some t) ≡ suc (size-Tree t)
size_some t = sized-Some t ∙ omega arith

pub size_items : (ts : List Tree) → size-Tree (Items ts) ≡ suc (most size-Tree ts)
size_items ts = sized-List ts ∙ omega arith

pub size_entries : (ps : List Pair) → size-Tree (Entries ps) ≡ suc (most size-Pair ps)
size_entries ps = sized-Map ps ∙ omega arith

pub size_parts : (ts : List Tree) → size-Tree (Parts ts) ≡ suc (most size-Tree ts)
size_parts ts = sized-Fields ts ∙ omega arith

size_pair : (p : Pair) → size-Pair p ≡ suc (size-Tree p.value)
size_pair p = size_is-Pair p ∙ omega arith

pub size_choice : (i : ℕ) (t : Tree) → size-Tree (Choice i t) ≡ suc (size-Tree t)
size_choice i t = sized-Variant i t ∙ omega arith

pub tree_smaller : (ts : List Tree) (i : ℕ) (t : Tree) → i < length ts → t ≡ get_or ts i t → size-Tree t < suc (most size-Tree ts)
tree_smaller ts i t h is = let deep = at_most size-Tree ts i t h in rw is (omega arith)

pub value_smaller : (ps : List Pair) (i : ℕ) (p : Pair) → i < length ps → p ≡ get_or ps i p → size-Tree p.value < most size-Pair ps
value_smaller ps i p h is =
    let deep : size-Pair p ≤ most size-Pair ps = rw is (at_most size-Pair ps i p h) in
    omega (arith, deep, size_pair p)
