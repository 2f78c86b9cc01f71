-- Which arguments are of which slots, and what a handler does to its arguments.
use Rattle.std.specs.Prelude.{◌≡◌, zero, suc, ◌≤◌, pos, ⊤, List, [], ◌∷◌}
use Rattle.descriptors.specs.declared.desc.Desc.{Desc}
use Rattle.descriptors.specs.declared.table.Definition.{Definition}
use Rattle.descriptors.specs.declared.tree.Tree.{Tree, out-Tree}
use Rattle.descriptors.specs.declared.tree.Tree.TheOpen.{Tree-F}
use Rattle.typed_values.specs.Fits.{Fits}
use Rattle.typed_values.specs.Levels.{TreeOf}
use Rattle.handler_shapes.specs.declared.slot.Slot.{Slot}
use Rattle.handler_shapes.specs.declared.slot.Slot.TheVariants.{Path, Query, Header, PagedQuery, TypedBody, RawBody, StreamBody}
use Rattle.handler_shapes.specs.declared.arguments.Arg.{Arg}
use Rattle.handler_shapes.specs.declared.arguments.Arg.TheVariants.{Tree as OfTree, Raw, Stream}

-- a scan of the first page, or the selector of a later one
abbrev pub PageFits : List Definition → Desc → List Definition → Desc → TreeOf Tree → Type 0
PageFits table scan selector_table selector (Tree-F.Variant zero tree) = Fits table scan tree
PageFits table scan selector_table selector (Tree-F.Variant (suc zero) tree) = Fits selector_table selector tree
PageFits table scan selector_table selector _ = ⊥

-- how many items a page has at most: from 1 to 2^32-1
abbrev pub IsItemCount : TreeOf Tree → Type 0
IsItemCount (Tree-F.Int (pos n)) = (1 ≤ n) × (n ≤ 4294967295)
IsItemCount _ = ⊥

-- the limit of a page, where the request gives one
abbrev pub LimitFits : TreeOf Tree → Type 0
LimitFits Tree-F.None = ⊤
LimitFits (Tree-F.Some tree) = IsItemCount (out-Tree tree)
LimitFits _ = ⊥

-- a page and its limit
abbrev pub PagedFits : List Definition → Desc → List Definition → Desc → TreeOf Tree → Type 0
PagedFits table scan selector_table selector (Tree-F.Fields (page ∷ limit ∷ [])) =
    PageFits table scan selector_table selector (out-Tree page) × LimitFits (out-Tree limit)
PagedFits table scan selector_table selector _ = ⊥

-- an argument is of a slot
abbrev pub ArgFits : List Definition → Slot → Arg → Type 0
ArgFits table (Path desc) (OfTree tree) = Fits table desc tree
ArgFits table (Query desc) (OfTree tree) = Fits table desc tree
ArgFits table (Header desc) (OfTree tree) = Fits table desc tree
ArgFits table (PagedQuery scan selector selector_table) (OfTree tree) = PagedFits table scan selector_table selector (out-Tree tree)
ArgFits table (TypedBody desc name) (OfTree tree) = Fits table desc tree
ArgFits table RawBody (Raw bytes) = ⊤
ArgFits table StreamBody (Stream body) = ⊤
ArgFits table _ _ = ⊥

-- one argument for each slot, in order
abbrev pub ArgsFit : List Definition → List Slot → List Arg → Type 0
ArgsFit table [] [] = ⊤
ArgsFit table [] (arg ∷ args) = ⊥
ArgsFit table (slot ∷ slots) [] = ⊥
ArgsFit table (slot ∷ slots) (arg ∷ args) = ArgFits table slot arg × ArgsFit table slots args

-- a tree and bytes stay; a stream may be read
abbrev pub ArgStays : Arg → Arg → Type 0
ArgStays (OfTree before) after = after ≡ OfTree before
ArgStays (Raw before) after = after ≡ Raw before
ArgStays (Stream before) (Stream after) = ⊤
ArgStays (Stream before) _ = ⊥

-- each argument stays
abbrev pub ArgsStay : List Arg → List Arg → Type 0
ArgsStay [] [] = ⊤
ArgsStay [] (after ∷ afters) = ⊥
ArgsStay (before ∷ befores) [] = ⊥
ArgsStay (before ∷ befores) (after ∷ afters) = ArgStays before after × ArgsStay befores afters
