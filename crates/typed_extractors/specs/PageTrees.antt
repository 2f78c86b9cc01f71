-- The trees of pages: which page is asked for, and how many items it has at most.
use Rattle.std.specs.Prelude.{◌≡◌, ℕ, zero, suc, pos, List, [], ◌∷◌, Option}
use Rattle.std.specs.NonZero.{non_zero_u32_get}
use Rattle.std.specs.declared.num.NonZeroU32.{NonZeroU32}
use Rattle.descriptors.specs.declared.desc.Desc.{Desc}
use Rattle.descriptors.specs.declared.table.Definition.{Definition}
use Rattle.descriptors.specs.declared.tree.Tree.{Tree, out-Tree}
use Rattle.descriptors.specs.declared.tree.Tree.TheVariants as trees
use Rattle.api_types.specs.Options.{option_tree}
use Rattle.api_types.specs.Types.{FitsOne}
use Rattle.handler_shapes.specs.declared.arguments.Arg.{Arg}
use Rattle.handler_shapes.specs.declared.arguments.Arg.TheVariants.{Tree as OfTree, Raw, Stream}
use Rattle.handler_shapes.specs.Arguments.{LimitFits}
use Rattle.result_pages.specs.declared.pagination_params.PaginationParams.{PaginationParams}
use Rattle.result_pages.specs.declared.pagination_params.WhichPage.{WhichPage}
use Rattle.result_pages.specs.declared.pagination_params.WhichPage.TheVariants.{First, Next}

-- ---- the trees of values

-- the first page has 0 and the tree of its scan, a later one 1 and the tree of its selector
abbrev pub page_tree : {S P : Type 0} → (S → Tree) → (P → Tree) → WhichPage S P → Tree
page_tree scan_tree selector_tree (First scan) = trees.Variant 0 (scan_tree scan)
page_tree scan_tree selector_tree (Next selector) = trees.Variant 1 (selector_tree selector)

-- a number of items
abbrev pub count_tree : NonZeroU32 → Tree
count_tree count = trees.Int (pos (non_zero_u32_get count))

-- a limit, where one is given
abbrev pub limit_tree : Option NonZeroU32 → Tree
limit_tree limit = option_tree count_tree limit

-- the page, and then its limit
abbrev pub params_tree : {S P : Type 0} → (S → Tree) → (P → Tree) → PaginationParams S P → Tree
params_tree scan_tree selector_tree params =
    trees.Fields (page_tree scan_tree selector_tree params.page ∷ limit_tree params.limit ∷ [])

-- ---- the form of a tree that fits

-- the types of a page: the definitions and the descriptors of its scan and of its selector
pub record PageTypes : Type 0 where
  pub scan_definitions : List Definition
  pub scan : Desc
  pub selector_definitions : List Definition
  pub selector : Desc

abbrev pub page_types : List Definition → Desc → List Definition → Desc → PageTypes
page_types scan_definitions scan selector_definitions selector = record {
  scan_definitions = scan_definitions;
  scan = scan;
  selector_definitions = selector_definitions;
  selector = selector;
}

-- at 0 stands the tree of a scan, at 1 that of a selector
abbrev pub IsPageAt : PageTypes → ℕ → Tree → Type 0
IsPageAt types zero tree = FitsOne types.scan_definitions types.scan tree
IsPageAt types (suc zero) tree = FitsOne types.selector_definitions types.selector tree
IsPageAt types (suc (suc place)) tree = ⊥

-- a tree is that of a page
pub record IsPage (types : PageTypes) (tree : Tree) : Type 0 where
  pub place : ℕ
  pub value : Tree
  pub is : tree ≡ trees.Variant place value
  pub at : IsPageAt types place value

-- two trees are those of a page and of its limit
pub record AreParts (types : PageTypes) (parts : List Tree) : Type 0 where
  pub page : Tree
  pub limit : Tree
  pub are : parts ≡ page ∷ limit ∷ []
  pub page_is : IsPage types page
  pub limit_fits : LimitFits (out-Tree limit)

-- a tree is that of a page and its limit
abbrev pub IsPaged : PageTypes → Tree → Type 0
IsPaged types tree = (parts : List Tree) × (tree ≡ trees.Fields parts) × AreParts types parts

-- so is the tree of an argument
abbrev pub IsPagedArg : PageTypes → Arg → Type 0
IsPagedArg types (OfTree tree) = IsPaged types tree
IsPagedArg types (Raw bytes) = ⊥
IsPagedArg types (Stream body) = ⊥
