-- The parts of the tree of a page and its limit.
use Rattle.std.proofs.Common.{◌≡◌, ℕ, zero, suc, List, [], ◌∷◌, refl, sym, ◌∙◌}
use Rattle.descriptors.specs.declared.desc.Desc.{Desc}
use Rattle.descriptors.specs.declared.table.Definition.{Definition}
use Rattle.descriptors.specs.declared.tree.Tree.{Tree, out-Tree, roll-Tree}
use Rattle.descriptors.specs.declared.tree.Tree.TheOpen.{Tree-F}
use Rattle.descriptors.specs.declared.tree.Tree.TheVariants as trees
use Rattle.descriptors.specs.declared.tree.Tree.TheViews.{roll-out-Tree}
use Rattle.typed_values.specs.Levels.{TreeOf}
use Rattle.api_types.specs.Additions.{with_all}
use Rattle.handler_shapes.specs.Arguments.{PageFits, PagedFits}
use Rattle.handler_shapes.specs.declared.arguments.Arg.{Arg}
use Rattle.handler_shapes.specs.declared.arguments.Arg.TheVariants.{Tree as OfTree, Raw, Stream}
use Rattle.handler_shapes.specs.declared.slot.Slot.TheVariants.{PagedQuery}
use Rattle.typed_extractors.specs.PageTrees.{IsPage, IsPageAt, IsPaged, IsPagedArg, PageTypes, page_types}
use Rattle.typed_extractors.specs.Taken.{IsTaken}

module _ (ds es : List Definition) (scan selector : Desc) where
  abbrev types : PageTypes
  types = page_types ds scan es selector

  module _ (arg : Arg) (taken : IsTaken (PagedQuery scan selector (with_all [] es)) ds (es ∷ []) arg) where
    at : (place : ℕ) (value : Tree) → PageFits taken.table scan (with_all [] es) selector (Tree-F.Variant place value)
        → IsPageAt types place value
    at zero value fit = (
      taken.table,
      record { holds = taken.holds; table_passes = taken.passes; desc_passes = taken.slot_passes.0 },
      fit,
    )
    at (suc zero) value fit = (
      with_all [] es,
      record {
        holds = taken.tables.0;
        table_passes = taken.slot_passes.1.table;
        desc_passes = taken.slot_passes.1.selector;
      },
      fit,
    )
    at (suc (suc place)) value fit = fit

    page : (tree : Tree) (level : TreeOf Tree) → roll-Tree level ≡ tree
        → PageFits taken.table scan (with_all [] es) selector level → IsPage types tree
    page tree (Tree-F.Variant place value) is fit = record {
      place = place;
      value = value;
      is = sym is ∙ trees.rolls-Variant place value;
      at = at place value fit;
    }
    page tree _ is fit = absurd fit

    whole : (tree : Tree) (level : TreeOf Tree) → roll-Tree level ≡ tree
        → PagedFits taken.table scan (with_all [] es) selector level → IsPaged types tree
    whole tree (Tree-F.Fields (first ∷ second ∷ [])) is fit = (
      first ∷ second ∷ [],
      sym is ∙ trees.rolls-Fields (first ∷ second ∷ []),
      record {
        page = first;
        limit = second;
        are = refl;
        page_is = page first (out-Tree first) (roll-out-Tree first) fit.0;
        limit_fits = fit.1;
      },
    )
    whole tree _ is fit = absurd fit

  -- an argument of a slot of pages is the tree of a page and its limit
  pub paged_arg : (arg : Arg)
      → IsTaken (PagedQuery scan selector (with_all [] es)) ds (es ∷ []) arg → IsPagedArg types arg
  paged_arg (OfTree tree) taken = whole (OfTree tree) taken tree (out-Tree tree) (roll-out-Tree tree) taken.fits
  paged_arg (Raw bytes) taken = taken.fits
  paged_arg (Stream body) taken = taken.fits
