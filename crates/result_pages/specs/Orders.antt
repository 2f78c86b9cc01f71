-- The order of pages: an enumeration of two names.
use Rattle.std.specs.Prelude.{ℕ, List, [], ◌∷◌, codes, Some, None}
use Rattle.descriptors.specs.declared.desc.Desc.{Desc}
use Rattle.descriptors.specs.declared.desc.Desc.TheVariants as descs
use Rattle.descriptors.specs.declared.desc.Named.{Named}
use Rattle.descriptors.specs.declared.table.Definition.{Definition}
use Rattle.descriptors.specs.declared.tree.Tree.{Tree}
use Rattle.descriptors.specs.declared.tree.Tree.TheVariants as trees
use Rattle.descriptors.specs.Definitions.{definition_with}
use Rattle.result_pages.specs.declared.pagination_order.PaginationOrder.{PaginationOrder}
use Rattle.result_pages.specs.declared.pagination_order.PaginationOrder.TheVariants.{Ascending, Descending}

-- a name without a description
abbrev pub order_name : List ℕ → Named
order_name name = record { name = name; description = None }

-- the two names
abbrev pub order_names : List Named
order_names = order_name (codes "ascending") ∷ order_name (codes "descending") ∷ []

-- the definition of orders
abbrev pub order_definition : Definition
order_definition =
    definition_with (codes "PaginationOrder")
    (Some (codes "The order in which the client wants to page through the requested collection"))
    (descs.Enumeration order_names)

-- the descriptor of orders
abbrev pub order_desc : Desc
order_desc = descs.Ref (codes "PaginationOrder")

-- the place of an order among the names
abbrev pub order_place : PaginationOrder → ℕ
order_place Ascending = 0
order_place Descending = 1

-- the tree of an order
abbrev pub order_tree : PaginationOrder → Tree
order_tree order = trees.Variant (order_place order) trees.Unit
