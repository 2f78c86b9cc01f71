-- How a `List<T>` holds its items. A check reads this where a type refers to itself through a `List`.
-- Contracts see a `List<T>` as the list of its items. So its shape is how many there are, each with its own
-- shape, and what it contains is what the items contain, in their order.
use Rattle.std.specs.Prelude.{◌≡◌, List, [], map}
use Rattle.std.specs.contracts.alloc.Global as global
use Rattle.std.specs.contracts.impls.GlobalAllocator.TheImpl as global_allocator
use Rattle.std.specs.declared.alloc.Global.{Global}
use Rattle.std.specs.formers.vec.Vec as vec
use Rattle.schema_values.specs.contracts.list.List as contract
use Rattle.schema_values.specs.contracts.list.List.TheInside as inside
use Rattle.schema_values.specs.declared.list.List as declared
use Rattle.schema_values.specs.declared.list.List.TheInside.{Inside}
use Rattle.schema_values.specs.declared.list.List.TheView as seen
use base.Stored.{code_map}
use denote.Hole.Carrier.{list-listed, listed}
use denote.Hole.Fix.{over}
use denote.HoleLaws.{Alike}
use denote.HolePlaces.{Recodes, laid, struct_places}
use denote.Model.Placed.{view_places}
use denote.Param.Weighed.{Weighed, w_list}
use denote.RattleType.{RattleType}
use mathlib.Core.Former.{Former, children, list, this, via}
use mathlib.Core.Path.{refl, sym}

-- A list whose items are g's values.
abbrev pub the_former : Former {0} → Former {0}
the_former g = list g

-- The largest measure in a list is the largest in any of its items.
abbrev pub the_weighed : {g : Former {0}} → Weighed g → Weighed (the_former g)
the_weighed w = w_list w

-- The struct's only field, a `Vec`, which splits as any `Vec` of the items does.
abbrev fields : Former {0}
fields = via (vec.the_former this Global) Inside (λ X r. r.items) (λ X v. record { items = v })
    (λ X r. refl) (λ X v. refl)

-- Two types of item, and a function h from the values of the first to those of the second.
module _ (R R' : RattleType) (h : R.Denot → R'.Denot) where
  -- Where h keeps an item's layout and what it owns and lends ...
  module _ (a : Alike R R' h) where
    -- ... the struct with its `Vec` keeps them too,
    inside_places : Alike (inside.the_row R) (inside.the_row R') (fields.map R.Denot R'.Denot h)
    inside_places = struct_places (inside.the_type R) (inside.the_type R')
        ((vec.the_former this Global).map R.Denot R'.Denot h, tt) (fields.map R.Denot R'.Denot h)
        (λ r. refl) refl
        (laid _ _ _ (vec.the_places global.the_row global_allocator.ghosts R R' h a), tt)

    -- ... and so does the list that is seen in it: h is applied to each item.
    pub the_places : Alike (contract.the_row R) (contract.the_row R') (map h)
    the_places = view_places fields (the_former this) seen.view (λ X Y k r. refl) (λ X r. refl)
        R.Denot R'.Denot h
        (declared.the_code R.Denot R.coded) (declared.the_code R'.Denot R'.coded)
        (seen.invariant R.Denot) (seen.invariant R'.Denot)
        (λ r x y. refl) (λ r x y. refl) (λ r x. x) (λ r x. x)
        (over (inside.the_row R)) (over (inside.the_row R')) inside_places

  -- Where h keeps an item's code, the list keeps its own.
  pub the_codes_placed : Recodes R R' h → Recodes (contract.the_row R) (contract.the_row R') (map h)
  the_codes_placed c xs = sym (code_map R.coded.code R'.coded.code h (λ x. sym (c x)) xs)

-- The empty list, which needs no item. So a type that refers to itself through a `List` has a first value.
pub the_empty : List ⊥
the_empty = []

-- The items of a list: the list itself.
abbrev pub the_items : (X : Type 0) → List X → List X
the_items X xs = xs

-- What the former finds in a list are its items, in their order.
pub the_items_listed : (X : Type 0) (xs : List X)
    → listed _ (children (the_former this) X xs) ≡ the_items X xs
the_items_listed = list-listed
