-- How a `Boxed<T>` holds its value. A check reads this where a type refers to itself through a `Boxed`.
-- Contracts see a `Boxed<T>` as the `T` in it. So it has that value's shape, and contains what that contains.
use Rattle.std.specs.Prelude.{◌≡◌, List, [], ◌∷◌}
use Rattle.std.specs.Ptr.{Ptr}
use Rattle.std.specs.contracts.alloc.Global as global
use Rattle.std.specs.contracts.boxed.Box as box
use Rattle.std.specs.contracts.impls.GlobalAllocator.TheImpl as global_allocator
use Rattle.std.specs.declared.alloc.Global.{Global}
use Rattle.std.specs.declared.boxed.Box.{Box}
use Rattle.std.specs.declared.cmp.PartialEq as eq
use Rattle.schema_values.specs.contracts.boxed.Boxed as contract
use Rattle.schema_values.specs.contracts.boxed.Boxed.TheInside as inside
use Rattle.schema_values.specs.declared.boxed.Boxed as declared
use Rattle.schema_values.specs.declared.boxed.Boxed.TheInside.{Inside}
use Rattle.schema_values.specs.declared.boxed.Boxed.TheView as seen
use base.Stored.{gnil}
use denote.Hole.Carrier.{listed}
use denote.Hole.Fix.{over}
use denote.HoleLaws.{Alike}
use denote.HolePlaces.{Recodes, laid, one_value, struct_places}
use denote.Memory.{part_of}
use denote.Model.Placed.{view_places}
use denote.Param.Weighed.{Weighed}
use denote.RattleType.{RattleType}
use mathlib.Core.Former.{Former, children, const, none_left, one_more, pair, this, via}
use mathlib.Core.Path.{refl}

-- The value in the box, which is g's.
abbrev pub the_former : Former {0} → Former {0}
the_former g = g

-- The largest measure in a box is the largest in its value.
abbrev pub the_weighed : {g : Former {0}} → Weighed g → Weighed (the_former g)
the_weighed w = w

-- The struct's only field, a `Box`: where it lies and its allocator are its shape, and it contains one value.
abbrev fields : Former {0}
fields = via (pair (const (Ptr × Global)) this) Inside
    (λ X r. ((r.inner.ptr, r.inner.alloc), r.inner.value))
    (λ X p. record { inner = record { ptr = p.0.0; alloc = p.0.1; value = p.1 } })
    (λ X r. refl) (λ X p. refl)

-- A `Box` in which x stands in the place of its value.
abbrev holding : {X Y : Type 0} → Y → Box X Global → Box Y Global
holding x b = record { ptr = b.ptr; alloc = b.alloc; value = x }

-- The type of the `Box` of an R.
abbrev box_of : RattleType → RattleType
box_of R = box.the_row R global.the_row global_allocator.ghosts

-- Two types of value, and a function h from the values of the first to those of the second.
module _ (R R' : RattleType) (h : R.Denot → R'.Denot) where
  -- Where h keeps a value's layout and what it owns and lends ...
  module _ (a : Alike R R' h) where
    -- ... the `Box` of the value keeps them too, since it goes by nothing else of the value. What R says of x
    -- and what R' says of h x are equal. So `between x` goes from the one to the other, by types of one value
    -- that are laid out, owned and lent as x is, and their boxes go from the `Box` of x to that of h x,
    box_places : Alike (box_of R) (box_of R') (λ b. holding (h b.value) b)
    unfolding part_of
    box_places =
        let between : R.Denot → 𝕀 → RattleType
        = λ x i. one_value R (a.mir_same i) (a.own_same x i) (a.shr_same x i) gnil in
        record {
          mir_same = refl;
          own_same = λ b i. (box_of (between b.value i)).own_val (holding tt b);
          shr_same = λ b i. (box_of (between b.value i)).shr_at (holding tt b);
        }

    -- ... and the struct with its `Box`,
    inside_places : Alike (inside.the_row R) (inside.the_row R') (fields.map R.Denot R'.Denot h)
    inside_places = struct_places (inside.the_type R) (inside.the_type R')
        ((λ b. holding (h b.value) b), tt) (fields.map R.Denot R'.Denot h)
        (λ r. refl) refl (laid _ _ _ box_places, tt)

    -- ... and so does the value that is seen in it.
    pub the_places : Alike (contract.the_row R) (contract.the_row R') h
    the_places = view_places fields this seen.view (λ X Y k r. refl) (λ X r. refl)
        R.Denot R'.Denot h
        (declared.the_code R.Denot R.coded) (declared.the_code R'.Denot R'.coded)
        (seen.invariant R.Denot) (seen.invariant R'.Denot)
        (λ r x y. refl) (λ r x y. refl) (λ r x. x) (λ r x. x)
        (over (inside.the_row R)) (over (inside.the_row R')) inside_places

  -- Where h keeps a value's code, the box keeps its own, which is the same.
  pub the_codes_placed : Recodes R R' h → Recodes (contract.the_row R) (contract.the_row R') h
  the_codes_placed c = c

-- The values in a box: the one.
abbrev pub the_items : (X : Type 0) → X → List X
the_items X x = x ∷ []

-- What the former finds in a box is its value.
pub the_items_listed : (X : Type 0) (x : X)
    → listed (one_more none_left) (children (the_former this) X x) ≡ the_items X x
the_items_listed X x = refl

-- Two boxes are equal where their values are, which h does not change.
pub the_eq_natural : (X Y : Type 0) (h : X → Y) (V : eq.Ghosts Y) (x y : X) → V.eq (h x) (h y) ≡ V.eq (h x) (h y)
the_eq_natural X Y h V x y = refl
