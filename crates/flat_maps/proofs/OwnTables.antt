-- Definitions that a table of their own holds do not clash.
use Rattle.std.proofs.Common.{◌≡◌, Bool, true, false, cond, bytes_eq, List, [], ◌∷◌, ◌++◌, Option, Some, None, ℕ, refl, sym, ◌∙◌, ap, subst}
use Rattle.std.proofs.lemmas.List.Elements.{Contains-append_right}
use Rattle.std.specs.Prelude.{Contains}
use Rattle.schema_values.proofs.CallerLemmas.{contains_first}
use Rattle.descriptors.specs.declared.table.AddError.TheVariants.{Clash}
use Rattle.descriptors.specs.declared.table.Definition.{Definition}
use Rattle.descriptors.specs.Definitions.{entry_of}
use Rattle.api_types.specs.Additions.{with_missing, with_all, AreRefused}
use Rattle.api_types.specs.Types.{HoldsAll}

stays_once : (table : List Definition) (e : Definition) (name : List ℕ) (d : Definition) → entry_of table name ≡ Some d → entry_of (table ++ e ∷ []) name ≡ Some d
stays_once [] e name d f = absurd (cc f)
stays_once (x ∷ table) e name d f = by_name (stays_once table e name d) (bytes_eq x.name name) f
  where
    by_name : (entry_of table name ≡ Some d → entry_of (table ++ e ∷ []) name ≡ Some d) → (b : Bool) → cond b (Some x) (entry_of table name) ≡ Some d → cond b (Some x) (entry_of (table ++ e ∷ []) name) ≡ Some d
    by_name more true f = f
    by_name more false f = more f

stays_with : (o : Option Definition) (table : List Definition) (e : Definition) (name : List ℕ) (d : Definition) → entry_of table name ≡ Some d → entry_of (with_missing o table e) name ≡ Some d
stays_with None table e name d f = stays_once table e name d f
stays_with (Some other) table e name d f = f

-- what a name stands for stays, whatever is added
stays : (table ds : List Definition) (name : List ℕ) (d : Definition) → entry_of table name ≡ Some d → entry_of (with_all table ds) name ≡ Some d
stays table [] name d f = f
stays table (e ∷ ds) name d f = stays (with_missing (entry_of table e.name) table e) ds name d (stays_with (entry_of table e.name) table e name d f)

added_in_turn : (table a b : List Definition) → with_all table (a ++ b) ≡ with_all (with_all table a) b
added_in_turn table [] b = refl
added_in_turn table (e ∷ a) b = added_in_turn (with_missing (entry_of table e.name) table e) a b

-- a clash leaves the other definition where it stands
pub never_clashes : (ds : List Definition) (name : List ℕ) → HoldsAll (with_all [] ds) ds → AreRefused [] ds (Clash name) → ⊥
never_clashes ds name held (e, named, first) =
    let (other, there, ne) = first.clashes in
    let inside : Contains ds e = subst (λ (xs : List Definition). Contains xs e) (sym first.parts) (Contains-append_right first.before (e ∷ first.behind) e (contains_first e first.behind)) in
    let stands : entry_of (with_all [] ds) e.name ≡ Some other =
    ap (λ (xs : List Definition). entry_of (with_all [] xs) e.name) first.parts
    ∙ ap (λ (table : List Definition). entry_of table e.name) (added_in_turn [] first.before (e ∷ first.behind))
    ∙ stays (with_all [] first.before) (e ∷ first.behind) e.name other there in
    let same : Some e ≡ Some other = sym (held e inside) ∙ stands in
    ne (cc same)
