-- Definitions that all stand once they are added do not clash.
use Rattle.std.proofs.Common.{◌≡◌, List, [], ◌∷◌, ◌++◌, ℕ, Option, Some, None, refl, ◌∙◌, ap, subst}
use Rattle.std.proofs.lemmas.List.Elements.{Contains-append_right}
use Rattle.descriptors.specs.declared.table.AddError.TheVariants.{Clash}
use Rattle.descriptors.specs.declared.table.Definition.{Definition}
use Rattle.descriptors.specs.Definitions.{entry_of}
use Rattle.schema_values.proofs.CallerLemmas.{contains_first}
use Rattle.api_types.specs.Additions.{with_missing, with_all, AreRefused}
use Rattle.api_types.specs.Types.{HoldsAll}
use Rattle.api_types.proofs.CallerLemmas.{entry_stays}

-- what a name stands for stays when more are added
stays_with : (o : Option Definition) (table : List Definition) (e : Definition) (name : List ℕ) (d : Definition) → entry_of table name ≡ Some d → entry_of (with_missing o table e) name ≡ Some d
stays_with None table e name d found = entry_stays table e name d found
stays_with (Some other) table e name d found = found

stays_with_all : (table ds : List Definition) (name : List ℕ) (d : Definition) → entry_of table name ≡ Some d → entry_of (with_all table ds) name ≡ Some d
stays_with_all table [] name d found = found
stays_with_all table (e ∷ ds) name d found = stays_with_all (with_missing (entry_of table e.name) table e) ds name d (stays_with (entry_of table e.name) table e name d found)

with_all-append : (table ds es : List Definition) → with_all table (ds ++ es) ≡ with_all (with_all table ds) es
with_all-append table [] es = refl
with_all-append table (d ∷ ds) es = with_all-append (with_missing (entry_of table d.name) table d) ds es

pub none_clash : (ds : List Definition) → HoldsAll (with_all [] ds) ds → (name : List ℕ) → AreRefused [] ds (Clash name) → ⊥
none_clash ds held name (e, named, first) =
    let (other, found, differs) = first.clashes in
    let rest = e ∷ first.behind in
    let kept : entry_of (with_all [] ds) e.name ≡ Some other =
    ap (λ (all : List Definition). entry_of (with_all [] all) e.name) first.parts
    ∙ ap (λ (table : List Definition). entry_of table e.name) (with_all-append [] first.before rest)
    ∙ stays_with_all (with_all [] first.before) rest e.name other found in
    let own : entry_of (with_all [] ds) e.name ≡ Some e = subst (λ (all : List Definition). HoldsAll (with_all [] ds) all) first.parts held e (Contains-append_right first.before rest e (contains_first e first.behind)) in
    differs (cc (kept, own))
