-- Adding definitions one by one.
use Rattle.std.proofs.Common.{◌≡◌, Bool, true, false, ℕ, List, [], ◌∷◌, ◌++◌, Option, Some, None, bytes_eq, cond, refl, sym, ◌∙◌, ap, subst, inl, inr, arith, zero, suc, ◌+◌, ◌<◌, length, take, drop, get_or}
use Rattle.std.proofs.lemmas.List.{take_more}
use Rattle.std.proofs.lemmas.List.Elements.{Contains-append_cases}
use Rattle.std.specs.Prelude.{Contains}
use Rattle.descriptors.specs.declared.table.Added.{Added}
use Rattle.descriptors.specs.declared.table.Added.TheVariants.{New, Same}
use Rattle.descriptors.specs.declared.table.Definition.{Definition}
use Rattle.descriptors.specs.declared.table.AddError.{AddError}
use Rattle.descriptors.specs.declared.table.AddError.TheVariants.{Clash, OutOfMemory}
use Rattle.descriptors.specs.Adding.{Adds, IsRefused}
use Rattle.descriptors.specs.Definitions.{entry_of}
use Rattle.schema_values.proofs.CallerLemmas.{contains_cases}
use Rattle.descriptors.proofs.CallerLemmas.{same_name}
use Rattle.api_types.specs.Additions.{with_missing, with_all, AreRefused}
use Rattle.api_types.specs.Types.{HoldsAll}

-- those that are added last
with_all-last : (table ds : List Definition) (e : Definition) → with_all table (ds ++ e ∷ []) ≡ with_missing (entry_of (with_all table ds) e.name) (with_all table ds) e
with_all-last table [] e = refl
with_all-last table (d ∷ ds) e = with_all-last (with_missing (entry_of table d.name) table d) ds e

added_is : (old new : List Definition) (e : Definition) (added : Added) → Adds old new e added → new ≡ with_missing (entry_of old e.name) old e
added_is old new e New (absent, is) = rw absent is
added_is old new e Same (there, is) = rw there is

found_by : (b : Bool) (x d : Definition) (o p : Option Definition) → (o ≡ Some d → p ≡ Some d) → cond b (Some x) o ≡ Some d → cond b (Some x) p ≡ Some d
found_by true x d o p more f = f
found_by false x d o p more f = more f

-- what a name stands for stays, whatever is put behind
pub entry_stays : (es : List Definition) (e : Definition) (name : List ℕ) (d : Definition) → entry_of es name ≡ Some d → entry_of (es ++ e ∷ []) name ≡ Some d
entry_stays [] e name d f = absurd (cc f)
entry_stays (x ∷ es) e name d f = found_by (bytes_eq x.name name) x d (entry_of es name) (entry_of (es ++ e ∷ []) name) (entry_stays es e name d) f

last_by : (b : Bool) (x e : Definition) (o p : Option Definition) → (o ≡ None → p ≡ Some e) → cond b (Some x) o ≡ None → cond b (Some x) p ≡ Some e
last_by true x e o p more f = absurd (cc f)
last_by false x e o p more f = more f

last_found : (es : List Definition) (e : Definition) → entry_of es e.name ≡ None → entry_of (es ++ e ∷ []) e.name ≡ Some e
last_found [] e f = rw (same_name e.name) refl
last_found (x ∷ es) e f = last_by (bytes_eq x.name e.name) x e (entry_of es e.name) (entry_of (es ++ e ∷ []) e.name) (last_found es e) f

stays : (old new : List Definition) (e : Definition) (added : Added) → Adds old new e added → (name : List ℕ) (d : Definition) → entry_of old name ≡ Some d → entry_of new name ≡ Some d
stays old new e New (absent, is) name d f = rw is (entry_stays old e name d f)
stays old new e Same (there, is) name d f = rw is f

holds_it : (old new : List Definition) (e : Definition) (added : Added) → Adds old new e added → entry_of new e.name ≡ Some e
holds_it old new e New (absent, is) = rw is (last_found old e absent)
holds_it old new e Same (there, is) = rw is there

pub only_one : {A : Type 0} (e d : A) → Contains (e ∷ []) d → e ≡ d
only_one e d c = elim (contains_cases e [] d c) [ inl same ↦ same | inr later ↦ absurd (omega (arith, later.1)) ]

-- a table that had some definitions has these and one more once it is added
holds_more : (old new ds : List Definition) (e : Definition) (added : Added) → Adds old new e added → HoldsAll old ds → HoldsAll new (ds ++ e ∷ [])
holds_more old new ds e added adds held d c =
    elim (Contains-append_cases ds (e ∷ []) d c) [
      | inl before ↦ stays old new e added adds d.name d (held d before)
      | inr last ↦ subst (λ (x : Definition). entry_of new x.name ≡ Some x) (only_one e d last) (holds_it old new e added adds)
    ]

split : (ds : List Definition) (i : ℕ) (e : Definition) → i < length ds → e ≡ get_or ds i e → ds ≡ take i ds ++ e ∷ drop (suc i) ds
split [] i e less is = absurd (omega (arith, less))
split (d ∷ ds) zero e less is = ap (λ (x : Definition). x ∷ ds) (sym is)
split (d ∷ ds) (suc i) e less is = ap (λ (xs : List Definition). d ∷ xs) (split ds i e (omega (arith, less)) is)

-- the first that is refused is the one at the place that a loop has come to
pub refused_at : (table ds : List Definition) (i : ℕ) (e : Definition) (error : AddError) → i < length ds → e ≡ get_or ds i e → HoldsAll (with_all table (take i ds)) (take i ds) → IsRefused (with_all table (take i ds)) e error → AreRefused table ds error
refused_at table ds i e (Clash name) less is held (named, clash) = (
  e,
  named,
  record {
    before = take i ds;
    behind = drop (suc i) ds;
    parts = split ds i e less is;
    before_held = held;
    clashes = clash;
  },
)
refused_at table ds i e OutOfMemory less is held refused = tt

module _ (table ds : List Definition) (i : ℕ) (e : Definition) (less : i < length ds) (is : e ≡ get_or ds i e) (old new : List Definition) (added : Added) (adds : Adds old new e added) where
  one_more : take (i + 1) ds ≡ take i ds ++ e ∷ []
  one_more = take_more ds i e less ∙ ap (λ (x : Definition). take i ds ++ x ∷ []) (sym is)

  pub added_next : old ≡ with_all table (take i ds) → new ≡ with_all table (take (i + 1) ds)
  added_next same =
      added_is old new e added adds
      ∙ ap (λ (es : List Definition). with_missing (entry_of es e.name) es e) same
      ∙ sym (with_all-last table (take i ds) e)
      ∙ ap (with_all table) (sym one_more)

  pub held_next : HoldsAll old (take i ds) → HoldsAll new (take (i + 1) ds)
  held_next held = subst (HoldsAll new) (sym one_more) (holds_more old new (take i ds) e added adds held)
