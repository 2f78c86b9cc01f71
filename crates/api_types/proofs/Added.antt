-- Definitions that are added in two calls.
use Rattle.std.proofs.Common.{◌≡◌, List, [], ◌∷◌, ◌++◌, Option, Some, None, ℕ, refl, sym, ◌∙◌, ap, subst, inl, inr, Result, Ok, Err}
use Rattle.std.proofs.lemmas.List.{append_assoc}
use Rattle.std.proofs.lemmas.List.Elements.{Contains-append_cases}
use Rattle.std.specs.Prelude.{IsErrAnd, OnErr}
use Rattle.descriptors.specs.declared.table.Definition.{Definition}
use Rattle.descriptors.specs.declared.table.AddError.{AddError}
use Rattle.descriptors.specs.declared.table.AddError.TheVariants.{Clash, OutOfMemory}
use Rattle.descriptors.specs.Definitions.{entry_of}
use Rattle.api_types.specs.Additions.{with_missing, with_all, AreRefused}
use Rattle.api_types.specs.Types.{HoldsAll}
use Rattle.api_types.specs.Adds.{AddsAll, AddsFirst}
use Rattle.api_types.proofs.AddedInOrder.{entry_stays}

added_twice : (table a b : List Definition) → with_all table (a ++ b) ≡ with_all (with_all table a) b
added_twice table [] b = refl
added_twice table (e ∷ a) b = added_twice (with_missing (entry_of table e.name) table e) a b

-- what a name stands for stays, whatever is put behind
stays_once : (o : Option Definition) (table : List Definition) (e : Definition) (name : List ℕ) (d : Definition) → entry_of table name ≡ Some d → entry_of (with_missing o table e) name ≡ Some d
stays_once None table e name d f = entry_stays table e name d f
stays_once (Some other) table e name d f = f

stays_behind : (table b : List Definition) (name : List ℕ) (d : Definition) → entry_of table name ≡ Some d → entry_of (with_all table b) name ≡ Some d
stays_behind table [] name d f = f
stays_behind table (e ∷ b) name d f = stays_behind (with_missing (entry_of table e.name) table e) b name d (stays_once (entry_of table e.name) table e name d f)

still_holds : (table a b : List Definition) → HoldsAll table a → HoldsAll (with_all table b) a
still_holds table a b held d c = stays_behind table b d.name d (held d c)

holds_both : (table a b : List Definition) → HoldsAll table a → HoldsAll table b → HoldsAll table (a ++ b)
holds_both table a b one other d c = elim (Contains-append_cases a b d c) [ inl left ↦ one d left | inr right ↦ other d right ]

refused_first : (table a b : List Definition) (error : AddError) → AreRefused table a error → AreRefused table (a ++ b) error
refused_first table a b OutOfMemory refused = tt
refused_first table a b (Clash name) (e, named, first) = (
  e,
  named,
  record {
    before = first.before;
    behind = first.behind ++ b;
    parts = ap (λ (xs : List Definition). xs ++ b) first.parts ∙ append_assoc first.before (e ∷ first.behind) b;
    before_held = first.before_held;
    clashes = first.clashes;
  },
)

refused_then : (table a b : List Definition) (error : AddError) → HoldsAll (with_all table a) a → AreRefused (with_all table a) b error → AreRefused table (a ++ b) error
refused_then table a b OutOfMemory held refused = tt
refused_then table a b (Clash name) held (e, named, first) = (
  e,
  named,
  record {
    before = a ++ first.before;
    behind = first.behind;
    parts = ap (λ (xs : List Definition). a ++ xs) first.parts ∙ sym (append_assoc a first.before (e ∷ first.behind));
    before_held = rw (added_twice table a first.before)
        (holds_both (with_all (with_all table a) first.before) a first.before (still_holds (with_all table a) a first.before held) first.before_held);
    clashes = rw (added_twice table a first.before) first.clashes;
  },
)

-- an error that is refused, whatever it is an answer of
pub told : {T : Type 0} (result : Result T AddError) (error : AddError) (table ds new : List Definition) → IsErrAnd result (λ e. e ≡ error) → AreRefused table ds error → AddsAll result table ds new
told (Ok value) error table ds new is refused = absurd is
told (Err e) error table ds new is refused = record { added = tt; held = tt; refused = subst (AreRefused table ds) (sym is) refused }

-- two calls in turn, the first of which added all
pub adds_both : {T : Type 0} (table a b middle new : List Definition) (value : T) → middle ≡ with_all table a → HoldsAll middle a
    → new ≡ with_all middle b → HoldsAll new b → AddsAll (Ok value) table (a ++ b) new
adds_both table a b middle new value is held then more = record {
  added = then ∙ ap (λ (t : List Definition). with_all t b) is ∙ sym (added_twice table a b);
  held = holds_both new a b (subst (λ (t : List Definition). HoldsAll t a) (sym then) (still_holds middle a b held)) more;
  refused = tt;
}

-- the first call is refused
pub first_refused : {T : Type 0} (result : Result T AddError) (error : AddError) (table a b new : List Definition)
    → IsErrAnd result (λ e. e ≡ error) → AreRefused table a error → AddsAll result table (a ++ b) new
first_refused result error table a b new is refused = told result error table (a ++ b) new is (refused_first table a b error refused)

-- the second call is refused
pub second_refused : {T : Type 0} (result : Result T AddError) (error : AddError) (table a b middle new : List Definition)
    → IsErrAnd result (λ e. e ≡ error) → middle ≡ with_all table a → HoldsAll middle a → AreRefused middle b error → AddsAll result table (a ++ b) new
second_refused result error table a b middle new is added held refused =
    told result error table (a ++ b) new is
    (refused_then table a b error (subst (λ (t : List Definition). HoldsAll t a) added held) (subst (λ (t : List Definition). AreRefused t b error) added refused))

-- at an error of the first call, none is added
pub none_added : {T : Type 0} (result : Result T AddError) (table ds new : List Definition) → new ≡ table → OnErr result (AddsFirst table ds new)
none_added (Ok value) table ds new same = tt
none_added (Err e) table ds new same = record { first = []; others = ds; parts = refl; added = same }

-- at an error of the second call, those of the first one and some more
pub some_added : {T : Type 0} (result : Result T AddError) (table a b middle new : List Definition)
    → middle ≡ with_all table a → AddsFirst middle b new → OnErr result (AddsFirst table (a ++ b) new)
some_added (Ok value) table a b middle new is more = tt
some_added (Err e) table a b middle new is more = record {
  first = a ++ more.first;
  others = more.others;
  parts = ap (λ (xs : List Definition). a ++ xs) more.parts ∙ sym (append_assoc a more.first more.others);
  added = more.added ∙ ap (λ (t : List Definition). with_all t more.first) is ∙ sym (added_twice table a more.first);
}
