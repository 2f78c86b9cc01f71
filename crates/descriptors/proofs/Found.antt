-- What a name is defined as.
use Rattle.std.proofs.Common.{◌≡◌, ℕ, Bool, true, false, List, [], ◌∷◌, ◌++◌, map, Option, Some, None, option_map, bytes_eq, cond, refl, arith, ◌⊎◌, inl, inr}
use Rattle.std.proofs.lemmas.Slice.Eq.{bytes_eq-Decides}
use Rattle.std.specs.Prelude.{◌≢◌, Contains}
use Rattle.std.specs.List.{AllByRecursion}
use Rattle.schema_values.specs.Sound.{AreDistinct}
use Rattle.schema_values.proofs.CallerLemmas.{contains_first, contains_later, contains_cases}
use Rattle.descriptors.specs.declared.desc.Desc.{Desc}
use Rattle.descriptors.specs.declared.table.Definition.{Definition}
use Rattle.descriptors.specs.Definitions.{definition, entry_of, definition_name}

pub eq_false : (c : Bool) → (c ≡ true → ⊥) → c ≡ false
eq_false true h = absurd (h refl)
eq_false false h = refl

pub other_name : (n m : List ℕ) → (n ≡ m → ⊥) → bytes_eq n m ≡ false
other_name n m ne = eq_false (bytes_eq n m) (λ t. ne ((bytes_eq-Decides n m).0 t))

pub same_name : (n : List ℕ) → bytes_eq n n ≡ true
same_name n = (bytes_eq-Decides n n).1 refl

pub same_or_not : (n m : List ℕ) → (n ≡ m) ⊎ (n ≡ m → ⊥)
same_or_not n m = go (bytes_eq n m) refl
  where
    go : (b : Bool) → bytes_eq n m ≡ b → (n ≡ m) ⊎ (n ≡ m → ⊥)
    go true e = inl ((bytes_eq-Decides n m).0 e)
    go false e = inr (λ h. let t : bytes_eq n m ≡ true = (bytes_eq-Decides n m).1 h in cc)

entry_by : (P : Definition → Type 0) (b : Bool) (e : Definition) (o : Option Desc) (name : List ℕ) (y : Desc) → bytes_eq e.name name ≡ b
    → (e.name ≡ name → e.desc ≡ y → P e) → (o ≡ Some y → (x : Definition) × P x) → cond b (Some e.desc) o ≡ Some y → (x : Definition) × P x
entry_by P true e o name y t found later f = let q : e.desc ≡ y = cc f in (e, found ((bytes_eq-Decides e.name name).0 t) q)
entry_by P false e o name y t found later f = later f

-- the definition that a name's descriptor is found in
pub record IsEntry (es : List Definition) (name : List ℕ) (y : Desc) (e : Definition) : Type 0 where
  pub inside : Contains es e
  pub named : e.name ≡ name
  pub is : e.desc ≡ y

pub entry_found : (es : List Definition) (name : List ℕ) (y : Desc) → definition es name ≡ Some y → (e : Definition) × IsEntry es name y e
entry_found [] name y f = absurd (cc f)
entry_found (e ∷ es) name y f =
    entry_by (IsEntry (e ∷ es) name y) (bytes_eq e.name name) e (definition es name) name y refl
    (λ s q. record { inside = contains_first e es; named = s; is = q })
    (λ g. let (x, i) = entry_found es name y g in (x, record { inside = contains_later e es x i.inside; named = i.named; is = i.is }))
    f

pub all_names : (n : List ℕ) (es : List Definition) (e : Definition) → AllByRecursion (λ other. n ≢ other) (map definition_name es) → Contains es e → n ≢ e.name
all_names n [] e all c = absurd (omega (arith, c.1))
all_names n (x ∷ es) e all c = elim (contains_cases x es e c) [ inl q ↦ λ h. all.0 (cc) | inr k ↦ all_names n es e all.1 k ]

-- where names are distinct, each definition is found
pub definition_found : (es : List Definition) (e : Definition) → AreDistinct (map definition_name es) → Contains es e → definition es e.name ≡ Some e.desc
definition_found [] e once c = absurd (omega (arith, c.1))
definition_found (x ∷ es) e once c =
    elim (contains_cases x es e c) [
      | inl q ↦ rw (q, same_name e.name) refl
      | inr k ↦ rw (other_name x.name e.name (all_names x.name es e once.0 k)) (definition_found es e once.1 k)
    ]

desc_by : (b : Bool) (e : Definition) (o : Option Desc) (p : Option Definition) → o ≡ option_map (λ e. e.desc) p → cond b (Some e.desc) o ≡ option_map (λ e. e.desc) (cond b (Some e) p)
desc_by true e o p q = refl
desc_by false e o p q = q

pub definition_is : (es : List Definition) (name : List ℕ) → definition es name ≡ option_map (λ e. e.desc) (entry_of es name)
definition_is [] name = refl
definition_is (e ∷ es) name = desc_by (bytes_eq e.name name) e (definition es name) (entry_of es name) (definition_is es name)

name_by : (b : Bool) (e : Definition) (o : Option Definition) (name : List ℕ) (x : Definition) → bytes_eq e.name name ≡ b → (o ≡ Some x → x.name ≡ name) → cond b (Some e) o ≡ Some x → x.name ≡ name
name_by true e o name x t later f = let q : e ≡ x = cc f in rw (← q) ((bytes_eq-Decides e.name name).0 t)
name_by false e o name x t later f = later f

-- what is found has the name
pub entry_name : (es : List Definition) (name : List ℕ) (x : Definition) → entry_of es name ≡ Some x → x.name ≡ name
entry_name [] name x f = absurd (cc f)
entry_name (e ∷ es) name x f = name_by (bytes_eq e.name name) e (entry_of es name) name x refl (entry_name es name x) f

absent_by : (b : Bool) (e : Definition) (o : Option Definition) → cond b (Some e) o ≡ None → (b ≡ false) × (o ≡ None)
absent_by true e o f = absurd (cc f)
absent_by false e o f = (refl, f)

others_more : (n : List ℕ) (es : List Definition) (e : Definition) → (n ≡ e.name → ⊥) → AllByRecursion (λ other. n ≢ other) (map definition_name es) → AllByRecursion (λ other. n ≢ other) (map definition_name (es ++ e ∷ []))
others_more n [] e ne all = (ne, tt)
others_more n (x ∷ es) e ne all = (all.0, others_more n es e ne all.1)

-- names stay distinct where one comes that is absent
pub distinct_more : (es : List Definition) (e : Definition) → AreDistinct (map definition_name es) → entry_of es e.name ≡ None → AreDistinct (map definition_name (es ++ e ∷ []))
distinct_more [] e once f = (tt, tt)
distinct_more (x ∷ es) e once f =
    let (other, absent) = absent_by (bytes_eq x.name e.name) x (entry_of es e.name) f in (
      others_more x.name es e (λ s. let t : bytes_eq x.name e.name ≡ true = (bytes_eq-Decides x.name e.name).1 s in cc) once.0,
      distinct_more es e once.1 absent,
    )
