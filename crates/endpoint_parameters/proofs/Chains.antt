-- Along references that end no definition is met twice, so that they are at most as many as the definitions.
use Rattle.std.proofs.Common.{◌≡◌, ◌⊎◌, inl, inr, ℕ, zero, suc, ◌<◌, ◌≤◌, false, List, [], ◌∷◌, length, Some, None, refl, sym, ◌∙◌, ap, arith}
use Rattle.std.specs.Prelude.{bytes_eq, filter, not}
use Rattle.std.proofs.lemmas.Bool.{cases_Bool}
use Rattle.std.proofs.lemmas.Slice.Eq.{bytes_eq-Decides}
use Rattle.descriptors.specs.declared.desc.Desc.{Desc}
use Rattle.descriptors.specs.declared.table.Definition.{Definition}
use Rattle.descriptors.specs.Definitions.{definition}
use Rattle.endpoint_parameters.specs.Steps.{Leads, here, passed, referred}

-- a table without the definitions of a name
abbrev without : List ℕ → List Definition → List Definition
without name = filter (λ e. not (bytes_eq e.name name))

-- it is no longer
length-without_le : (name : List ℕ) (table : List Definition) → length (without name table) ≤ length table
length-without_le name [] = omega arith
length-without_le name (e ∷ es) = elim (cases_Bool (bytes_eq e.name name)) [
  | inl one ↦ rw one (omega (arith, length-without_le name es))
  | inr other ↦ rw other (omega (arith, length-without_le name es))
]

-- and shorter where the name was defined
length-without : (name : List ℕ) (x : Desc) (table : List Definition) → definition table name ≡ Some x
    → length (without name table) < length table
length-without name x [] found = cc found
length-without name x (e ∷ es) found = elim (cases_Bool (bytes_eq e.name name)) [
  | inl one ↦ rw one (omega (arith, length-without_le name es))
  | inr other ↦ let rest : definition es name ≡ Some x = rw other at found in rw other (omega (arith, length-without name x es rest))
]

-- its other definitions are as they were
definition-without : (name q : List ℕ) (table : List Definition) → bytes_eq name q ≡ false
    → definition (without name table) q ≡ definition table q
definition-without name q [] apart = refl
definition-without name q (e ∷ es) apart = elim (cases_Bool (bytes_eq e.name name)) [
  | inl one ↦
      let same : e.name ≡ name = (bytes_eq-Decides e.name name).0 one in
      let not_here : bytes_eq e.name q ≡ false = ap (λ n. bytes_eq n q) same ∙ apart in
      rw (one, not_here) (definition-without name q es apart)
  | inr other ↦ rw (other, definition-without name q es apart) refl
]

-- the name itself is not defined there
definition-gone : (name : List ℕ) (table : List Definition) → definition (without name table) name ≡ None
definition-gone name [] = refl
definition-gone name (e ∷ es) = elim (cases_Bool (bytes_eq e.name name)) [
  | inl one ↦ rw one (definition-gone name es)
  | inr other ↦ rw (other, other) (definition-gone name es)
]

-- what is defined there was defined
definition-back : (name q : List ℕ) (table : List Definition) (y : Desc) → definition (without name table) q ≡ Some y
    → definition table q ≡ Some y
definition-back name q table y found = elim (cases_Bool (bytes_eq name q)) [
  | inl one ↦
      let same : name ≡ q = (bytes_eq-Decides name q).0 one in
      let none : definition (without name table) q ≡ None = ap (λ n. definition (without name table) n) (sym same) ∙ definition-gone name table in
      let clash : Some y ≡ None = sym found ∙ none in cc clash
  | inr other ↦ sym (definition-without name q table other) ∙ found
]

module _ (Ends : Desc → Type 0) (Passes : Desc → Desc → Type 0) where
  -- more steps lead as far
  pub more : (table : List Definition) (n m : ℕ) (d : Desc) → n ≤ m → Leads Ends Passes table n d
      → Leads Ends Passes table m d
  more table n m d few (here e) = here e
  more table n m d few (passed x p l) = passed x p (more table n m x few l)
  more table (suc n) zero d few (referred name y is found l) = absurd (omega (arith, few))
  more table (suc n) (suc m) d few (referred name y is found l) = referred name y is found (more table n m y (omega (arith, few)) l)

  -- a table with further definitions leads as far
  extended : (name : List ℕ) (table : List Definition) (n : ℕ) (d : Desc) → Leads Ends Passes (without name table) n d
      → Leads Ends Passes table n d
  extended name table n d (here e) = here e
  extended name table n d (passed x p l) = passed x p (extended name table n x l)
  extended name table (suc n) d (referred q y is found l) = referred q y is (definition-back name q table y found) (extended name table n y l)

  -- a name is met again behind fewer steps
  record Again (name : List ℕ) (table : List Definition) (n : ℕ) : Type 0 where
    steps : ℕ
    there : Desc
    fewer : steps < n
    found : definition table name ≡ Some there
    leads : Leads Ends Passes table steps there

  -- without a name as far, unless the name is met
  avoids : (name : List ℕ) (table : List Definition) (n : ℕ) (d : Desc) → Leads Ends Passes table n d
      → Leads Ends Passes (without name table) n d ⊎ Again name table n
  avoids name table n d (here e) = inl (here e)
  avoids name table n d (passed x p l) = elim (avoids name table n x l) [ inl rest ↦ inl (passed x p rest) | inr again ↦ inr again ]
  avoids name table (suc n) d (referred q y is found l) = elim (cases_Bool (bytes_eq name q)) [
    | inl one ↦
        let same : name ≡ q = (bytes_eq-Decides name q).0 one in
        inr record { steps = n; there = y; fewer = omega arith; found = ap (definition table) same ∙ found; leads = l }
    | inr other ↦ elim (avoids name table n y l) [
      | inl rest ↦ inl (referred q y is (definition-without name q table other ∙ found) rest)
      | inr again ↦ inr record { steps = again.steps; there = again.there; fewer = omega (arith, again.fewer); found = again.found; leads = again.leads }
    ]
  ]

  -- as many steps as definitions lead as far as any, by the definitions and the steps that are left
  enough_by : (k b : ℕ) (table : List Definition) (n : ℕ) (d : Desc) → length table ≤ k → n ≤ b
      → Leads Ends Passes table n d → Leads Ends Passes table (length table) d
  enough_by k b table n d small few (here e) = here e
  enough_by k b table n d small few (passed x p l) = passed x p (enough_by k b table n x small few l)
  enough_by zero b table (suc n) d small few (referred q y is found l) = absurd (omega (arith, small, length-without q y table found))
  enough_by (suc k) zero table (suc n) d small few (referred q y is found l) = absurd (omega (arith, few))
  enough_by (suc k) (suc b) table (suc n) d small few (referred q y is found l) = elim (avoids q table n y l) [
    | inl rest ↦
        let shorter = length-without q y table found in
        let reached = enough_by k n (without q table) n y (omega (arith, small, shorter)) (omega arith) rest in
        more table (suc (length (without q table))) (length table) d (omega (arith, shorter))
        (referred q y is found (extended q table (length (without q table)) y reached))
    | inr again ↦
        enough_by (suc k) b table (suc again.steps) d small (omega (arith, few, again.fewer)) (referred q again.there is again.found again.leads)
  ]

  -- as many steps as there are definitions lead as far as any
  pub enough : (table : List Definition) (n : ℕ) (d : Desc) → Leads Ends Passes table n d
      → Leads Ends Passes table (length table) d
  enough table n d l = enough_by (length table) n table n d (omega arith) (omega arith) l
