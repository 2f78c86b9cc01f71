-- Searches along references: what is met, and what is on the way.
use Rattle.std.proofs.Common.{◌≡◌, ℕ, suc, ◌+◌, ◌<◌, ◌≤◌, ◌↔◌, Bool, true, false, List, [], ◌∷◌, length, Bor, Option, Some, None, bytes_eq, cond, refl, sym, ◌∙◌, ap, subst, arith, ◌⊎◌, inl, inr, get_or, below_more}
use Rattle.std.proofs.lemmas.List.{get_or_default}
use Rattle.std.proofs.lemmas.Slice.Eq.{bytes_eq-Decides}
use Rattle.std.specs.Prelude.{Contains}
use Rattle.std.specs.Option.{option_copied}
use Rattle.descriptors.specs.declared.desc.Desc.{Desc, out-Desc}
use Rattle.descriptors.specs.declared.desc.Desc.TheOpen.{Desc-F}
use Rattle.descriptors.specs.declared.table.Definition.{Definition}
use Rattle.typed_values.specs.declared.search.Met.{Met, out-Met}
use Rattle.typed_values.specs.declared.search.Met.TheFolds.{fold_out-Met, fold-roll-Met}
use Rattle.typed_values.specs.declared.search.Met.TheViews.{roll-Met}
use Rattle.typed_values.specs.declared.search.Path.{Path, out-Path}
use Rattle.typed_values.specs.declared.search.Path.TheFolds.{fold_out-Path, fold-roll-Path}
use Rattle.typed_values.specs.declared.search.Path.TheViews.{roll-Path}
use Rattle.typed_values.specs.declared.search.Sought.{Sought}
use Rattle.typed_values.specs.declared.search.Sought.TheVariants.{Name, Null}
use Rattle.descriptors.specs.Definitions.{definition}
use Rattle.typed_values.specs.Checks.{TakesNull, any_value, null_itself, an_option, a_reference, an_alternative}
use Rattle.typed_values.specs.Guarded.{Names, named_here, named_in_option, named_in_alternative, Reaches, at_once, through}
use Rattle.typed_values.specs.Search.{HoldsNull, any_held, null_held, held_here, held_in_alternative, Meets, Leads, it_meets, it_names, all_met, with_met, on_path, with_path, IsMet, IsDone, IsNext, IsSearch, SomeLeads}
use Rattle.descriptors.proofs.CallerLemmas.{eq_false, entry_found}
use Rattle.schema_values.proofs.CallerLemmas.{contains_first, contains_later, contains_cases}

-- the measure: the definitions of a table that are not met
unfoldable pub has_name : List Definition → List ℕ → Bool
has_name [] name = false
has_name (e ∷ es) name = cond (bytes_eq e.name name) true (has_name es name)

unfoldable pub unmet : List Definition → List Definition → ℕ
unmet [] met = 0
unmet (e ∷ es) met = cond (has_name met e.name) (unmet es met) (suc (unmet es met))

has_name_by : (b c : Bool) (P : Type 0) → (b ≡ true → P) → (c ≡ true → P) → cond b true c ≡ true → P
has_name_by true c P here after h = here refl
has_name_by false c P here after h = after h

has_name_met : (met : List Definition) (name : List ℕ) → has_name met name ≡ true → IsMet met name
unfolding has_name
has_name_met [] name h = absurd (cc h)
has_name_met (e ∷ es) name h =
    has_name_by (bytes_eq e.name name) (has_name es name) (IsMet (e ∷ es) name)
    (λ t. (e, contains_first e es, (bytes_eq-Decides e.name name).0 t))
    (λ t. let (x, c, s) = has_name_met es name t in (x, contains_later e es x c, s))
    h

no_more_by : (b c : Bool) (m n : ℕ) → m ≤ n → cond (cond b true c) m (suc m) ≤ cond c n (suc n)
no_more_by true true m n h = h
no_more_by true false m n h = omega arith
no_more_by false true m n h = h
no_more_by false false m n h = omega arith

no_more : (es met : List Definition) (d : Definition) → unmet es (d ∷ met) ≤ unmet es met
unfolding unmet has_name
no_more [] met d = omega arith
no_more (e ∷ es) met d = no_more_by (bytes_eq d.name e.name) (has_name met e.name) (unmet es (d ∷ met)) (unmet es met) (no_more es met d)

fewer_by : (b c : Bool) (m n : ℕ) → m < n → cond (cond b true c) m (suc m) < cond c n (suc n)
fewer_by true true m n h = h
fewer_by true false m n h = omega arith
fewer_by false true m n h = h
fewer_by false false m n h = omega arith

fewer_here : (b c : Bool) (m n : ℕ) → b ≡ true → c ≡ false → m ≤ n → cond (cond b true c) m (suc m) < cond c n (suc n)
fewer_here b c m n t f h = rw (t, f) (omega arith)

pub fewer : (es met : List Definition) (d : Definition) → Contains es d → (IsMet met d.name → ⊥) → unmet es (d ∷ met) < unmet es met
unfolding unmet has_name
fewer [] met d c never = absurd (omega (arith, c.1))
fewer (e ∷ es) met d c never =
    elim (contains_cases e es d c) [
      | inl q ↦
          fewer_here (bytes_eq d.name e.name) (has_name met e.name) (unmet es (d ∷ met)) (unmet es met)
          ((bytes_eq-Decides d.name e.name).1 (ap (λ (x : Definition). x.name) (sym q)))
          (eq_false (has_name met e.name) (λ t. never (subst (λ (x : Definition). IsMet met x.name) q (has_name_met met e.name t))))
          (no_more es met d)
      | inr k ↦ fewer_by (bytes_eq d.name e.name) (has_name met e.name) (unmet es (d ∷ met)) (unmet es met) (fewer es met d k never)
    ]

-- the frames, as lists
met_by : (m : Met) (o : Option (Bor Met)) → (out-Met m).before ≡ o → all_met (Some m) ≡ (out-Met m).definition.now ∷ all_met (option_copied o)
met_by m None e = fold_out-Met (List Definition) with_met m ∙ rw e refl
met_by m (Some r) e = fold_out-Met (List Definition) with_met m ∙ rw e refl

pub met_split : (m : Met) → all_met (Some m) ≡ (out-Met m).definition.now ∷ all_met (option_copied (out-Met m).before)
met_split m = met_by m (out-Met m).before refl

pub met_longer : (d : Bor Definition) (o : Option (Bor Met)) → all_met (Some (roll-Met (record { definition = d; before = o }))) ≡ d.now ∷ all_met (option_copied o)
met_longer d None = fold-roll-Met (List Definition) with_met (record { definition = d; before = None })
met_longer d (Some r) = fold-roll-Met (List Definition) with_met (record { definition = d; before = Some r })

abbrev pub before_path : Option (Bor Path) → List Desc
before_path None = []
before_path (Some r) = on_path r.now

path_by : (p : Path) (o : Option (Bor Path)) → (out-Path p).before ≡ o → on_path p ≡ (out-Path p).desc.now ∷ before_path o
path_by p None e = fold_out-Path (List Desc) with_path p ∙ rw e refl
path_by p (Some r) e = fold_out-Path (List Desc) with_path p ∙ rw e refl

pub path_split : (p : Path) → on_path p ≡ (out-Path p).desc.now ∷ before_path (out-Path p).before
path_split p = path_by p (out-Path p).before refl

pub path_longer : (d : Bor Desc) (o : Option (Bor Path)) → on_path (roll-Path (record { desc = d; before = o })) ≡ d.now ∷ before_path o
path_longer d None = fold-roll-Path (List Desc) with_path (record { desc = d; before = None })
path_longer d (Some r) = fold-roll-Path (List Desc) with_path (record { desc = d; before = Some r })

pub met_first : (e : Definition) (met : List Definition) → IsMet (e ∷ met) e.name
met_first e met = (e, contains_first e met, refl)

pub met_cases : (e : Definition) (met : List Definition) (name : List ℕ) → (e.name ≡ name → ⊥) → IsMet (e ∷ met) name → IsMet met name
met_cases e met name other h = elim (contains_cases e met h.0 h.1) [ inl q ↦ absurd (other (ap (λ (x : Definition). x.name) q ∙ h.2)) | inr k ↦ (h.0, k, h.2) ]

pub met_later : (e : Definition) (met : List Definition) (name : List ℕ) → IsMet met name → IsMet (e ∷ met) name
met_later e met name h = (h.0, contains_later e met h.0 h.1, h.2)

-- the search
module _ (table : List Definition) (sought : Sought) (met : List Definition) (d : Desc) (rest : List Desc) (s : IsSearch table sought met (d ∷ rest)) where
  -- a definition is met, and its descriptor comes next
  next_found : (e : Definition) → IsNext table met d e → (x : Definition) → Contains (e ∷ met) x → definition table x.name ≡ Some x.desc
  next_found e next x c = elim (contains_cases e met x c) [ inl q ↦ subst (λ (z : Definition). definition table z.name ≡ Some z.desc) q next.found | inr k ↦ s.found x k ]

  next_done : (e : Definition) → IsNext table met d e → (x : Definition) → Contains (e ∷ met) x → Contains (e.desc ∷ d ∷ rest) x.desc ⊎ ((Meets sought x.desc → ⊥) × IsDone table (e ∷ met) x.desc)
  next_done e next x c =
      elim (contains_cases e met x c) [
        | inl q ↦ inl (subst (λ (z : Definition). Contains (e.desc ∷ d ∷ rest) z.desc) q (contains_first e.desc (d ∷ rest)))
        | inr k ↦ elim (s.done x k) [ inl o ↦ inl (contains_later e.desc (d ∷ rest) x.desc o) | inr h ↦ inr (h.0, λ z i n. met_later e met z.name (h.1 z i n)) ]
      ]

  pub deeper : (e : Definition) → IsNext table met d e → IsSearch table sought (e ∷ met) (e.desc ∷ d ∷ rest)
  deeper e next = record { found = next_found e next; done = next_done e next }

  pub deeper_leads : (e : Definition) → IsNext table met d e → SomeLeads table sought (e.desc ∷ d ∷ rest) ↔ SomeLeads table sought (d ∷ rest)
  deeper_leads e next = (
    λ h. elim (contains_cases e.desc (d ∷ rest) h.0 h.1) [
      | inl q ↦ (d, contains_first d rest, it_names e.name e.desc next.named next.found (subst (Leads table sought) (sym q) h.2))
      | inr k ↦ (h.0, k, h.2)
    ],
    λ h. (h.0, contains_later e.desc (d ∷ rest) h.0 h.1, h.2),
  )

  -- a descriptor that is done with leads to nothing that those before it do not
  module _ (never : Meets sought d → ⊥) (full : IsDone table met d) where
    back_done : (x : Definition) → Contains met x → Contains rest x.desc ⊎ ((Meets sought x.desc → ⊥) × IsDone table met x.desc)
    back_done x c =
        elim (s.done x c) [
          | inl o ↦ elim (contains_cases d rest x.desc o) [
            | inl q ↦ inr (subst (λ (z : Desc). (Meets sought z → ⊥) × IsDone table met z) q (never, full))
            | inr k ↦ inl k
          ]
          | inr h ↦ inr h
        ]

    pub back : IsSearch table sought met rest
    back = record { found = s.found; done = back_done }

    leads_on : {x : Desc} → Leads table sought x → (Meets sought x → ⊥) × IsDone table met x → SomeLeads table sought rest
    leads_on (it_meets m) done = absurd (done.0 m)
    leads_on {x} (it_names name y n f r) done =
        let (e, i) = entry_found table name y f in
        let (m, c, t) = done.1 e i.inside (subst (λ (z : List ℕ). Names z x) (sym i.named) n) in
        let w : Some m.desc ≡ Some y = sym (s.found m c) ∙ ap (definition table) (t ∙ i.named) ∙ f in
        let q : m.desc ≡ y = cc w in
        elim (back_done m c) [
          | inl k ↦ (m.desc, k, subst (Leads table sought) (sym q) r)
          | inr h ↦ leads_on r (subst (λ (z : Desc). (Meets sought z → ⊥) × IsDone table met z) q h)
        ]

    pub back_leads : SomeLeads table sought rest ↔ SomeLeads table sought (d ∷ rest)
    back_leads = (
      λ h. (h.0, contains_later d rest h.0 h.1, h.2),
      λ h. elim (contains_cases d rest h.0 h.1) [
        | inl q ↦ leads_on (subst (Leads table sought) (sym q) h.2) (never, full)
        | inr k ↦ (h.0, k, h.2)
      ],
    )

module _ (table : List Definition) (sought : Sought) (d : Desc) where
  pub start_leads : SomeLeads table sought (d ∷ []) ↔ Leads table sought d
  start_leads = (
    λ h. elim (contains_cases d [] h.0 h.1) [ inl q ↦ subst (Leads table sought) (sym q) h.2 | inr k ↦ absurd (omega (arith, k.1)) ],
    λ h. (d, contains_first d [], h),
  )

pub none_leads : (table : List Definition) (sought : Sought) → SomeLeads table sought [] → ⊥
none_leads table sought h = omega (arith, h.1.1)

-- what leads to a name reaches it
module _ (table : List Definition) (name : Bor (List ℕ)) where
  to_reaches : {d : Desc} → Leads table (Name name) d → Reaches table name.now d
  to_reaches (it_meets n) = at_once n
  to_reaches (it_names m y n f r) = through m y n f (to_reaches r)

  from_reaches : {d : Desc} → Reaches table name.now d → Leads table (Name name) d
  from_reaches (at_once n) = it_meets n
  from_reaches (through m y n f r) = it_names m y n f (from_reaches r)

  pub leads_back : (d : Desc) → Leads table (Name name) d ↔ Reaches table name.now d
  leads_back d = (to_reaches, from_reaches)

-- what leads to what takes null at once takes null
module _ (table : List Definition) where
  held_takes : {d : Desc} → HoldsNull d → TakesNull table d
  held_takes (any_held e) = any_value e
  held_takes (null_held e) = null_itself e
  held_takes (held_here x e) = an_option x e
  held_takes (held_in_alternative ds x e c h) = an_alternative ds x e c (held_takes h)

  named_takes : (name : List ℕ) (y : Desc) → definition table name ≡ Some y → TakesNull table y → {d : Desc} → Names name d → TakesNull table d
  named_takes name y f t (named_here e) = a_reference name y e f t
  named_takes name y f t (named_in_option x e n) = an_option x e
  named_takes name y f t (named_in_alternative ds x e c n) = an_alternative ds x e c (named_takes name y f t n)

  to_takes : {d : Desc} → Leads table Null d → TakesNull table d
  to_takes (it_meets h) = held_takes h
  to_takes (it_names name y n f r) = named_takes name y f (to_takes r) n

  through_alternative : {d : Desc} (ds : List Desc) (x : Desc) → out-Desc d ≡ Desc-F.Untagged ds → Contains ds x → Leads table Null x → Leads table Null d
  through_alternative ds x e c (it_meets h) = it_meets (held_in_alternative ds x e c h)
  through_alternative ds x e c (it_names name y n f r) = it_names name y (named_in_alternative ds x e c n) f r

  from_takes : {d : Desc} → TakesNull table d → Leads table Null d
  from_takes (any_value e) = it_meets (any_held e)
  from_takes (null_itself e) = it_meets (null_held e)
  from_takes (an_option x e) = it_meets (held_here x e)
  from_takes (a_reference name y e f t) = it_names name y (named_here e) f (from_takes t)
  from_takes (an_alternative ds x e c t) = through_alternative ds x e c (from_takes t)

  pub leads_null : (d : Desc) → Leads table Null d ↔ TakesNull table d
  leads_null d = (to_takes, from_takes)

-- one more item of a loop
pub one_more : {A : Type 0} (Q : A → Type 0) (xs : List A) (i : ℕ) (x : A) → x ≡ get_or xs i x → i < length xs
    → ((k : ℕ) (y : A) → k < i → get_or xs k y ≡ y → Q y) → Q x → (k : ℕ) (y : A) → k < i + 1 → get_or xs k y ≡ y → Q y
one_more {A} Q xs i x is inside before here = λ k y h.
    below_more (λ j. (z : A) → get_or xs j z ≡ z → Q z) i
    (λ j lt z. before j z lt)
    (λ z g. subst Q (is ∙ get_or_default xs i x z inside ∙ g) here)
    k h y
