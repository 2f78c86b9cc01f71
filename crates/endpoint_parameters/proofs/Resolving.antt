-- What references lead to in any table, by as many steps as there are definitions.
use Rattle.std.proofs.Common.{◌≡◌, ◌↔◌, ℕ, zero, suc, ◌+◌, ◌≤◌, List, [], ◌∷◌, length, Option, Some, None, option_and_then, option_map, refl, sym, ◌∙◌, ap, subst, arith}
use Rattle.std.specs.Prelude.{IsTrue}
use Rattle.descriptors.specs.declared.desc.Desc.{Desc, out-Desc}
use Rattle.descriptors.specs.declared.desc.Desc.TheOpen.{Desc-F}
use Rattle.descriptors.specs.declared.desc.Desc.TheVariants as desc
use Rattle.descriptors.specs.declared.desc.Desc.TheViews.{roll-Desc, roll-out-Desc}
use Rattle.descriptors.specs.declared.table.Definition.{Definition}
use Rattle.descriptors.specs.Definitions.{definition, entry_of}
use Rattle.descriptors.proofs.CallerLemmas.{definition_is}
use Rattle.typed_values.specs.Denotes.{room, nodes, nodes_of_table, nodes_step}
use Rattle.typed_values.specs.Levels.{DescLevel}
use Rattle.typed_values.proofs.CallerLemmas.{nodes_at}
use Rattle.flat_maps.specs.Flat.{resolved, resolved_at, resolved_by}
use Rattle.handler_shapes.specs.ScalarTypes.{IsScalarType, a_truth, a_character, a_number, a_text, a_name, an_option, a_reference}
use Rattle.endpoint_parameters.specs.Steps.{HasScalarForm, IsBehindOptions, IsOptionOf, IsScalarWithin, Leads, behind, here, is_scalar_level, itself, passed, referred}
use Rattle.endpoint_parameters.proofs.Chains.{enough, more}

-- what is no reference has no such level
pub no_reference : (d : Desc) → ((name : List ℕ) → d ≡ desc.Ref name → ⊥) → (name : List ℕ)
    → ¬ (out-Desc d ≡ Desc-F.Ref name)
no_reference d none name is = none name (sym (roll-out-Desc d) ∙ ap roll-Desc is ∙ desc.rolls-Ref name)

-- references end at a descriptor
record EndsAt (y d : Desc) : Type 0 where
  no_name : (name : List ℕ) → ¬ (out-Desc d ≡ Desc-F.Ref name)
  same : d ≡ y

-- references alone lead on
abbrev NoPass : Desc → Desc → Type 0
NoPass d x = ⊥

-- one step
next_step : (table : List Definition) (n : ℕ) (d : Desc)
    → resolved_at table (suc n) d ≡ resolved_by table (resolved_at table n) d (out-Desc d)
unfolding resolved_at
next_step table n d = refl

pub no_step : (table : List Definition) (d : Desc) → resolved_at table zero d ≡ None
unfolding resolved_at
no_step table d = refl

-- what is no reference is there
at_end : (table : List Definition) (n : ℕ) (d : Desc) (x : DescLevel) → ((name : List ℕ) → ¬ (x ≡ Desc-F.Ref name))
    → resolved_by table (resolved_at table n) d x ≡ Some d
at_end table n d (Desc-F.Ref name) none = absurd (none name refl)
at_end table n d _ none = refl

pub ends_there : (table : List Definition) (n : ℕ) (d : Desc) → ((name : List ℕ) → ¬ (out-Desc d ≡ Desc-F.Ref name))
    → resolved_at table (suc n) d ≡ Some d
ends_there table n d none = next_step table n d ∙ at_end table n d (out-Desc d) none

-- a reference leads on
pub leads_on : (table : List Definition) (n : ℕ) (d : Desc) (name : List ℕ) (o : Option Desc)
    → out-Desc d ≡ Desc-F.Ref name → definition table name ≡ o
    → resolved_at table (suc n) d ≡ option_and_then (resolved_at table n) o
leads_on table n d name o is found = next_step table n d ∙ ap (resolved_by table (resolved_at table n) d) is ∙ ap (option_and_then (resolved_at table n)) found

module _ (table : List Definition) (y : Desc) where
  -- what is resolved is led to, by the level of a descriptor
  led_by : (n : ℕ) (d : Desc) (x : DescLevel) → out-Desc d ≡ x
      → ((name : List ℕ) (z : Desc) → out-Desc d ≡ Desc-F.Ref name → definition table name ≡ Some z → resolved_at table n z ≡ Some y → Leads (EndsAt y) NoPass table n d)
      → resolved_by table (resolved_at table n) d x ≡ Some y → Leads (EndsAt y) NoPass table n d
  led_by n d (Desc-F.Ref name) is further found = by_definition (definition table name) refl found
    where
      by_definition : (o : Option Desc) → definition table name ≡ o → option_and_then (resolved_at table n) o ≡ Some y
          → Leads (EndsAt y) NoPass table n d
      by_definition None none found = cc found
      by_definition (Some z) some found = further name z is some found
  led_by n d _ is further found = here (record { no_name = λ name other. cc (sym is ∙ other); same = cc found })

  led : (n : ℕ) (d : Desc) → resolved_at table (suc n) d ≡ Some y → Leads (EndsAt y) NoPass table n d
  led zero d found =
      led_by zero d (out-Desc d) refl (λ name z is some none. let clash : None ≡ Some y = sym (no_step table z) ∙ none in cc clash) (sym (next_step table zero d) ∙ found)
  led (suc n) d found =
      led_by (suc n) d (out-Desc d) refl (λ name z is some rest. referred name z is some (led n z rest)) (sym (next_step table (suc n) d) ∙ found)

  -- what is led to is resolved
  found_by : (n : ℕ) (d : Desc) → Leads (EndsAt y) NoPass table n d → resolved_at table (suc n) d ≡ Some y
  found_by n d (here ends) = ends_there table n d ends.no_name ∙ ap Some ends.same
  found_by n d (passed x p l) = absurd p
  found_by (suc n) d (referred name z is some l) = leads_on table (suc n) d name (Some z) is some ∙ found_by n z l

-- a descriptor has one node at least
step_at_least : (x : Desc-F ℕ ℕ ℕ ℕ) → 1 ≤ nodes_step x
step_at_least Desc-F.Any = omega arith
step_at_least _ = omega arith

some_nodes : (d : Desc) → 1 ≤ nodes d
some_nodes d = rw (nodes_at d (out-Desc d) refl) (step_at_least _)

as_many_nodes : (table : List Definition) → length table ≤ nodes_of_table table
as_many_nodes [] = omega arith
as_many_nodes (e ∷ es) = omega (arith, some_nodes e.desc, as_many_nodes es)

-- more steps than there are definitions lead no further
as_far : (table : List Definition) (n : ℕ) (d : Desc) → length table ≤ n
    → resolved_at table (suc (length table)) d ≡ resolved_at table (suc n) d
as_far table n d few = by_case (resolved_at table (suc n) d) refl
  where
    by_case : (o : Option Desc) → resolved_at table (suc n) d ≡ o
        → resolved_at table (suc (length table)) d ≡ resolved_at table (suc n) d
    by_case (Some y) is =
        found_by table y (length table) d (enough (EndsAt y) NoPass table n d (led table y n d is)) ∙ sym is
    by_case None is = by_other (resolved_at table (suc (length table)) d) refl
      where
        by_other : (o : Option Desc) → resolved_at table (suc (length table)) d ≡ o
            → resolved_at table (suc (length table)) d ≡ resolved_at table (suc n) d
        by_other None none = none ∙ sym is
        by_other (Some y) some =
            let reached = more (EndsAt y) NoPass table (length table) n d few (led table y (length table) d some) in
            let clash : Some y ≡ None = sym (found_by table y n d reached) ∙ is in cc clash

-- the room is enough for as many steps as there are definitions
pub resolved_enough : (table : List Definition) (d : Desc) → resolved_at table (suc (length table)) d ≡ resolved table d
unfolding resolved room
resolved_enough table d = as_far table (nodes_of_table table + nodes d) d (omega (arith, as_many_nodes table))

-- where a test computes to true, it is true
holds : (x y : DescLevel) → x ≡ y → IsTrue (is_scalar_level y) → IsTrue (is_scalar_level x)
holds x y is = subst (λ z. IsTrue (is_scalar_level z)) (sym is)

module _ (table : List Definition) where
  -- a scalar type is one by some number of steps
  scalar_some : (d : Desc) → IsScalarType table d → (n : ℕ) × IsScalarWithin table n d
  scalar_some d (a_truth is) = (0, here (holds (out-Desc d) Desc-F.Bool is refl))
  scalar_some d (a_character is) = (0, here (holds (out-Desc d) Desc-F.Char is refl))
  scalar_some d (a_number kind min max is) = (0, here (holds (out-Desc d) (Desc-F.Int kind min max) is refl))
  scalar_some d (a_text min max format is) = (0, here (holds (out-Desc d) (Desc-F.Text min max format) is refl))
  scalar_some d (a_name names is) = (0, here (holds (out-Desc d) (Desc-F.Enumeration names) is refl))
  scalar_some d (an_option x is inside) = let some = scalar_some x inside in (some.0, passed x is some.1)
  scalar_some d (a_reference name e is found inside) =
      let some = scalar_some e.desc inside in
      (suc some.0, referred name e.desc is (definition_is table name ∙ ap (option_map (λ (e : Definition). e.desc)) found) some.1)

  -- the forms that are scalar
  of_form : (d : Desc) (x : DescLevel) → out-Desc d ≡ x → IsTrue (is_scalar_level x) → IsScalarType table d
  of_form d Desc-F.Bool is form = a_truth is
  of_form d Desc-F.Char is form = a_character is
  of_form d (Desc-F.Int kind min max) is form = a_number kind min max is
  of_form d (Desc-F.Text min max format) is form = a_text min max format is
  of_form d (Desc-F.Enumeration names) is form = a_name names is
  of_form d _ is form = absurd (cc form)

  -- the entry of a definition
  entry_behind : (name : List ℕ) (y : Desc) (o : Option Definition)
      → option_map (λ (e : Definition). e.desc) o ≡ Some y → (e : Definition) × (o ≡ Some e) × (e.desc ≡ y)
  entry_behind name y None found = cc found
  entry_behind name y (Some e) found = (e, refl, cc found)

  -- by any number of steps it is a scalar type
  scalar_from : (n : ℕ) (d : Desc) → IsScalarWithin table n d → IsScalarType table d
  scalar_from n d (here form) = of_form d (out-Desc d) refl form
  scalar_from n d (passed x is l) = an_option x is (scalar_from n x l)
  scalar_from (suc n) d (referred name y is found l) =
      let entry = entry_behind name y (entry_of table name) (sym (definition_is table name) ∙ found) in
      a_reference name entry.0 is entry.1 (subst (IsScalarType table) (sym entry.2) (scalar_from n y l))

  -- as many steps as there are definitions tell it
  pub scalar_enough : (d : Desc) → IsScalarType table d → IsScalarWithin table (length table) d
  scalar_enough d scalar = let some = scalar_some d scalar in enough HasScalarForm IsOptionOf table some.0 d some.1

  pub scalar_told : (d : Desc) → IsScalarWithin table (length table) d → IsScalarType table d
  scalar_told d l = scalar_from (length table) d l

-- options pass on what stands behind them, and nothing else
behind_leads : (table : List Definition) (n : ℕ) (d y : Desc) → IsBehindOptions d y → IsScalarWithin table n y
    → IsScalarWithin table n d
behind_leads table n d y (itself none) l = l
behind_leads table n d y (behind x y' is rest) l = passed x is (behind_leads table n x y rest l)

no_option_form : (d x : Desc) → IsOptionOf d x → ¬ HasScalarForm d
no_option_form d x is form = let clash = subst (λ z. IsTrue (is_scalar_level z)) is form in cc clash

inside_option : (table : List Definition) (n : ℕ) (d x : Desc) → IsOptionOf d x → IsScalarWithin table n d
    → IsScalarWithin table n x
inside_option table n d x is (here form) = absurd (no_option_form d x is form)
inside_option table n d x is (passed x' is' l) = subst (IsScalarWithin table n) (cc (sym is' ∙ is)) l
inside_option table (suc n) d x is (referred name z other found l) = cc (sym is ∙ other)

leads_behind : (table : List Definition) (n : ℕ) (d y : Desc) → IsBehindOptions d y → IsScalarWithin table n d
    → IsScalarWithin table n y
leads_behind table n d y (itself none) l = l
leads_behind table n d y (behind x y' is rest) l = leads_behind table n x y rest (inside_option table n d x is l)

-- what stands behind options is none
no_option : (d y : Desc) → IsBehindOptions d y → (x : Desc) → ¬ IsOptionOf y x
no_option d y (itself none) = none
no_option d y (behind x y' is rest) = no_option x y rest

-- a reference is scalar where one step less leads from its definition to a scalar form
behind_name : (table : List Definition) (n : ℕ) (y : Desc) (name : List ℕ) → out-Desc y ≡ Desc-F.Ref name
    → IsScalarWithin table n y
    → (z : Desc) × (definition table name ≡ Some z) × (m : ℕ) × (n ≡ suc m) × IsScalarWithin table m z
behind_name table n y name is (here form) = let clash = subst (λ z. IsTrue (is_scalar_level z)) is form in cc clash
behind_name table n y name is (passed x is' l) = cc (sym is ∙ is')
behind_name table (suc n) y name is (referred other z is' found l) =
    let same : other ≡ name = cc (sym is' ∙ is) in (z, ap (definition table) (sym same) ∙ found, n, refl, l)

-- what is neither an option nor a reference is scalar by its form alone
form_alone : (table : List Definition) (n : ℕ) (y : Desc) → ((x : Desc) → ¬ IsOptionOf y x)
    → ((name : List ℕ) → ¬ (out-Desc y ≡ Desc-F.Ref name)) → IsScalarWithin table n y → HasScalarForm y
form_alone table n y none no_name (here form) = form
form_alone table n y none no_name (passed x is l) = absurd (none x is)
form_alone table (suc n) y none no_name (referred name z is found l) = absurd (no_name name is)

-- the same of a descriptor behind whose options such stands
module _ (table : List Definition) (d y : Desc) (stands : IsBehindOptions d y) where
  pub scalar_by_form : (n : ℕ) → ((name : List ℕ) → ¬ (out-Desc y ≡ Desc-F.Ref name))
      → HasScalarForm y ↔ IsScalarWithin table n d
  scalar_by_form n no_name =
      (λ form. behind_leads table n d y stands (here form), λ l. form_alone table n y (no_option d y stands) no_name (leads_behind table n d y stands l))

  module _ (name : List ℕ) (is : out-Desc y ≡ Desc-F.Ref name) where
    pub scalar_by_name : (n : ℕ) (z : Desc) → definition table name ≡ Some z
        → IsScalarWithin table n z ↔ IsScalarWithin table (suc n) d
    scalar_by_name n z found = (λ l. behind_leads table (suc n) d y stands (referred name z is found l), back)
      where
        back : IsScalarWithin table (suc n) d → IsScalarWithin table n z
        back l =
            let (z', found', m, more, l') = behind_name table (suc n) y name is (leads_behind table (suc n) d y stands l) in
            let same : z' ≡ z = cc (sym found' ∙ found) in
            let fewer : m ≡ n = cc more in
            subst (λ k. IsScalarWithin table k z) fewer (subst (IsScalarWithin table m) same l')

    pub not_defined : (n : ℕ) → definition table name ≡ None → ¬ IsScalarWithin table n d
    not_defined n none l =
        let (z, found, m, more, l') = behind_name table n y name is (leads_behind table n d y stands l) in
        let clash : None ≡ Some z = sym none ∙ found in cc clash

    pub not_in_no_steps : ¬ IsScalarWithin table 0 d
    not_in_no_steps l = let (z, found, m, more, l') = behind_name table 0 y name is (leads_behind table 0 d y stands l) in cc more
