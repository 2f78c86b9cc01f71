-- No chain is longer than the sizes of a schema and of its definitions: no definition is met twice on the way.
use Rattle.std.proofs.Common.{◌≡◌, ℕ, zero, suc, ◌+◌, ◌≤◌, List, map, sum, Option, Some, None, min, refl, sym, ◌∙◌, ap, subst, arith, ◌⊎◌, inl, inr}
use Rattle.std.specs.Prelude.{Contains}
use Rattle.std.proofs.Math.Nat.{min-le_right, min-eq_left}
use Rattle.schema_values.specs.declared.schema.Schema.{Schema}
use Rattle.openapi_values.specs.Find.{value_at}
use Rattle.schema_meaning.specs.Definitions.{NamedSchemas, schema_named, name_referred}
use Rattle.schema_meaning.specs.Reached.{beside, below, LeadsTo, subschema, referred, LeadsOnTo, at_once, IsReached, itself, same_value, smaller_value}
use Rattle.schema_meaning.proofs.Among.{map_alike, one_fits, sums_fit, others_fit}
use Rattle.schema_meaning.proofs.Chains.{Rests, go_on}
use Rattle.schema_meaning.proofs.Sizes.{Sizes, same_or_not, without, summed, taken, sums_below, named_without}

-- a name has room for so much
abbrev pub HasRoomFor : Sizes → List ℕ → ℕ → Type 0
HasRoomFor sizes name n = (k : ℕ) × (value_at name sizes ≡ Some k) × (n ≤ k)

-- A size of each schema that counts for those inside it, and under the names of the definitions no less than their sizes.
pub record Sized (definitions : NamedSchemas) (whole : Schema) (size : Schema → ℕ) (sizes : Sizes) : Type 0 where
  pub counts : (s : Schema) → IsReached definitions whole s → suc (sum (map size (beside s)) + sum (map size (below s))) ≤ size s
  pub named : (r : Schema) (name : List ℕ) (y : Schema) → IsReached definitions whole r → name_referred r ≡ Some name → schema_named definitions name ≡ Some y → HasRoomFor sizes name (size y)

module _ (definitions : NamedSchemas) (whole : Schema) (size : Schema → ℕ) (sizes : Sizes) (sized : Sized definitions whole size sizes) (no_way_back : (s : Schema) → IsReached definitions whole s → LeadsOnTo definitions s s → ⊥) where
  abbrev Reached : Schema → Type 0
  Reached = IsReached definitions whole

  beside_reached : (s x : Schema) → Reached s → Contains (beside s) x → Reached x
  beside_reached s x r c = same_value s x r (subschema x c)

  -- the schemas at the top of a schema: it, and its subschemas, and theirs
  unfoldable top_within : ℕ → Schema → ℕ
  top_within zero s = 0
  top_within (suc n) s = suc (sum (map (top_within n) (beside s)))

  below_size : (s x : Schema) → Reached s → Contains (beside s) x → suc (size x) ≤ size s
  below_size s x r c = omega (arith, sized.counts s r, one_fits size size (beside s) x c)

  same_top : (n m : ℕ) (s : Schema) → Reached s → size s ≤ n → size s ≤ m → top_within n s ≡ top_within m s
  unfolding top_within
  same_top zero m s r h k = absurd (omega (arith, sized.counts s r, h))
  same_top (suc n) zero s r h k = absurd (omega (arith, sized.counts s r, k))
  same_top (suc n) (suc m) s r h k =
      ap (λ (ns : List ℕ). suc (sum ns))
      (map_alike (top_within n) (top_within m) (beside s) (λ x c. same_top n m x (beside_reached s x r c) (omega (arith, below_size s x r c, h)) (omega (arith, below_size s x r c, k))))

  unfoldable top : Schema → ℕ
  top s = top_within (size s) s

  top_by : (n : ℕ) (s : Schema) → Reached s → size s ≡ n → top s ≡ suc (sum (map top (beside s)))
  unfolding top top_within
  top_by zero s r e = absurd (omega (arith, sized.counts s r, e))
  top_by (suc n) s r e =
      ap (λ (k : ℕ). top_within k s) e
      ∙ ap (λ (ns : List ℕ). suc (sum ns)) (map_alike (top_within n) top (beside s) (λ x c. same_top n (size x) x (beside_reached s x r c) (omega (arith, below_size s x r c, e)) (omega arith)))

  top_is : (s : Schema) → Reached s → top s ≡ suc (sum (map top (beside s)))
  top_is s r = top_by (size s) s r refl

  within_fits : (n : ℕ) (s : Schema) → Reached s → top_within n s ≤ size s
  unfolding top_within
  within_fits zero s r = omega arith
  within_fits (suc n) s r = omega (arith, sized.counts s r, sums_fit (top_within n) size (beside s) (λ x c. within_fits n x (beside_reached s x r c)))

  top_fits : (s : Schema) → Reached s → top s ≤ size s
  unfolding top
  top_fits s r = within_fits (size s) s r

  -- ---- a schema inside another one

  -- each step from `s` is the end of a chain from `y`
  Leads : Schema → Schema → Type 0
  Leads y s = (t : Schema) → LeadsTo definitions s t → LeadsOnTo definitions y t

  leads_on : (y s x : Schema) → LeadsTo definitions s x → Leads y s → Leads y x
  unfolding Leads
  leads_on y s x l leads t k = go_on definitions y x t (leads x l) k

  -- at the top of `y`, whose top counts for that of `s`
  record AtTop (y s : Schema) : Type 0 where
    leads : Leads y s
    fewer : top s ≤ top y
    others : top y + size s ≤ size y + top s

  abbrev IsInside : Schema → Schema → Type 0
  IsInside y s = AtTop y s ⊎ (top y + size s ≤ size y)

  in_itself : (y : Schema) → IsInside y y
  unfolding Leads
  in_itself y = inl (record { leads = λ t l. at_once t l; fewer = omega arith; others = omega arith })

  in_subschema : (y s x : Schema) → Reached s → Contains (beside s) x → IsInside y s → IsInside y x
  in_subschema y s x r c (inl a) =
      let others = others_fit top size (beside s) (λ z k. top_fits z (beside_reached s z r k)) x c in
      inl (record {
        leads = leads_on y s x (subschema x c) a.leads;
        fewer = omega (arith, a.fewer, top_is s r, one_fits top top (beside s) x c);
        others = omega (arith, a.others, top_is s r, sized.counts s r, others);
      })
  in_subschema y s x r c (inr b) = inr (omega (arith, b, below_size s x r c))

  in_smaller : (y s x : Schema) → Reached s → Contains (below s) x → IsInside y s → IsInside y x
  in_smaller y s x r c (inl a) =
      inr (omega (arith, a.others, top_is s r, sized.counts s r, one_fits size size (below s) x c, sums_fit top size (beside s) (λ z k. top_fits z (beside_reached s z r k))))
  in_smaller y s x r c (inr b) = inr (omega (arith, b, sized.counts s r, one_fits size size (below s) x c))

  -- a definition that is referred to, in which a schema stands
  record InDefinition (s : Schema) : Type 0 where
    by : Schema
    name : List ℕ
    schema : Schema
    reached : Reached by
    refers : name_referred by ≡ Some name
    is : schema_named definitions name ≡ Some schema
    inside : IsInside schema s

  abbrev Stands : Schema → Type 0
  Stands s = IsInside whole s ⊎ InDefinition s

  moved : (s x : Schema) → ((y : Schema) → IsInside y s → IsInside y x) → Stands s → Stands x
  moved s x step (inl i) = inl (step whole i)
  moved s x step (inr d) = inr (record { by = d.by; name = d.name; schema = d.schema; reached = d.reached; refers = d.refers; is = d.is; inside = step d.schema d.inside })

  stands : (s : Schema) → Reached s → Stands s
  stands s itself = inl (in_itself whole)
  stands s (same_value p t r (subschema x c)) = moved p s (λ y i. in_subschema y p s r c i) (stands p r)
  stands s (same_value p t r (referred name x e f)) = inr (record { by = p; name = name; schema = s; reached = r; refers = e; is = f; inside = in_itself s })
  stands s (smaller_value p t r c) = moved p s (λ y i. in_smaller y p s r c i) (stands p r)

  -- ---- the definitions that are left

  top_named : Option Schema → ℕ
  top_named None = 0
  top_named (Some y) = top y

  -- a definition counts for its top
  weight : List ℕ → ℕ → ℕ
  weight name k = min (top_named (schema_named definitions name)) k

  -- each definition that is referred to is left, or has led to here
  AreLeft : Sizes → Schema → Type 0
  AreLeft left s = (r : Schema) (name : List ℕ) (y : Schema) → Reached r → name_referred r ≡ Some name → schema_named definitions name ≡ Some y → HasRoomFor left name (size y) ⊎ Leads y s

  all_left : (s : Schema) → AreLeft sizes s
  unfolding AreLeft
  all_left s r name y i e f = inl (sized.named r name y i e f)

  still_left : (left : Sizes) (s t : Schema) → LeadsTo definitions s t → AreLeft left s → AreLeft left t
  unfolding AreLeft
  still_left left s t l inv r name y i e f = elim (inv r name y i e f) [ inl a ↦ inl a | inr a ↦ inr (leads_on y s t l a) ]

  take_out : (left : Sizes) (s : Schema) (name : List ℕ) (y : Schema) → schema_named definitions name ≡ Some y → Leads y s → AreLeft left s → AreLeft (without name left) s
  unfolding AreLeft
  take_out left s name y f led inv r other z i e g =
      elim (same_or_not name other) [
        | inl same ↦
            let q : Some z ≡ Some y = sym g ∙ ap (schema_named definitions) (sym same) ∙ f in
            let w : y ≡ z = cc q in
            inr (subst (λ (v : Schema). Leads v s) w led)
        | inr ne ↦ elim (inv r other z i e g) [ inl a ↦ inl (a.0, named_without name other left ne ∙ a.1, a.2) | inr a ↦ inr a ]
      ]

  weight_is : (name : List ℕ) (y : Schema) (k : ℕ) → size y ≤ k → Reached y → schema_named definitions name ≡ Some y → weight name k ≡ top y
  unfolding weight top_named
  weight_is name y k le r f = ap (λ (o : Option Schema). min (top_named o) k) f ∙ min-eq_left (omega (arith, le, top_fits y r))

  weights_fit : (left : Sizes) → summed weight left ≤ summed (λ name k. k) left
  unfolding weight
  weights_fit left = sums_below weight (λ name k. k) (λ name k. min-le_right (top_named (schema_named definitions name)) k) left

  Budget : ℕ → Type 0
  Budget n = (left : Sizes) (s : Schema) → Reached s → top s + summed weight left ≤ n → AreLeft left s → Rests definitions n s

  rests_by : (n : ℕ) → Budget n → (left : Sizes) (s : Schema) → Reached s → top s + summed weight left ≤ suc n → AreLeft left s → (t : Schema) → LeadsTo definitions s t → Rests definitions n t
  unfolding Budget AreLeft Leads
  rests_by n budget left s r le inv t (subschema x c) =
      budget left t (beside_reached s t r c) (omega (arith, le, top_is s r, one_fits top top (beside s) t c)) (still_left left s t (subschema t c) inv)
  rests_by n budget left s r le inv t (referred name x e f) =
      let step : LeadsTo definitions s t = referred name t e f in
      let reached : Reached t = same_value s t r step in
      elim (inv s name t r e f) [
        | inl a ↦
            budget (without name left) t reached (omega (arith, le, top_is s r, taken weight name left a.0 a.1, weight_is name t a.0 a.2 reached f))
            (take_out left t name t f (λ u l. at_once u l) (still_left left s t step inv))
        | inr back ↦ absurd (no_way_back t reached (back t step))
      ]

  rests_within : (n : ℕ) → Budget n
  unfolding Budget Rests
  rests_within zero left s r le inv = absurd (omega (arith, top_is s r, le))
  rests_within (suc n) left s r le inv = rests_by n (rests_within n) left s r le inv

  by_place : (s : Schema) → Reached s → Stands s → Rests definitions (size whole + summed (λ name k. k) sizes) s
  unfolding Budget
  by_place s r (inl (inl a)) = rests_within _ sizes s r (omega (arith, a.fewer, top_fits whole itself, weights_fit sizes)) (all_left s)
  by_place s r (inl (inr b)) = rests_within _ sizes s r (omega (arith, b, top_fits s r, weights_fit sizes)) (all_left s)
  by_place s r (inr d) = in_definition d.inside
    where
      here : HasRoomFor sizes d.name (size d.schema)
      here = sized.named d.by d.name d.schema d.reached d.refers d.is

      reached : Reached d.schema
      reached = same_value d.by d.schema d.reached (referred d.name d.schema d.refers d.is)

      counted : summed weight sizes ≡ top d.schema + summed weight (without d.name sizes)
      counted = taken weight d.name sizes here.0 here.1 ∙ ap (λ (n : ℕ). n + summed weight (without d.name sizes)) (weight_is d.name d.schema here.0 here.2 reached d.is)

      in_definition : IsInside d.schema s → Rests definitions (size whole + summed (λ name k. k) sizes) s
      in_definition (inl a) = rests_within _ (without d.name sizes) s r (omega (arith, a.fewer, counted, weights_fit sizes)) (take_out sizes s d.name d.schema d.is a.leads (all_left s))
      in_definition (inr b) =
          rests_within _ sizes s r
          (omega (arith, b, top_fits s r, counted, weights_fit (without d.name sizes), taken (λ name k. k) d.name sizes here.0 here.1, here.2))
          (all_left s)

  -- the chain of each schema that is reached
  pub each_rests : (s : Schema) → Reached s → Rests definitions (size whole + summed (λ name k. k) sizes) s
  each_rests s r = by_place s r (stands s r)
