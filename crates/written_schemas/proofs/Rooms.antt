-- The steps that a needed descriptor's schema takes are within the room of its document.
use Rattle.std.proofs.Common.{◌≡◌, ℕ, zero, suc, ◌+◌, ◌≤◌, List, [], ◌∷◌, map, sum, Option, Some, None, option_map, refl, sym, ◌∙◌, ap, subst, arith, ◌⊎◌, inl, inr, min}
use Rattle.std.specs.Prelude.{Contains}
use Rattle.std.proofs.Math.Nat.{min-le_right, min-eq_left}
use Rattle.std.proofs.lemmas.List.Sums.{sum_by-cons}
use denote.Param.Weighed.{most}
use Rattle.schema_values.specs.declared.json_value.Json.{Json}
use Rattle.schema_values.specs.declared.json_value.Member.{Member}
use Rattle.schema_values.specs.Get.{first_named}
use Rattle.openapi_values.specs.Room.{values}
use Rattle.openapi_values.specs.ValuesOfMembers.{member_values}
use Rattle.descriptors.specs.declared.desc.Desc.{Desc, out-Desc}
use Rattle.descriptors.specs.declared.desc.Desc.TheOpen.{Desc-F}
use Rattle.descriptors.specs.declared.table.Definition.{Definition}
use Rattle.typed_values.specs.Checks.{TablePasses}
use Rattle.descriptors.specs.Definitions.{entry_of}
use Rattle.typed_values.specs.Guarded.{named_here, Reaches, at_once, through}
use Rattle.typed_values.specs.SchemaTable.{schema_json_described}
use Rattle.typed_values.specs.Reached.{IsReached}
use Rattle.typed_values.specs.Levels.{DescLevel}
use Rattle.schema_values.proofs.CallerLemmas.{contains_first, contains_later}
use Rattle.descriptors.proofs.CallerLemmas.{definition_is, entry_name, same_or_not}
use Rattle.typed_values.proofs.CallerLemmas.{IsNeeded, of_whole, of_reached, entry_inside, option_needed, alternative_needed, reference_reached, reference_needed, through_option, through_alternative}
use Rattle.openapi_values.proofs.CallerLemmas.{total, schemas_in, definition_found, schemas_fit}
use Rattle.written_schemas.specs.Reached.{DefinesReached}
use Rattle.written_schemas.proofs.Costs.{cost_after, cost_by, cost}
use Rattle.written_schemas.proofs.Sizes.{bare, top_cost, top_at}
use Rattle.written_schemas.proofs.Inside.{described_fits, top_fits, one_top, IsInside, stands_inside}
use Rattle.written_schemas.proofs.Budget.{without, summed, taken, found_without}

most_within : (f : Desc → ℕ) (ds : List Desc) (n : ℕ) → ((x : Desc) → Contains ds x → f x ≤ n) → most f ds ≤ n
most_within f [] n h = omega arith
most_within f (x ∷ ds) n h = omega (arith, h x (contains_first x ds), most_within f ds n (λ y c. h y (contains_later x ds y c)))

module _ (table : List Definition) where
  -- what a definition's top takes, where the table has the name; at most the values of the schema
  top_named : Option Definition → ℕ
  top_named None = 0
  top_named (Some e) = top_cost e.desc

  weight : List ℕ → Json → ℕ
  weight name v = min (top_named (entry_of table name)) (values v)

  weight_is : (name : List ℕ) (e : Definition) → entry_of table name ≡ Some e → weight name (schema_json_described table e.description e.desc) ≡ top_cost e.desc
  unfolding weight top_named
  weight_is name e f =
      let v = schema_json_described table e.description e.desc in
      let fits : top_cost e.desc ≤ values v = omega (arith, top_fits table e.desc, described_fits table e.desc e.description) in
      ap (λ (o : Option Definition). min (top_named o) (values v)) f ∙ min-eq_left fits

  weights_fit : (ms : List Member) → summed weight ms ≤ total ms
  unfolding weight total
  weights_fit [] = omega arith
  weights_fit (m ∷ ms) =
      omega (arith, weights_fit ms, min-le_right (top_named (entry_of table m.name)) (values m.value), sum_by-cons (λ n. n) (weight m.name m.value) (map (λ m. weight m.name m.value) ms), sum_by-cons (λ n. n) (member_values m) (map member_values ms))

module _ (table : List Definition) (whole : Desc) (doc : Json) (passes : TablePasses table) (defines : DefinesReached doc table whole) where
  -- the schema of a definition that is reached stands among those left, or the definition has led to here
  AreLeft : List Member → Desc → Type 0
  AreLeft left d = (name : List ℕ) (e : Definition) → IsReached table whole name → entry_of table name ≡ Some e
      → (first_named name left ≡ Some (schema_json_described table e.description e.desc)) ⊎ ((target : List ℕ) → Reaches table target d → Reaches table target e.desc)

  none_taken : (d : Desc) → AreLeft (schemas_in doc) d
  unfolding AreLeft
  none_taken d name e r f = inl (sym (definition_found doc name) ∙ defines name e r f)

  go_on : (left : List Member) (d x : Desc) → ((target : List ℕ) → Reaches table target x → Reaches table target d) → AreLeft left d → AreLeft left x
  unfolding AreLeft
  go_on left d x step inv name e r f = elim (inv name e r f) [ inl a ↦ inl a | inr a ↦ inr (λ target s. a target (step target s)) ]

  take_out : (left : List Member) (d : Desc) (name : List ℕ) (y : Definition) → entry_of table name ≡ Some y → ((target : List ℕ) → Reaches table target d → Reaches table target y.desc) → AreLeft left d → AreLeft (without name left) d
  unfolding AreLeft
  take_out left d name y f led inv other e r g =
      elim (same_or_not name other) [
        | inl same ↦
            let q : Some e ≡ Some y = sym g ∙ ap (entry_of table) (sym same) ∙ f in
            let w : y ≡ e = cc q in
            inr (subst (λ (v : Definition). (target : List ℕ) → Reaches table target d → Reaches table target v.desc) w led)
        | inr ne ↦ elim (inv other e r g) [ inl a ↦ inl (found_without name other left ne ∙ a) | inr a ↦ inr a ]
      ]

  Bounded : ℕ → Type 0
  Bounded n = (left : List Member) (d : Desc) → IsNeeded table whole d → AreLeft left d → cost table n d ≤ top_cost d + summed (weight table) left

  reference_bounded : (n : ℕ) → Bounded n → (left : List Member) (d : Desc) (name : List ℕ) → IsNeeded table whole d → AreLeft left d → out-Desc d ≡ Desc-F.Ref name
      → (o : Option Definition) → entry_of table name ≡ o → cost_after (cost table n) (option_map (λ e. e.desc) o) ≤ 2 + summed (weight table) left
  unfolding Bounded AreLeft
  reference_bounded n bounded left d name need inv e None f = omega arith
  reference_bounded n bounded left d name need inv e (Some y) f =
      let reached = reference_reached table whole d name e need in
      let led : (target : List ℕ) → Reaches table target y.desc → Reaches table target d = λ target r. through name y.desc (named_here e) (definition_is table name ∙ ap (option_map (λ e. e.desc)) f) r in
      elim (inv name y reached f) [
        | inl a ↦
            let less = bounded (without name left) y.desc (reference_needed table whole d name y e f need) (take_out left y.desc name y f (λ target r. r) (go_on left d y.desc led inv)) in
            omega (arith, less, taken (weight table) name left (schema_json_described table y.description y.desc) a, weight_is table name y f)
        | inr back ↦
            let cycle : Reaches table name y.desc = back name (at_once (named_here e)) in
            absurd (passes.guarded y (entry_inside table name y f) (subst (λ (m : List ℕ). Reaches table m y.desc) (sym (entry_name table name y f)) cycle))
      ]

  bounded_by : (n : ℕ) → Bounded n → (left : List Member) (d : Desc) → IsNeeded table whole d → AreLeft left d → (z : DescLevel) → out-Desc d ≡ z → cost_by table (cost table n) z ≤ top_cost d + summed (weight table) left
  unfolding Bounded
  bounded_by n bounded left d need inv Desc-F.Any e = omega (arith, top_at d _ e)
  bounded_by n bounded left d need inv Desc-F.Never e = omega (arith, top_at d _ e)
  bounded_by n bounded left d need inv Desc-F.Null e = omega (arith, top_at d _ e)
  bounded_by n bounded left d need inv Desc-F.Bool e = omega (arith, top_at d _ e)
  bounded_by n bounded left d need inv Desc-F.Char e = omega (arith, top_at d _ e)
  bounded_by n bounded left d need inv (Desc-F.Int kind min max) e = omega (arith, top_at d _ e)
  bounded_by n bounded left d need inv (Desc-F.Text min max format) e = omega (arith, top_at d _ e)
  bounded_by n bounded left d need inv (Desc-F.Enumeration ns) e = omega (arith, top_at d _ e)
  bounded_by n bounded left d need inv (Desc-F.List x min max) e = omega (arith, top_at d _ e)
  bounded_by n bounded left d need inv (Desc-F.Map x) e = omega (arith, top_at d _ e)
  bounded_by n bounded left d need inv (Desc-F.Struct fs deny) e = omega (arith, top_at d _ e)
  bounded_by n bounded left d need inv (Desc-F.External vs) e = omega (arith, top_at d _ e)
  bounded_by n bounded left d need inv (Desc-F.Tagged tag vs) e = omega (arith, top_at d _ e)
  bounded_by n bounded left d need inv (Desc-F.Option x) e =
      omega (arith, top_at d _ e, bounded left x (option_needed table whole d x e need) (go_on left d x (through_option table x e) inv))
  bounded_by n bounded left d need inv (Desc-F.Untagged ds) e =
      let rest : ℕ = summed (weight table) left in
      let each : most (cost table n) ds ≤ sum (map top_cost ds) + rest = most_within (cost table n) ds (sum (map top_cost ds) + rest)
      (λ x c. omega (arith, one_top ds x c, bounded left x (alternative_needed table whole d ds x e c need) (go_on left d x (through_alternative table ds x e c) inv))) in
      omega (arith, top_at d _ e, each)
  bounded_by n bounded left d need inv (Desc-F.Ref name) e =
      let found = definition_is table name in
      let less = reference_bounded n bounded left d name need inv e (entry_of table name) refl in
      omega (arith, top_at d _ e, ap (cost_after (cost table n)) found, less)

  bounded_at : (n : ℕ) → Bounded n
  unfolding Bounded cost
  bounded_at zero left d need inv = omega arith
  bounded_at (suc n) left d need inv = bounded_by n (bounded_at n) left d need inv (out-Desc d) refl

  whole_bounded : (n : ℕ) (d : Desc) → IsNeeded table whole d → IsInside table whole d → cost table n d ≤ values doc + bare table whole
  unfolding Bounded
  whole_bounded n d need (inl a) = omega (arith, bounded_at n (schemas_in doc) d need (none_taken d), a.fewer, top_fits table whole, weights_fit table (schemas_in doc), schemas_fit doc)
  whole_bounded n d need (inr b) = omega (arith, bounded_at n (schemas_in doc) d need (none_taken d), b, top_fits table d, weights_fit table (schemas_in doc), schemas_fit doc)

  definition_bounded : (n : ℕ) (d : Desc) (name : List ℕ) (e : Definition) → IsReached table whole name → entry_of table name ≡ Some e → IsNeeded table whole d → IsInside table e.desc d → cost table n d ≤ values doc
  unfolding Bounded total
  definition_bounded n d name e r f need (inl a) =
      let all = schemas_in doc in
      let v = schema_json_described table e.description e.desc in
      let there : first_named name all ≡ Some v = sym (definition_found doc name) ∙ defines name e r f in
      omega (arith, bounded_at n (without name all) d need (take_out all d name e f a.reaches (none_taken d)), a.fewer, taken (weight table) name all v there, weight_is table name e f, weights_fit table all, schemas_fit doc)
  definition_bounded n d name e r f need (inr b) =
      let all = schemas_in doc in
      let v = schema_json_described table e.description e.desc in
      let there : first_named name all ≡ Some v = sym (definition_found doc name) ∙ defines name e r f in
      omega (arith, bounded_at n all d need (none_taken d), b, top_fits table d, described_fits table e.desc e.description, taken (weight table) name all v there, taken (λ name v. values v) name all v there, weight_is table name e f, weights_fit table (without name all), schemas_fit doc)

  -- no needed schema takes more steps than the document and the schema have values
  pub cost_bounded : (n : ℕ) (d : Desc) → IsNeeded table whole d → cost table n d ≤ values doc + bare table whole
  cost_bounded n d (of_whole s) = whole_bounded n d (of_whole s) (stands_inside table whole d s)
  cost_bounded n d (of_reached name e r f s) = omega (arith, definition_bounded n d name e r f (of_reached name e r f s) (stands_inside table e.desc d s))
