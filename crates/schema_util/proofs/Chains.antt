-- The names that were met, and how many definitions were not.
use Rattle.std.proofs.Common.{◌≡◌, ℕ, suc, ◌<◌, ◌≤◌, Bool, true, false, List, [], ◌∷◌, ◌||◌, Bor, Option, Some, None, String, Global, string_bytes, bytes_eq, cond, refl, sym, ◌∙◌, ap, arith}
use Rattle.std.proofs.lemmas.Slice.Eq.{bytes_eq-Decides}
use Rattle.std.specs.Option.{option_copied}
use Rattle.std.specs.Map.{lookup}
use Rattle.schema_values.specs.declared.schema.Schema.{Schema}
use Rattle.schema_util.specs.declared.met.Met.{Met}
use Rattle.schema_util.specs.declared.met.Met.TheFolds.{fold-roll-Met}
use Rattle.schema_util.specs.declared.met.Met.TheViews.{roll-Met}
use Rattle.schema_util.specs.Met.{all_met, with_met}
use Rattle.schema_util.specs.References.{is_met}

-- the names, one longer
pub met_longer : (name : Bor (List ℕ)) (o : Option (Bor Met)) → all_met (Some (roll-Met (record { name = name; before = o }))) ≡ name.now ∷ all_met (option_copied o)
met_longer name None = fold-roll-Met (List (List ℕ)) with_met (record { name = name; before = None })
met_longer name (Some r) = fold-roll-Met (List (List ℕ)) with_met (record { name = name; before = Some r })

-- the measure: how many definitions were not met
unfoldable pub unmet : List (String Global × Schema) → List (List ℕ) → ℕ
unmet [] met = 0
unmet (e ∷ es) met = cond (is_met met (string_bytes e.0)) (unmet es met) (suc (unmet es met))

no_more_by : (b c : Bool) (m n : ℕ) → m ≤ n → cond (b || c) m (suc m) ≤ cond c n (suc n)
no_more_by true true m n h = h
no_more_by true false m n h = omega arith
no_more_by false true m n h = h
no_more_by false false m n h = omega arith

no_more : (es : List (String Global × Schema)) (met : List (List ℕ)) (name : List ℕ) → unmet es (name ∷ met) ≤ unmet es met
unfolding unmet
no_more [] met name = omega arith
no_more (e ∷ es) met name = no_more_by (bytes_eq name (string_bytes e.0)) (is_met met (string_bytes e.0)) (unmet es (name ∷ met)) (unmet es met) (no_more es met name)

fewer_by : (c : Bool) (m n : ℕ) → m < n → cond c m (suc m) < cond c n (suc n)
fewer_by true m n h = h
fewer_by false m n h = omega arith

module _ (e : String Global × Schema) (es : List (String Global × Schema)) (met : List (List ℕ)) (name : List ℕ) (schema : Schema) where
  fewer_by_test : (b : Bool) → bytes_eq name (string_bytes e.0) ≡ b → cond b (Some e.1) (lookup (λ key. bytes_eq name (string_bytes key)) es) ≡ Some schema → is_met met name ≡ false
      → (lookup (λ key. bytes_eq name (string_bytes key)) es ≡ Some schema → unmet es (name ∷ met) < unmet es met)
      → cond (b || is_met met (string_bytes e.0)) (unmet es (name ∷ met)) (suc (unmet es (name ∷ met))) < cond (is_met met (string_bytes e.0)) (unmet es met) (suc (unmet es met))
  fewer_by_test true is found never rest =
      let same : name ≡ string_bytes e.0 = (bytes_eq-Decides name (string_bytes e.0)).0 is in
      let unmet_key : is_met met (string_bytes e.0) ≡ false = sym (ap (is_met met) same) ∙ never in
      rw unmet_key (omega (arith, no_more es met name))
  fewer_by_test false is found never rest = fewer_by (is_met met (string_bytes e.0)) (unmet es (name ∷ met)) (unmet es met) (rest found)

-- a definition is met, and one fewer is not
pub fewer : (es : List (String Global × Schema)) (met : List (List ℕ)) (name : List ℕ) (schema : Schema) → lookup (λ key. bytes_eq name (string_bytes key)) es ≡ Some schema → is_met met name ≡ false
    → unmet es (name ∷ met) < unmet es met
unfolding unmet
fewer [] met name schema found never = cc found
fewer (e ∷ es) met name schema found never =
    fewer_by_test e es met name schema (bytes_eq name (string_bytes e.0)) refl found never (λ later. fewer es met name schema later never)
