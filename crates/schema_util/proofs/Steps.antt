-- What a step along a reference says.
use Rattle.std.proofs.Common.{◌≡◌, ℕ, Bool, true, false, cond, List, Option, Some, None, Ok, Err, refl, sym, ◌∙◌, ap, subst}
use Rattle.schema_values.specs.declared.schema.Schema.{Schema}
use Rattle.schema_util.specs.References.{cycle, Names, is_met, look_up, follow_name, name_in, follow}

module _ (names : Names) (met : List (List ℕ)) (name : List ℕ) (next : Schema) where
  -- a name was not met, and has a schema
  pub record Follows : Type 0 where
    pub unmet : is_met met name ≡ false
    pub found : names name ≡ Some next

  looked_up : (other : List ℕ) (o : Option Schema) → is_met met other ≡ false → names other ≡ o → look_up other o ≡ Ok (name, next) → Follows
  looked_up other None unmet found h = absurd (cc h)
  looked_up other (Some schema) unmet found h =
      let both : (other, schema) ≡ (name, next) = cc h in
      let same = ap (λ (p : List ℕ × Schema). p.0) both in
      let here = ap (λ (p : List ℕ × Schema). p.1) both in
      record { unmet = subst (λ (n : List ℕ). is_met met n ≡ false) same unmet; found = ap names (sym same) ∙ found ∙ ap Some here }

  met_not : (other : List ℕ) (b : Bool) → is_met met other ≡ b → cond b (Err (cycle other)) (look_up other (names other)) ≡ Ok (name, next) → Follows
  met_not other true is h = absurd (cc h)
  met_not other false is h = looked_up other (names other) is refl h

  name_followed : (text : List ℕ) (o : Option (List ℕ)) → follow_name names met text o ≡ Ok (name, next) → Follows
  name_followed text None h = absurd (cc h)
  name_followed text (Some other) h = met_not other (is_met met other) refl h

  pub followed : (text : List ℕ) → follow names met text ≡ Ok (name, next) → Follows
  followed text h = name_followed text (name_in text) h
