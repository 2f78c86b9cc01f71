-- A guarded table is sound: steps at one value are never spent.
use Rattle.std.proofs.Common.{◌≡◌, ℕ, zero, suc, ◌+◌, ◌≤◌, Bool, true, false, List, [], ◌∷◌, Option, Some, None, bytes_eq, cond, refl, sym, ◌∙◌, ap, subst, arith, MatchOption, ◌⊎◌, inl, inr}
use Rattle.std.proofs.lemmas.Slice.Eq.{bytes_eq-Decides}
use Rattle.std.specs.Prelude.{⊤, Contains}
use Rattle.descriptors.specs.declared.desc.Desc.{Desc, out-Desc}
use Rattle.descriptors.specs.declared.desc.Desc.TheOpen.{Desc-F}
use Rattle.descriptors.specs.declared.table.Definition.{Definition}
use Rattle.descriptors.specs.Definitions.{definition}
use Rattle.typed_values.specs.Denotes.{room}
use Rattle.typed_values.specs.Guarded.{named_here, Reaches, at_once, through, IsGuarded}
use Rattle.typed_values.specs.Parts.{IsPart, of_whole, of_table}
use Rattle.typed_values.specs.Resting.{EachRests, RestsBy, Rests, AllRest}
use Rattle.typed_values.specs.Checks.{IsPlainlyRight, TablePasses, DescPasses}
use Rattle.typed_values.specs.Levels.{DescLevel}
use Rattle.descriptors.proofs.CallerLemmas.{other_name, same_name, same_or_not, entry_found}
use Rattle.schema_values.proofs.CallerLemmas.{contains_first, contains_later, contains_cases}
use Rattle.typed_values.proofs.Tops.{top, tops, top_at, top_positive, top_fits, tops_fit, other_tops_fit, map_sum, through_option, through_alternative, stands_inside}

-- a table without the first definition of a name
unfoldable without : List ℕ → List Definition → List Definition
without name [] = []
without name (e ∷ es) = cond (bytes_eq e.name name) es (e ∷ without name es)

tops_by : (b : Bool) (e : Definition) (es less : List Definition) (o : Option Desc) (y : Desc) → (o ≡ Some y → tops es ≡ top y + tops less) → cond b (Some e.desc) o ≡ Some y → top e.desc + tops es ≡ top y + tops (cond b es (e ∷ less))
unfolding tops
tops_by true e es less o y later f = let q : e.desc ≡ y = cc f in rw q refl
tops_by false e es less o y later f = let q : tops es ≡ top y + tops less = later f in omega (arith, q)

tops_without : (es : List Definition) (name : List ℕ) (y : Desc) → definition es name ≡ Some y → tops es ≡ top y + tops (without name es)
unfolding tops without
tops_without [] name y f = absurd (cc f)
tops_without (e ∷ es) name y f = tops_by (bytes_eq e.name name) e es (without name es) (definition es name) y (tops_without es name y) f

without_by : (b : Bool) (e : Definition) (es less : List Definition) (m : List ℕ) → (b ≡ true → bytes_eq e.name m ≡ false) → definition less m ≡ definition es m
    → definition (cond b es (e ∷ less)) m ≡ cond (bytes_eq e.name m) (Some e.desc) (definition es m)
without_by true e es less m h q = rw (h refl) refl
without_by false e es less m h q = ap (λ (o : Option Desc). cond (bytes_eq e.name m) (Some e.desc) o) q

-- another name is found as before
definition_without : (es : List Definition) (name m : List ℕ) → (name ≡ m → ⊥) → definition (without name es) m ≡ definition es m
unfolding without
definition_without [] name m ne = refl
definition_without (e ∷ es) name m ne =
    without_by (bytes_eq e.name name) e es (without name es) m
    (λ t. other_name e.name m (λ u. ne (sym ((bytes_eq-Decides e.name name).0 t) ∙ u)))
    (definition_without es name m ne)

later_alike : (b : Bool) (d : Desc) (o p : Option Desc) → (b ≡ false → o ≡ p) → cond b (Some d) o ≡ cond b (Some d) p
later_alike true d o p same = refl
later_alike false d o p same = same refl

-- a table without a definition that stands behind another of its name: each name is found as before
record IsHidden (es : List Definition) (e : Definition) : Type 0 where
  less : List Definition
  counted : tops es ≡ top e.desc + tops less
  same : (m : List ℕ) → definition less m ≡ definition es m

hidden_later : (x : Definition) (es : List Definition) (e : Definition) → IsHidden es e → IsHidden (x ∷ es) e
unfolding tops
hidden_later x es e h = record {
  less = x ∷ h.less;
  counted = omega (arith, h.counted);
  same = λ m. later_alike (bytes_eq x.name m) x.desc _ _ (λ f. h.same m);
}

hidden_first : (x : Definition) (es : List Definition) (e : Definition) → x.name ≡ e.name → definition es e.name ≡ Some e.desc → IsHidden (x ∷ es) e
unfolding tops
hidden_first x es e s f = record {
  less = x ∷ without e.name es;
  counted = omega (arith, tops_without es e.name e.desc f);
  same = λ m. later_alike (bytes_eq x.name m) x.desc _ _ (λ other. definition_without es e.name m (λ t. let q : bytes_eq x.name m ≡ true = (bytes_eq-Decides x.name m).1 (s ∙ t) in cc (q, other)));
}

-- a definition is found by its name, or it stands behind another
found_or_hidden : (es : List Definition) (e : Definition) → Contains es e → (definition es e.name ≡ Some e.desc) ⊎ IsHidden es e
found_or_hidden [] e c = absurd (omega (arith, c.1))
found_or_hidden (x ∷ es) e c =
    elim (contains_cases x es e c) [
      | inl q ↦ inl (rw (q, same_name e.name) refl)
      | inr k ↦ elim (found_or_hidden es e k) [
        | inl f ↦ elim (same_or_not x.name e.name) [ inl s ↦ inr (hidden_first x es e s f) | inr ne ↦ inl (rw (other_name x.name e.name ne) f) ]
        | inr h ↦ inr (hidden_later x es e h)
      ]
    ]

each_rests : (Next : Desc → Type 0) (xs : List Desc) → ((x : Desc) → Contains xs x → Next x) → EachRests Next xs
each_rests Next [] h = tt
each_rests Next (x ∷ xs) h = (h x (contains_first x xs), each_rests Next xs (λ y c. h y (contains_later x xs y c)))

pub each_of : (Next : Desc → Type 0) (ds : List Desc) (x : Desc) → EachRests Next ds → Contains ds x → Next x
each_of Next [] x h c = absurd (omega (arith, c.1))
each_of Next (y ∷ ds) x h c = elim (contains_cases y ds x c) [ inl q ↦ subst Next q h.0 | inr k ↦ each_of Next ds x h.1 k ]

rests_found : (Next : Desc → Type 0) (o : Option Desc) → ((y : Desc) → o ≡ Some y → Next y) → MatchOption o ⊤ Next
rests_found Next None next = tt
rests_found Next (Some y) next = next y refl

module _ (table : List Definition) where
  -- a definition that is not among those left has led to here
  AreLeft : List Definition → Desc → Type 0
  AreLeft left d = (name : List ℕ) (y : Desc) → definition table name ≡ Some y → (definition left name ≡ Some y) ⊎ ((target : List ℕ) → Reaches table target d → Reaches table target y)

  none_taken : (d : Desc) → AreLeft table d
  unfolding AreLeft
  none_taken d name y f = inl f

  go_on : (left : List Definition) (d x : Desc) → ((target : List ℕ) → Reaches table target x → Reaches table target d) → AreLeft left d → AreLeft left x
  unfolding AreLeft
  go_on left d x step inv name y f = elim (inv name y f) [ inl a ↦ inl a | inr a ↦ inr (λ target r. a target (step target r)) ]

  take_out : (left : List Definition) (d y : Desc) (name : List ℕ) → definition table name ≡ Some y → ((target : List ℕ) → Reaches table target d → Reaches table target y) → AreLeft left d → AreLeft (without name left) d
  unfolding AreLeft
  take_out left d y name f led inv m z g =
      elim (same_or_not name m) [
        | inl s ↦ let q : Some z ≡ Some y = sym g ∙ ap (definition table) (sym s) ∙ f in let w : y ≡ z = cc q in inr (subst (λ (v : Desc). (target : List ℕ) → Reaches table target d → Reaches table target v) w led)
        | inr ne ↦ elim (inv m z g) [ inl a ↦ inl (definition_without left name m ne ∙ a) | inr a ↦ inr a ]
      ]

  pub is_right : (whole d : Desc) → TablePasses table → DescPasses table whole → IsPart table whole d → IsPlainlyRight table d
  is_right whole d passes right (of_whole s) = right d s
  is_right whole d passes right (of_table e c s) = passes.each e c d s

module _ (table : List Definition) (guarded : IsGuarded table) where
  -- a budget pays for the top of a descriptor and for those of the definitions left
  Budget : ℕ → Type 0
  Budget n = (left : List Definition) (d : Desc) → top d + tops left ≤ n → AreLeft table left d → Rests table n d

  ref_rests : (n : ℕ) → Budget n → (left : List Definition) (d : Desc) (name : List ℕ) → top d + tops left ≤ suc n → AreLeft table left d
      → out-Desc d ≡ Desc-F.Ref name → (y : Desc) → definition table name ≡ Some y → Rests table n y
  unfolding Budget AreLeft
  ref_rests n budget left d name le inv e y f =
      let (entry, i) = entry_found table name y f in
      let led : (target : List ℕ) → Reaches table target y → Reaches table target d = λ target r. through name y (named_here e) f r in
      elim (inv name y f) [
        | inl a ↦
            budget (without name left) y (omega (arith, le, tops_without left name y a, top_positive d))
            (take_out table left y y name f (λ target r. r) (go_on table left d y led inv))
        | inr back ↦
            let cycle : Reaches table name y = back name (at_once (named_here e)) in
            absurd (guarded entry i.inside (subst (λ (m : List ℕ). Reaches table m entry.desc) (sym i.named) (subst (Reaches table name) (sym i.is) cycle)))
      ]

  rests_by : (n : ℕ) → Budget n → (left : List Definition) (d : Desc) → top d + tops left ≤ suc n → AreLeft table left d
      → (z : DescLevel) → out-Desc d ≡ z → RestsBy table (Rests table n) z
  unfolding Budget
  rests_by n budget left d le inv Desc-F.Any e = tt
  rests_by n budget left d le inv Desc-F.Never e = tt
  rests_by n budget left d le inv Desc-F.Null e = tt
  rests_by n budget left d le inv Desc-F.Bool e = tt
  rests_by n budget left d le inv Desc-F.Char e = tt
  rests_by n budget left d le inv (Desc-F.Int kind min max) e = tt
  rests_by n budget left d le inv (Desc-F.Text min max format) e = tt
  rests_by n budget left d le inv (Desc-F.Enumeration ns) e = tt
  rests_by n budget left d le inv (Desc-F.List x min max) e = tt
  rests_by n budget left d le inv (Desc-F.Map x) e = tt
  rests_by n budget left d le inv (Desc-F.Struct fs deny) e = tt
  rests_by n budget left d le inv (Desc-F.External vs) e = tt
  rests_by n budget left d le inv (Desc-F.Tagged tag vs) e = tt
  rests_by n budget left d le inv (Desc-F.Option x) e =
      budget left x (omega (arith, le, top_at d _ e)) (go_on table left d x (through_option table x e) inv)
  rests_by n budget left d le inv (Desc-F.Untagged ds) e =
      each_rests (Rests table n) ds (λ x c. budget left x (omega (arith, le, top_at d _ e, map_sum top ds c.0 x c.1 c.2))
      (go_on table left d x (through_alternative table ds x e c) inv))
  rests_by n budget left d le inv (Desc-F.Ref name) e =
      rests_found (Rests table n) (definition table name) (ref_rests n budget left d name le inv e)

  rests_within : (n : ℕ) → Budget n
  unfolding Budget Rests
  rests_within zero left d le inv = absurd (omega (arith, top_positive d, le))
  rests_within (suc n) left d le inv = rests_by n (rests_within n) left d le inv (out-Desc d) refl

-- The steps are never spent.
pub guarded_rests : (table : List Definition) (whole : Desc) → IsGuarded table → AllRest table whole
unfolding AreLeft Budget room
guarded_rests table whole guarded d (of_whole s) =
    elim (stands_inside table whole d s) [
      | inl a ↦ rests_within table guarded (room table whole) table d (omega (arith, a.fewer, top_fits whole, tops_fit table)) (none_taken table d)
      | inr b ↦ rests_within table guarded (room table whole) table d (omega (arith, b, top_fits d, tops_fit table)) (none_taken table d)
    ]
guarded_rests table whole guarded d (of_table e c s) =
    elim (stands_inside table e.desc d s) [
      | inl a ↦ elim (found_or_hidden table e c) [
        | inl found ↦
            rests_within table guarded (room table whole) (without e.name table) d
            (omega (arith, a.fewer, tops_without table e.name e.desc found, tops_fit table))
            (take_out table table d e.desc e.name found a.reaches (none_taken table d))
        | inr h ↦
            rests_within table guarded (room table whole) h.less d
            (omega (arith, a.fewer, h.counted, tops_fit table))
            (λ name y f. inl (h.same name ∙ f))
      ]
      | inr b ↦ rests_within table guarded (room table whole) table d (omega (arith, b, top_fits d, other_tops_fit table c.0 e c.1 c.2)) (none_taken table d)
    ]
