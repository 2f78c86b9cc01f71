-- Values that a derived comparison takes for equal are the same: lemmas for the types that derive one.
use Rattle.std.proofs.Common.{◌≡◌, ◌∙◌, Bool, true, false, ◌&&◌, List, [], ◌∷◌, map, inl, inr, refl, sym, ap, true≢false}
use Rattle.std.specs.Cmp.Lexicographic.{pointwise}
use Rattle.std.specs.Prelude.{⊤}
use denote.Enum.Compared.{Each, by}
use denote.Enum.Declared.{Choice, Record}
use denote.Struct.Field.{Field}

infixr 20 ◌⨾◌
pub never : {P : Type 0} → false ≡ true → P
never e = absurd (true≢false (sym e))

pub both : (b c : Bool) → (b && c) ≡ true → (b ≡ true) × (c ≡ true)
both true c e = (refl, e)
both false c e = never e

-- what a test takes for equal to a value is that value
abbrev pub IsSameBy : {X : Type 0} → (X → X → Bool) → X → Type 0
IsSameBy {X} test x = (y : X) → test x y ≡ true → x ≡ y

-- the same of the fields that the variant of a value has
abbrev pub SameFields : (variants : List (List Field)) → Each Bool variants → Choice variants → Type 0
SameFields [] each c = ⊤
SameFields (fields ∷ rest) each (inl x) = IsSameBy each.0 x
SameFields (fields ∷ rest) each (inr c) = SameFields rest each.1 c

-- two values of an enum: one variant, with the same fields
same_variant : (variants : List (List Field)) (each : Each Bool variants) (c d : Choice variants) → SameFields variants each c → by false false variants each c d ≡ true → c ≡ d
same_variant [] each c d same e = absurd c
same_variant (fields ∷ rest) each (inl x) (inl y) same e = ap inl (same y e)
same_variant (fields ∷ rest) each (inl x) (inr d) same e = never e
same_variant (fields ∷ rest) each (inr c) (inl y) same e = never e
same_variant (fields ∷ rest) each (inr c) (inr d) same e = ap inr (same_variant rest each.1 c d same e)

-- two values of an enum, of which the first has the fields of a variant
pub same_value : (enum : Record) (each : Each Bool enum.parts) (x y : enum.D) (c : Choice enum.parts) → enum.as_values x ≡ c
    → SameFields enum.parts each c → by false false enum.parts each (enum.as_values x) (enum.as_values y) ≡ true → x ≡ y
same_value enum each x y c is same e =
    let told : by false false enum.parts each c (enum.as_values y) ≡ true = rw is at e in
    sym (enum.eta x) ∙ ap enum.make (is ∙ same_variant enum.parts each c (enum.as_values y) same told) ∙ enum.eta y

-- how the fields of a variant are compared, and those of the variants behind it
abbrev pub ◌⨾◌ : {A B : Type 0} → A → B → A × B
first ⨾ rest = (first, rest)

-- two lists of such values
pub same_each : {X : Type 0} (test : X → X → Bool) (es : List ((x : X) × IsSameBy test x)) → IsSameBy (pointwise test) (map (λ e. e.0) es)
same_each test [] [] e = refl
same_each test [] (y ∷ ys) e = never e
same_each test (x ∷ xs) [] e = never e
same_each test (x ∷ xs) (y ∷ ys) e =
    let b = both (test x.0 y) (pointwise test (map (λ k. k.0) xs) ys) e in
    λ i. x.1 y b.0 i ∷ same_each test xs ys b.1 i
