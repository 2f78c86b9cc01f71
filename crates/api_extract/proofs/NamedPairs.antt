-- The values of a name among pairs, and the last of them.
use Rattle.std.proofs.Common.{◌≡◌, ℕ, List, [], ◌∷◌, ◌++◌, map, filter, Bool, true, false, cond, bytes_eq, Bor, Option, Some, None, refl, ◌∙◌, ap}
use Rattle.std.specs.Prelude.{unwrap_or, option_copied}
use Rattle.request_words.specs.declared.pairs.NamedText.{NamedText}
use Rattle.request_words.specs.Pairs.{last_text, last_value, values_of}

last_behind : (texts : List (List ℕ)) (text : List ℕ) → last_text (texts ++ text ∷ []) ≡ Some text
last_behind [] text = refl
last_behind (first ∷ []) text = refl
last_behind (first ∷ second ∷ texts) text = last_behind (second ∷ texts) text

-- the values of a name, with one pair more behind
pub value_here : (name : List ℕ) (pairs : List NamedText) (pair : NamedText) → bytes_eq pair.name name ≡ true → values_of name (pairs ++ pair ∷ []) ≡ values_of name pairs ++ pair.value ∷ []
value_here name [] pair h = ap (λ (b : Bool). map (λ pair. pair.value) (cond b (pair ∷ []) [])) h
value_here name (first ∷ pairs) pair h = by_test (bytes_eq first.name name) (value_here name pairs pair h)
  where
    by_test : (b : Bool) → values_of name (pairs ++ pair ∷ []) ≡ values_of name pairs ++ pair.value ∷ []
        → map (λ pair. pair.value) (cond b (first ∷ filter (λ pair. bytes_eq pair.name name) (pairs ++ pair ∷ [])) (filter (λ pair. bytes_eq pair.name name) (pairs ++ pair ∷ [])))
        ≡ map (λ pair. pair.value) (cond b (first ∷ filter (λ pair. bytes_eq pair.name name) pairs) (filter (λ pair. bytes_eq pair.name name) pairs)) ++ pair.value ∷ []
    by_test true e = ap (λ (texts : List (List ℕ)). first.value ∷ texts) e
    by_test false e = e

pub value_elsewhere : (name : List ℕ) (pairs : List NamedText) (pair : NamedText) → bytes_eq pair.name name ≡ false → values_of name (pairs ++ pair ∷ []) ≡ values_of name pairs
value_elsewhere name [] pair h = ap (λ (b : Bool). map (λ pair. pair.value) (cond b (pair ∷ []) [])) h
value_elsewhere name (first ∷ pairs) pair h = by_test (bytes_eq first.name name) (value_elsewhere name pairs pair h)
  where
    by_test : (b : Bool) → values_of name (pairs ++ pair ∷ []) ≡ values_of name pairs
        → map (λ pair. pair.value) (cond b (first ∷ filter (λ pair. bytes_eq pair.name name) (pairs ++ pair ∷ [])) (filter (λ pair. bytes_eq pair.name name) (pairs ++ pair ∷ [])))
        ≡ map (λ pair. pair.value) (cond b (first ∷ filter (λ pair. bytes_eq pair.name name) pairs) (filter (λ pair. bytes_eq pair.name name) pairs))
    by_test true e = ap (λ (texts : List (List ℕ)). first.value ∷ texts) e
    by_test false e = e

-- ---- the last value of a name, by its values

pub last_is : (name : List ℕ) (pairs : List NamedText) (earlier : List (List ℕ)) (text : List ℕ) → values_of name pairs ≡ earlier ++ text ∷ [] → last_value name pairs ≡ Some text
last_is name pairs earlier text e = ap last_text e ∙ last_behind earlier text

-- ---- a text that may be lacking

pub or_else : (text : Option (Bor (List ℕ))) (other : Bor (List ℕ)) → (unwrap_or text other).now ≡ unwrap_or (option_copied text) other.now
or_else None other = refl
or_else (Some text) other = refl
