-- The text of places, one more at a time.
use Rattle.std.proofs.Common.{◌≡◌, ℕ, ◌+◌, ◌<◌, List, [], ◌∷◌, ◌++◌, refl, sym, ◌∙◌, ap, length, drop, get_or, reverse}
use Rattle.std.proofs.lemmas.List.{drop_more, reverse-append, append_assoc, append-nil}
use Rattle.typed_values.specs.declared.fault.Place.{Place}
use Rattle.typed_values.specs.Faults.{place_behind, places_behind}

places_behind-append : (xs ys : List Place) → places_behind (xs ++ ys) ≡ places_behind xs ++ places_behind ys
places_behind-append [] ys = refl
places_behind-append (x ∷ xs) ys = ap (λ (t : List ℕ). place_behind x ++ t) (places_behind-append xs ys) ∙ sym (append_assoc (place_behind x) (places_behind xs) (places_behind ys))

reverse_more : (places : List Place) (i : ℕ) (place : Place) → i < length places → place ≡ get_or places i place → places_behind (reverse (drop i places)) ≡ places_behind (reverse (drop (i + 1) places)) ++ place_behind place
reverse_more places i place h is =
    ap (λ (ps : List Place). places_behind (reverse ps)) (drop_more places i place h ∙ ap (λ (p : Place). p ∷ drop (i + 1) places) (sym is))
    ∙ ap places_behind (reverse-append (place ∷ []) (drop (i + 1) places))
    ∙ places_behind-append (reverse (drop (i + 1) places)) (place ∷ [])
    ∙ ap (λ (t : List ℕ). places_behind (reverse (drop (i + 1) places)) ++ t) (append-nil (place_behind place))

-- the text so far has the places from j on, and gets the one before
pub behind_more : (places : List Place) (i j : ℕ) (place : Place) → i + 1 ≡ j → i < length places → place ≡ get_or places i place
    → (old text : List ℕ) → text ≡ old ++ places_behind (reverse (drop j places)) → text ++ place_behind place ≡ old ++ places_behind (reverse (drop i places))
behind_more places i j place next h is old text e =
    ap (λ (t : List ℕ). t ++ place_behind place) (e ∙ ap (λ (k : ℕ). old ++ places_behind (reverse (drop k places))) (sym next))
    ∙ append_assoc old (places_behind (reverse (drop (i + 1) places))) (place_behind place)
    ∙ ap (λ (t : List ℕ). old ++ t) (sym (reverse_more places i place h is))
