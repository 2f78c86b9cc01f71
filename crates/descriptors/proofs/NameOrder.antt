-- The order of names.
use Rattle.std.proofs.Common.{◌≡◌, ◌≢◌, ℕ, false, List, [], ◌∷◌, Less, Equal, Greater, nat_cmp, is_lt, refl, sym, ◌∙◌, ap, ap₂}
use Rattle.std.proofs.lemmas.Cmp.{nat_list_cmp_total, ranked, tied_itself}
use Rattle.std.specs.Cmp.Lexicographic.{slice_cmp}
use Rattle.std.specs.declared.cmp.Ordering.{Ordering}
use Rattle.std.specs.Ordering.{ordering_reverse, ordering_then}

same_number : (a b : ℕ) → nat_cmp a b ≡ Equal → a ≡ b
same_number a b e = ranked a b Equal (sym e)

both_equal : (o p : Ordering) → ordering_then o p ≡ Equal → (o ≡ Equal) × (p ≡ Equal)
both_equal Less p e = absurd (cc e)
both_equal Equal p e = (refl, e)
both_equal Greater p e = absurd (cc e)

-- names that tie are one
pub same_text : (k l : List ℕ) → slice_cmp nat_cmp k l ≡ Equal → k ≡ l
same_text [] [] e = refl
same_text [] (y ∷ ys) e = absurd (cc e)
same_text (x ∷ xs) [] e = absurd (cc e)
same_text (x ∷ xs) (y ∷ ys) e =
    let parts = both_equal (nat_cmp x y) (slice_cmp nat_cmp xs ys) e in
    ap₂ (λ (z : ℕ) (zs : List ℕ). z ∷ zs) (same_number x y parts.0) (same_text xs ys parts.1)

pub apart : (k l : List ℕ) → slice_cmp nat_cmp k l ≢ Equal → k ≢ l
apart k l other e = other (ap (λ (n : List ℕ). slice_cmp nat_cmp n l) e ∙ tied_itself nat_list_cmp_total l)

pub not_below : (k l : List ℕ) → slice_cmp nat_cmp k l ≡ Less → is_lt (slice_cmp nat_cmp l k) ≡ false
not_below k l e = ap is_lt (nat_list_cmp_total.antisymm l k ∙ ap ordering_reverse e)

-- names of which neither is before the other are one
pub same_unless : (k l : List ℕ) (o : Ordering) → slice_cmp nat_cmp k l ≡ o → is_lt o ≡ false → is_lt (ordering_reverse o) ≡ false → k ≡ l
same_unless k l Less e low high = absurd (cc low)
same_unless k l Equal e low high = same_text k l e
same_unless k l Greater e low high = absurd (cc high)
