-- The derived comparisons of parts that all descriptors and trees have: texts, numbers, and what may be missing.
use Rattle.std.proofs.Common.{ℕ, ℤ, Bool, List, [], ◌∷◌, Option, Some, None, option_map, nat_eq, bytes_eq, refl, sym, ap, true≢false}
use Rattle.std.proofs.lemmas.Slice.Eq.{bytes_eq-Decides}
use Rattle.std.specs.Bool.{beq}
use Rattle.std.specs.Cmp.{unsigned_Decides, signed_Decides, booleans_Decides}
use Rattle.std.specs.Cmp.Lexicographic.{pointwise}
use Rattle.std.specs.Option.{option_eq}
use Rattle.std.specs.Ordering.{int_eq}
use Rattle.schema_values.proofs.CallerLemmas.{IsSameBy, both}

pub same_truth : (b : Bool) → IsSameBy beq b
same_truth b c e = (booleans_Decides b c).0 e

pub same_count : (n : ℕ) → IsSameBy nat_eq n
same_count n m e = (unsigned_Decides n m).0 e

pub same_number : (n : ℤ) → IsSameBy int_eq n
same_number n m e = (signed_Decides n m).0 e

pub same_text : (t : List ℕ) → IsSameBy bytes_eq t
same_text t u e = (bytes_eq-Decides t u).0 e

-- what may be missing, of items that are known to be told apart
pub same_known : {X : Type 0} (test : X → X → Bool) (o : Option ((x : X) × IsSameBy test x)) → IsSameBy (option_eq test) (option_map (λ k. k.0) o)
same_known test None None e = refl
same_known test None (Some y) e = absurd (true≢false (sym e))
same_known test (Some x) None e = absurd (true≢false (sym e))
same_known test (Some x) (Some y) e = ap Some (x.1 y e)

pub same_option : {X : Type 0} (test : X → X → Bool) → ((x : X) → IsSameBy test x) → (o : Option X) → IsSameBy (option_eq test) o
same_option test same None None e = refl
same_option test same None (Some y) e = absurd (true≢false (sym e))
same_option test same (Some x) None e = absurd (true≢false (sym e))
same_option test same (Some x) (Some y) e = ap Some (same x y e)

pub same_list : {X : Type 0} (test : X → X → Bool) → ((x : X) → IsSameBy test x) → (xs : List X) → IsSameBy (pointwise test) xs
same_list test same [] [] e = refl
same_list test same [] (y ∷ ys) e = absurd (true≢false (sym e))
same_list test same (x ∷ xs) [] e = absurd (true≢false (sym e))
same_list test same (x ∷ xs) (y ∷ ys) e =
    let b = both (test x y) (pointwise test xs ys) e in
    λ i. same x y b.0 i ∷ same_list test same xs ys b.1 i
