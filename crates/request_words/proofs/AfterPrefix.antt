-- What follows a prefix of some bytes.
use Rattle.std.proofs.Common.{◌≡◌, ℕ, ◌+◌, Bool, true, false, ◌&&◌, cond, List, [], ◌∷◌, take, drop, length, Option, Some, None, option_map, nat_eq, bytes_eq, Bor, MatchOption, refl, sym, ◌∙◌, ap}
use Rattle.std.specs.Cmp.{nat_eq_equiv}
use Rattle.request_words.specs.Prefixes.{after}

-- the front of the bytes tells whether something follows, and what is behind it does
after_front : (prefix bytes : List ℕ) → cond (bytes_eq (take (length prefix) bytes) prefix) (Some (drop (length prefix) bytes)) None ≡ after prefix bytes
after_front [] bytes = refl
after_front (c ∷ prefix) [] = refl
after_front (c ∷ prefix) (d ∷ bytes) = first_told (nat_eq d c) (nat_eq c d) (nat_eq_equiv.symm d c) (after_front prefix bytes)
  where
    first_told : (b same : Bool) → b ≡ same → cond (bytes_eq (take (length prefix) bytes) prefix) (Some (drop (length prefix) bytes)) None ≡ after prefix bytes → cond (b && bytes_eq (take (length prefix) bytes) prefix) (Some (drop (length prefix) bytes)) None ≡ cond same (after prefix bytes) None
    first_told true same e later = later ∙ ap (λ t. cond t (after prefix bytes) None) e
    first_told false same e later = ap (λ t. cond t (after prefix bytes) None) e

-- what is left of the bytes, where the prefix is taken off them
pub stripped : (prefix bytes : List ℕ) (r : Option (Bor (List ℕ))) → MatchOption r (bytes_eq (take (length prefix) bytes) prefix ≡ false) (λ x. (bytes_eq (take (length prefix) bytes) prefix ≡ true) × (x.now ≡ drop (length prefix) bytes) × (length x.now + length prefix ≡ length bytes)) → option_map (λ x. x.now) r ≡ after prefix bytes
stripped prefix bytes None h = sym (ap (λ t. cond t (Some (drop (length prefix) bytes)) None) h) ∙ after_front prefix bytes
stripped prefix bytes (Some x) h = ap Some h.1 ∙ sym (ap (λ t. cond t (Some (drop (length prefix) bytes)) None) h.0) ∙ after_front prefix bytes
