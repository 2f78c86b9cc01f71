-- What follows an ASCII prefix, in characters and in bytes.
use Rattle.std.proofs.Common.{◌≡◌, ◌≢◌, ℕ, Bool, true, false, cond, List, [], ◌∷◌, ◌++◌, ◌+◌, drop, length, Option, Some, None, option_map, nat_eq, Bor, MatchOption, IsUtf8, chars, refl, sym, ◌∙◌, ap, true≢false}
use Rattle.std.specs.Str.{IsAscii}
use Rattle.std.specs.Str.Pattern.{FindsTextPrefix}
use Rattle.std.proofs.lemmas.Bool.{eqb-true}
use Rattle.std.proofs.lemmas.Bool.Decides.{Decides-eqb}
use Rattle.std.proofs.lemmas.Str.{chars-append, chars-IsAscii, encodes-chars, encodes-append, encodes-IsAscii}
use Rattle.std.proofs.Math.Utf8.{encodes}
use Rattle.request_words.specs.Prefixes.{after}

pub after_prefix : (prefix text : List ℕ) → after prefix (prefix ++ text) ≡ Some text
after_prefix [] text = refl
after_prefix (c ∷ prefix) text = go (nat_eq c c) refl (after_prefix prefix text)
  where
    go : (b : Bool) → nat_eq c c ≡ b → after prefix (prefix ++ text) ≡ Some text → cond b (after prefix (prefix ++ text)) None ≡ Some text
    go true e h = h
    go false e h = absurd (true≢false (sym ((Decides-eqb c c).1 refl) ∙ e))

after_if : (b : Bool) (c d : ℕ) (o : Option (List ℕ)) (prefix text rest : List ℕ) → nat_eq c d ≡ b → (o ≡ Some rest → text ≡ prefix ++ rest) → cond b o None ≡ Some rest → d ∷ text ≡ c ∷ (prefix ++ rest)
after_if true c d o prefix text rest e h f = ap (λ x. x ∷ text) (sym (eqb-true c d e)) ∙ ap (λ xs. c ∷ xs) (h f)
after_if false c d o prefix text rest e h f = absurd (cc f)

after_some : (prefix text rest : List ℕ) → after prefix text ≡ Some rest → text ≡ prefix ++ rest
after_some [] text rest h = cc h
after_some (c ∷ prefix) [] rest h = absurd (cc h)
after_some (c ∷ prefix) (d ∷ text) rest h = after_if (nat_eq c d) c d (after prefix text) prefix text rest refl (after_some prefix text rest) h

lacking : (prefix text : List ℕ) → IsAscii prefix → IsUtf8 text → ((rest : List ℕ) → text ≢ prefix ++ rest) → (o : Option (List ℕ)) → after prefix (chars text) ≡ o → None ≡ o
lacking prefix text ascii v h None e = refl
lacking prefix text ascii v h (Some t) e =
    absurd (h (encodes t) (sym (encodes-chars text v) ∙ ap encodes (after_some prefix (chars text) t e) ∙ encodes-append prefix t ∙ ap (λ p. p ++ encodes t) (encodes-IsAscii prefix ascii)))

pub after_cases : (prefix text : List ℕ) → IsAscii prefix → IsUtf8 prefix → IsUtf8 text → (r : Option (Bor (List ℕ)))
    → MatchOption r (FindsTextPrefix prefix text None) (λ x. (n : ℕ) × FindsTextPrefix prefix text (Some n) × (x.now ≡ drop n text) × (length x.now + n ≡ length text))
    → option_map (λ x. chars x.now) r ≡ after prefix (chars text)
after_cases prefix text ascii u v None h = lacking prefix text ascii v h (after prefix (chars text)) refl
after_cases prefix text ascii u v (Some x) h =
    let split : text ≡ prefix ++ x.now = h.1.1 ∙ ap (λ t. prefix ++ t) (sym h.2) in
    let letters : chars text ≡ prefix ++ chars x.now = ap chars split ∙ chars-append prefix x.now u ∙ ap (λ p. p ++ chars x.now) (chars-IsAscii prefix ascii) in
    sym (ap (after prefix) letters ∙ after_prefix prefix (chars x.now))
