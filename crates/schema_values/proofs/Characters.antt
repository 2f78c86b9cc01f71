-- The bytes of characters spell these characters.
use Rattle.std.proofs.Common.{◌≡◌, ℕ, zero, suc, ◌+◌, ◌-◌, ◌*◌, ◌/◌, ◌%◌, List, [], ◌∷◌, ◌++◌, refl, ap, ◌∙◌, arith}
use Rattle.std.specs.Str.{chars, chars_after, continuation_len, lead_bits, encode_utf8_all}
use Rattle.std.proofs.Math.Utf8.{encode}
use Rattle.std.proofs.lemmas.Str.{chars-nil}
use Rattle.schema_values.proofs.Utf8Order.{Bytes, one, two, three, four, bytes_of}

at_end : (c : ℕ) (bs : List ℕ) → chars_after zero c bs ≡ c ∷ chars bs
unfolding chars
at_end c [] = refl
at_end c (b ∷ bs) = refl

begun : (a n v : ℕ) (bs : List ℕ) → continuation_len a ≡ n → lead_bits a ≡ v → chars (a ∷ bs) ≡ chars_after n v bs
unfolding chars
begun a n v bs p q = rw (← p, ← q) refl

by_bytes : (c : ℕ) (rest : List ℕ) → Bytes c → chars (encode c ++ rest) ≡ c ∷ chars rest
by_bytes c rest (one h e) = ap (λ (bs : List ℕ). chars (bs ++ rest)) e ∙ begun c 0 c rest (grind arith) (grind arith) ∙ at_end c rest
by_bytes c rest (two low high e) =
    let is : (c / 64) * 64 + (128 + c % 64 - 128) ≡ c = omega arith in
    ap (λ (bs : List ℕ). chars (bs ++ rest)) e
    ∙ begun (192 + c / 64) (suc zero) (c / 64) ((128 + c % 64) ∷ rest) (grind arith) (grind arith)
    ∙ at_end _ rest ∙ ap (λ (x : ℕ). x ∷ chars rest) is
by_bytes c rest (three low high e) =
    let is : ((c / 4096) * 64 + (128 + (c / 64) % 64 - 128)) * 64 + (128 + c % 64 - 128) ≡ c = omega arith in
    ap (λ (bs : List ℕ). chars (bs ++ rest)) e
    ∙ begun (224 + c / 4096) (suc (suc zero)) (c / 4096) ((128 + (c / 64) % 64) ∷ (128 + c % 64) ∷ rest) (grind arith) (grind arith)
    ∙ at_end _ rest ∙ ap (λ (x : ℕ). x ∷ chars rest) is
by_bytes c rest (four low e) =
    let is : (((c / 262144) * 64 + (128 + (c / 4096) % 64 - 128)) * 64 + (128 + (c / 64) % 64 - 128)) * 64 + (128 + c % 64 - 128) ≡ c = omega arith in
    ap (λ (bs : List ℕ). chars (bs ++ rest)) e
    ∙ begun (240 + c / 262144) (suc (suc (suc zero))) (c / 262144) ((128 + (c / 4096) % 64) ∷ (128 + (c / 64) % 64) ∷ (128 + c % 64) ∷ rest) (grind arith) (grind arith)
    ∙ at_end _ rest ∙ ap (λ (x : ℕ). x ∷ chars rest) is

pub chars-encoded : (cs : List ℕ) → chars (encode_utf8_all cs) ≡ cs
chars-encoded [] = chars-nil
chars-encoded (c ∷ cs) = by_bytes c (encode_utf8_all cs) (bytes_of c) ∙ ap (λ (l : List ℕ). c ∷ l) (chars-encoded cs)
