-- A slash at the end of a text is one character and one byte.
use Rattle.std.proofs.Common.{◌≡◌, ℕ, ◌+◌, ◌%◌, ◌<◌, ◌≤◌, List, [], ◌∷◌, ◌++◌, Bool, true, false, cond, ◌==◌, inl, inr, refl, sym, ap, ◌∙◌, arith, append-nil}
use Rattle.std.specs.Str.{encode_utf8_all}
use Rattle.std.proofs.Math.Utf8.{encode}
use Rattle.schema_values.proofs.CallerLemmas.{Bytes, one, two, three, four, bytes_of}
use Rattle.std.proofs.lemmas.Bool.{cases_lt}
use Rattle.std.proofs.lemmas.Str.{encode_ascii}
use Rattle.path_templates.specs.Templates.{cut_slash, trimmed}

-- ---- a slash at the end

first_byte : (c : ℕ) → Bytes c → (r : ℕ) × (rs : List ℕ) × (encode c ≡ r ∷ rs)
first_byte c (one h e) = (_, _, e)
first_byte c (two low high e) = (_, _, e)
first_byte c (three low high e) = (_, _, e)
first_byte c (four low e) = (_, _, e)

-- the last byte of a character behind the first 128 is no slash
no_slash : (n : ℕ) → ((128 + n % 64) == 47) ≡ false
no_slash n = grind arith

cut_further : (c : ℕ) → 128 ≤ c → Bytes c → (cut_slash (encode c) ≡ encode c) × (trimmed (encode c) ≡ encode c)
cut_further c h (one low e) = absurd (omega (arith, h, low))
cut_further c h (two low high e) = rw (e, no_slash c) (refl, refl)
cut_further c h (three low high e) = rw (e, no_slash c) (refl, refl)
cut_further c h (four low e) = rw (e, no_slash c) (refl, refl)

cut_low : (c : ℕ) (b : Bool) → c < 128 → cond b [] (c ∷ []) ≡ encode_utf8_all (cond b [] (c ∷ []))
cut_low c true h = refl
cut_low c false h = sym (append-nil (encode c) ∙ encode_ascii c h)

cut_one : (c : ℕ) → cut_slash (encode c ++ []) ≡ encode_utf8_all (cut_slash (c ∷ []))
cut_one c = elim (cases_lt c 128) [
  | inl h ↦ ap cut_slash (append-nil (encode c) ∙ encode_ascii c h) ∙ cut_low c (c == 47) h
  | inr h ↦
      let other : (c == 47) ≡ false = grind arith in
      ap cut_slash (append-nil (encode c)) ∙ (cut_further c h (bytes_of c)).0 ∙ sym (append-nil (encode c)) ∙ sym (ap (λ (b : Bool). encode_utf8_all (cond b [] (c ∷ []))) other)
]

-- what begins is cut no shorter where more follows
cut_later : (bs rest : List ℕ) (r : ℕ) → cut_slash (bs ++ r ∷ rest) ≡ bs ++ cut_slash (r ∷ rest)
cut_later [] rest r = refl
cut_later (b ∷ []) rest r = refl
cut_later (b ∷ c ∷ bs) rest r = ap (λ (l : List ℕ). b ∷ l) (cut_later (c ∷ bs) rest r)

trimmed_longer : (b : ℕ) (bs rest : List ℕ) (r : ℕ) → trimmed (b ∷ (bs ++ r ∷ rest)) ≡ cut_slash (b ∷ (bs ++ r ∷ rest))
trimmed_longer b [] rest r = refl
trimmed_longer b (c ∷ bs) rest r = refl

later_bytes : (d : ℕ) (cs : List ℕ) → (r : ℕ) × (rs : List ℕ) × (encode_utf8_all (d ∷ cs) ≡ r ∷ rs)
later_bytes d cs = let f = first_byte d (bytes_of d) in (f.0, f.1 ++ encode_utf8_all cs, ap (λ (l : List ℕ). l ++ encode_utf8_all cs) f.2)

cut_all : (cs : List ℕ) → cut_slash (encode_utf8_all cs) ≡ encode_utf8_all (cut_slash cs)
cut_all [] = refl
cut_all (c ∷ []) = cut_one c
cut_all (c ∷ d ∷ cs) =
    let l = later_bytes d cs in
    ap (λ (bs : List ℕ). cut_slash (encode c ++ bs)) l.2
    ∙ cut_later (encode c) l.1 l.0
    ∙ ap (λ (bs : List ℕ). encode c ++ cut_slash bs) (sym l.2)
    ∙ ap (λ (bs : List ℕ). encode c ++ bs) (cut_all (d ∷ cs))

pub trimmed-encoded : (cs : List ℕ) → trimmed (encode_utf8_all cs) ≡ encode_utf8_all (trimmed cs)
trimmed-encoded [] = refl
trimmed-encoded (c ∷ []) = elim (cases_lt c 128) [
  | inl h ↦ rw (append-nil (encode c), encode_ascii c h) refl
  | inr h ↦ rw (append-nil (encode c)) (cut_further c h (bytes_of c)).1
]
trimmed-encoded (c ∷ d ∷ cs) =
    let f = first_byte c (bytes_of c) in
    let l = later_bytes d cs in
    ap trimmed (ap (λ (bs : List ℕ). bs ++ encode_utf8_all (d ∷ cs)) f.2 ∙ ap (λ (bs : List ℕ). f.0 ∷ (f.1 ++ bs)) l.2)
    ∙ trimmed_longer f.0 f.1 l.1 l.0
    ∙ ap cut_slash (sym (ap (λ (bs : List ℕ). bs ++ encode_utf8_all (d ∷ cs)) f.2 ∙ ap (λ (bs : List ℕ). f.0 ∷ (f.1 ++ bs)) l.2))
    ∙ cut_all (c ∷ d ∷ cs)
