-- The texts that a reply line is written of: digits, lists, header lines and members.
use Rattle.std.proofs.Common.{◌≡◌, ℕ, zero, suc, ◌+◌, ◌/◌, ◌%◌, ◌<◌, Bool, true, ◌&&◌, List, [], ◌∷◌, ◌++◌}
use Rattle.std.proofs.Common.{append_assoc, append-nil, map, length, take, get_or, slice_index, bytes_eq, decimal, refl}
use Rattle.std.proofs.Common.{sym, ap, ◌∙◌, subst, arith}
use Rattle.std.specs.List.{flat_map}
use Rattle.std.proofs.lemmas.Bool.Decides.{Decides-below_and}
use Rattle.std.proofs.lemmas.Fmt.{decimal_digit, decimal_step}
use Rattle.std.proofs.lemmas.Grind.{flat_map-append}
use Rattle.std.proofs.lemmas.List.{take_more, map-append, length-map, length-take-le}
use Rattle.std.proofs.lemmas.Slice.Eq.{bytes_eq-Decides}
use Rattle.hex.specs.Hex.{encode_lower, encode_with, lower_digits}
use Rattle.http.specs.StatusCode.{IsStatusCode, code_digits}
use Rattle.http_header.specs.FieldValue.{FieldValue}
use Rattle.schema_values.specs.declared.json_value.Json.{Json, List as Items}
use Rattle.schema_values.specs.Print.{comma_before, compact_of, escape, joined}
use Rattle.schema_values.proofs.CallerLemmas.{compact-List, joined_from-push}
use Rattle.reply_lines.specs.ReplyLines.{ArePairsOf, IsPairOf}

-- ---- digits

-- the digit of a value below 16
abbrev pub digit_of : ℕ → ℕ
digit_of d = slice_index lower_digits d

abbrev is_plain : ℕ → Bool
is_plain d = bytes_eq (escape (digit_of d)) (digit_of d ∷ [])

abbrev plain_below : ℕ → Bool
plain_below zero = true
plain_below (suc n) = is_plain n && plain_below n

digit_plain : (d : ℕ) → d < 16 → escape (digit_of d) ≡ digit_of d ∷ []
unfolding escape
digit_plain =
    (Decides-below_and is_plain (λ d. escape (digit_of d) ≡ digit_of d ∷ []) plain_below
    (λ d. bytes_eq-Decides (escape (digit_of d)) (digit_of d ∷ [])) refl (λ _. refl) 16).0 refl

encode_push : (t bytes : List ℕ) (b : ℕ)
    → encode_with t (bytes ++ b ∷ []) ≡ encode_with t bytes ++ slice_index t (b / 16) ∷ slice_index t (b % 16) ∷ []
unfolding encode_with
encode_push t [] b = refl
encode_push t (first ∷ rest) b =
    ap (λ ds. slice_index t (first / 16) ∷ slice_index t (first % 16) ∷ ds) (encode_push t rest b)

two_pushed : (start text one two : List ℕ) → ((start ++ text) ++ one) ++ two ≡ start ++ (text ++ (one ++ (two ++ [])))
two_pushed start text one two = simp (append_assoc, append-nil)

-- one more byte is two more digits
pub byte_written : (bytes : List ℕ) (i : ℕ) (start before middle after : List ℕ) → i < length bytes
    → get_or bytes i 0 < 256
    → before ≡ start ++ flat_map escape (encode_lower (take i bytes))
    → middle ≡ before ++ digit_of (get_or bytes i 0 / 16) ∷ []
    → after ≡ middle ++ digit_of (get_or bytes i 0 % 16) ∷ []
    → after ≡ start ++ flat_map escape (encode_lower (take (i + 1) bytes))
byte_written bytes i start before middle after less small was high_put low_put =
    let byte = get_or bytes i 0 in
    let high = digit_of (byte / 16) in
    let low = digit_of (byte % 16) in
    let text = flat_map escape (encode_lower (take i bytes)) in
    let longer : encode_lower (take (i + 1) bytes) ≡ encode_lower (take i bytes) ++ high ∷ low ∷ [] =
    ap encode_lower (take_more bytes i 0 less) ∙ encode_push lower_digits (take i bytes) byte in
    low_put ∙ ap (λ out. out ++ low ∷ []) (high_put ∙ ap (λ out. out ++ high ∷ []) was)
    ∙ two_pushed start text (high ∷ []) (low ∷ [])
    ∙ ap (λ digits. start ++ (text ++ (digits ++ (low ∷ [] ++ [])))) (sym (digit_plain (byte / 16) (omega arith)))
    ∙ ap (λ digits. start ++ (text ++ (escape high ++ (digits ++ [])))) (sym (digit_plain (byte % 16) (omega arith)))
    ∙ ap (λ digits. start ++ digits)
    (sym (ap (flat_map escape) longer ∙ flat_map-append escape (encode_lower (take i bytes)) (high ∷ low ∷ [])))

-- the digits of a status are those of its number
pub status_digits : (n : ℕ) → IsStatusCode n → decimal n ≡ code_digits n
status_digits n is =
    let least = is.0 in
    let below = is.1 in
    let hundreds : n / 10 / 10 ≡ n / 100 = omega arith in
    decimal_step n (omega arith) (omega arith)
    ∙ ap (λ ds. ds ++ (48 + n % 10) ∷ [])
    (decimal_step (n / 10) (omega arith) (omega arith)
    ∙ ap (λ ds. ds ++ (48 + n / 10 % 10) ∷ []) (decimal_digit (n / 10 / 10) (omega arith)))
    ∙ ap (λ d. (48 + d) ∷ (48 + n / 10 % 10) ∷ (48 + n % 10) ∷ []) hundreds

-- ---- lists

between : (start open_mark texts close_mark : List ℕ)
    → ((start ++ open_mark) ++ texts) ++ close_mark ≡ start ++ (open_mark ++ (texts ++ close_mark))
between start open_mark texts close_mark = simp append_assoc

-- items between brackets are a list
pub list_text : (start : List ℕ) (jsons : List Json)
    → ((start ++ 91 ∷ []) ++ joined (map compact_of jsons)) ++ 93 ∷ [] ≡ start ++ compact_of (Items jsons)
list_text start jsons =
    between start (91 ∷ []) (joined (map compact_of jsons)) (93 ∷ [])
    ∙ ap (λ text. start ++ text) (sym (compact-List jsons))

-- two items between brackets
pub pair_text : (start : List ℕ) (one other : Json)
    → ((((start ++ 91 ∷ []) ++ compact_of one) ++ 44 ∷ []) ++ compact_of other) ++ 93 ∷ []
    ≡ start ++ compact_of (Items (one ∷ other ∷ []))
pair_text start one other =
    ap (λ text. text ++ 93 ∷ []) (two_pushed (start ++ 91 ∷ []) (compact_of one) (44 ∷ []) (compact_of other))
    ∙ list_text start (one ∷ other ∷ [])

joined_items : (jsons : List Json) (json : Json)
    → joined (map compact_of (jsons ++ json ∷ []))
    ≡ joined (map compact_of jsons) ++ (comma_before (length jsons) ++ compact_of json)
joined_items jsons json =
    ap joined (map-append compact_of jsons (json ∷ []))
    ∙ joined_from-push 0 (length jsons) (map compact_of jsons) (compact_of json)
    (omega (arith, length-map jsons compact_of))

-- ---- header lines

pairs_count : (lines : List (List ℕ × FieldValue)) (jsons : List Json) → ArePairsOf lines jsons
    → length jsons ≡ length lines
pairs_count [] [] pairs = refl
pairs_count [] (j ∷ jsons) pairs = absurd pairs
pairs_count (l ∷ lines) [] pairs = absurd pairs
pairs_count (l ∷ lines) (j ∷ jsons) pairs = ap suc (pairs_count lines jsons pairs.1)

-- one more line has one more pair
pairs_more : (lines : List (List ℕ × FieldValue)) (jsons : List Json) (i : ℕ) (line : List ℕ × FieldValue) (json : Json)
    → i < length lines → line ≡ get_or lines i line → ArePairsOf (take i lines) jsons → IsPairOf line json
    → ArePairsOf (take (suc i) lines) (jsons ++ json ∷ [])
pairs_more [] jsons i line json less at pairs pair = absurd (omega (arith, less))
pairs_more (l ∷ lines) [] zero line json less at pairs pair = (subst (λ one. IsPairOf one json) at pair, tt)
pairs_more (l ∷ lines) (j ∷ jsons) zero line json less at pairs pair = absurd pairs
pairs_more (l ∷ lines) [] (suc i) line json less at pairs pair = absurd pairs
pairs_more (l ∷ lines) (j ∷ jsons) (suc i) line json less at pairs pair =
    (pairs.0, pairs_more lines jsons i line json (omega (arith, less)) at pairs.1 pair)

-- the pairs of some lines, and their texts with commas between them behind a text
abbrev pub PairsWritten : List (List ℕ × FieldValue) → List ℕ → List ℕ → Type 0
PairsWritten lines start out =
    (jsons : List Json) × ArePairsOf lines jsons × (out ≡ start ++ joined (map compact_of jsons))

pub no_pair_written : (start : List ℕ) → PairsWritten [] start start
no_pair_written start = ([], tt, sym (append-nil start))

-- one more line is one more pair
pub pair_written : (lines : List (List ℕ × FieldValue)) (i : ℕ) (line : List ℕ × FieldValue)
    (start before comma after : List ℕ) → i < length lines → line ≡ get_or lines i line
    → PairsWritten (take i lines) start before → comma ≡ before ++ comma_before i
    → ((json : Json) × IsPairOf line json × (after ≡ comma ++ compact_of json))
    → PairsWritten (take (i + 1) lines) start after
pair_written lines i line start before comma after less at (jsons, pairs, was) next (json, pair, now) =
    let count : length jsons ≡ i = pairs_count (take i lines) jsons pairs ∙ length-take-le i lines (omega arith) in
    let on : suc i ≡ i + 1 = omega arith in (
      jsons ++ json ∷ [],
      subst (λ n. ArePairsOf (take n lines) (jsons ++ json ∷ [])) on
          (pairs_more lines jsons i line json less at pairs pair),
      now ∙ ap (λ out. out ++ compact_of json) (next ∙ ap (λ out. out ++ comma_before i) was)
          ∙ between start (joined (map compact_of jsons)) (comma_before i) (compact_of json)
          ∙ ap (λ n. start ++ (joined (map compact_of jsons) ++ (comma_before n ++ compact_of json))) (sym count)
          ∙ ap (λ texts. start ++ texts) (sym (joined_items jsons json)),
    )
