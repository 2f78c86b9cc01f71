-- The pairs of a query and of a form (URL Standard, section 5.1, `application/x-www-form-urlencoded` parsing).
use Rattle.std.specs.Prelude.{ℕ, Bool, true, false, List, [], ◌∷◌, map, filter, Option, Some, None, bytes_eq}
use Rattle.std.specs.Str.{chars, encode_utf8_all}
use Rattle.std.specs.Str.Lossy.{utf8_lossy}
use Rattle.form_urlencoded.specs.Form.{raw_pairs, decode}
use Rattle.request_words.specs.declared.pairs.NamedText.{NamedText}

-- the text that a name or a value stands for: a plus is a space, percent signs are decoded, and what is not UTF-8 in it is replaced
abbrev pub decoded : List ℕ → List ℕ
decoded bytes = chars (utf8_lossy (decode bytes))

-- a name and a value, decoded
abbrev pub decoded_pair : List ℕ × List ℕ → NamedText
decoded_pair pair = record { name = decoded pair.0; value = decoded pair.1 }

-- the pairs of bytes, in order
abbrev pub form_pairs : List ℕ → List NamedText
form_pairs bytes = map decoded_pair (raw_pairs bytes)

-- the pairs of a query, in order (URL Standard, section 6.2)
abbrev pub query_pairs : List ℕ → List NamedText
query_pairs query = form_pairs (encode_utf8_all query)

-- the name of a pair
abbrev pub pair_name : NamedText → List ℕ
pair_name pair = pair.name

-- the values of a name, in order
abbrev pub values_of : List ℕ → List NamedText → List (List ℕ)
values_of name pairs = map (λ pair. pair.value) (filter (λ pair. bytes_eq pair.name name) pairs)

-- the last of some texts
abbrev pub last_text : List (List ℕ) → Option (List ℕ)
last_text [] = None
last_text (text ∷ []) = Some text
last_text (text ∷ other ∷ texts) = last_text (other ∷ texts)

-- the last value of a name
abbrev pub last_value : List ℕ → List NamedText → Option (List ℕ)
last_value name pairs = last_text (values_of name pairs)

-- at least one
abbrev pub are_some : List (List ℕ) → Bool
are_some [] = false
are_some (text ∷ texts) = true

-- whether a pair has a name
abbrev pub has_pair : List NamedText → List ℕ → Bool
has_pair pairs name = are_some (values_of name pairs)

-- more than one
abbrev pub are_several : List (List ℕ) → Bool
are_several [] = false
are_several (text ∷ []) = false
are_several (text ∷ other ∷ texts) = true

-- whether a name stands more than once
abbrev pub is_doubled : List NamedText → List ℕ → Bool
is_doubled pairs name = are_several (values_of name pairs)
