-- The bytes of a media type are shown.
use Rattle.std.proofs.Common.{◌≡◌, ℕ, zero, suc, ◌+◌, Bool, true, false, ◌&&◌, cond, nat_lt, List, [], ◌∷◌, take}
use Rattle.std.proofs.Common.{Option, Some, None, IfOk, IfSome, IsTrue, IsUtf8, chars, rules, refl, sym, ap₂, subst}
use Rattle.std.proofs.Common.{arith}
use Rattle.std.proofs.lemmas.Bool.{and_parts}
use Rattle.std.proofs.lemmas.Bool.Decides.{nat_tests}
use Rattle.std.proofs.lemmas.Str.{chars-IsAscii, IsUtf8-from_ascii}
use Rattle.std.specs.Char.{to_ascii_lowercase}
use Rattle.std.specs.List.{list_all, position_or_len}
use Rattle.std.specs.Option.{option_map_or}
use Rattle.std.specs.Prelude.{codes, ◌==◌}
use Rattle.std.specs.declared.result.Result.{Result}
use Rattle.std.specs.declared.result.Result.TheVariants.{Ok, Err}
use Rattle.schema_values.specs.Ascii.{all_ascii}
use Rattle.schema_values.proofs.CallerLemmas.{IsAscii-from_test}
use Rattle.request_words.specs.declared.request.HeaderLine.{HeaderLine}
use Rattle.request_words.specs.HeaderLines.{all_shown, first_line, is_blank, is_shown, lower}
use Rattle.request_words.specs.MediaTypes.{before_parameters, media_type, type_of_value, without_end}
use Rattle.request_parts.specs.declared.content_type.ApiEndpointBodyContentType.{ApiEndpointBodyContentType}
use Rattle.request_parts.specs.declared.content_type.ApiEndpointBodyContentType.TheVariants.{Bytes, Json, UrlEncoded}
use Rattle.request_parts.specs.declared.content_type.ApiEndpointBodyContentType.TheVariants.{MultipartFormData}
use Rattle.request_parts.specs.ContentTypes.{mime_of}

-- the media type of a kind is ASCII
pub mime_ascii : (kind : ApiEndpointBodyContentType) → IsTrue (all_ascii (mime_of kind))
mime_ascii Bytes = refl
mime_ascii Json = refl
mime_ascii UrlEncoded = refl
mime_ascii MultipartFormData = refl

-- ---- shown bytes are a text, and its characters

shown_below : (byte : ℕ) → is_shown byte ≡ true → nat_lt byte 128 ≡ true
shown_below byte h = search rules

shown_ascii : (value : List ℕ) → all_shown value ≡ true → all_ascii value ≡ true
shown_ascii [] h = refl
shown_ascii (byte ∷ value) h =
    let parts = and_parts (is_shown byte) (all_shown value) h in ap₂ (λ (a b : Bool). a && b)
    (shown_below byte parts.0) (shown_ascii value parts.1)

pub shown_utf8 : (value : List ℕ) → all_shown value ≡ true → IsUtf8 value
shown_utf8 value h = IsUtf8-from_ascii value (IsAscii-from_test value (shown_ascii value h))

pub shown_chars : (value : List ℕ) → all_shown value ≡ true → chars value ≡ value
shown_chars value h = chars-IsAscii value (IsAscii-from_test value (shown_ascii value h))

-- ---- the bytes of the media type of a request are shown

shown_front : (n : ℕ) (value : List ℕ) → all_shown value ≡ true → all_shown (take n value) ≡ true
shown_front zero [] h = refl
shown_front zero (byte ∷ value) h = refl
shown_front (suc n) [] h = refl
shown_front (suc n) (byte ∷ value) h =
    let parts = and_parts (is_shown byte) (all_shown value) h in ap₂ (λ (a b : Bool). a && b) parts.0
    (shown_front n value parts.1)

shown_without_end : (value : List ℕ) → all_shown value ≡ true → all_shown (without_end value) ≡ true
shown_without_end [] h = refl
shown_without_end (byte ∷ value) h =
    let parts = and_parts (is_shown byte) (all_shown value) h in by_end (list_all is_blank (byte ∷ value)) parts.0
    (shown_without_end value parts.1)
  where
    by_end : (b : Bool) → is_shown byte ≡ true → all_shown (without_end value) ≡ true
        → all_shown (cond b [] (byte ∷ without_end value)) ≡ true
    by_end true one rest = refl
    by_end false one rest = ap₂ (λ (a b : Bool). a && b) one rest

shown_letter : (byte : ℕ) → is_shown byte ≡ true → is_shown (to_ascii_lowercase byte) ≡ true
shown_letter byte h = by_tests (nat_lt byte 65) refl (nat_lt byte 91) refl
  where
    by_tests : (low : Bool) → nat_lt byte 65 ≡ low → (high : Bool) → nat_lt byte 91 ≡ high
        → is_shown (cond low byte (cond high (byte + 32) byte)) ≡ true
    by_tests true p high q = h
    by_tests false p true q = grind (arith, nat_tests, p, q)
    by_tests false p false q = h

shown_lower : (value : List ℕ) → all_shown value ≡ true → all_shown (lower value) ≡ true
shown_lower [] h = refl
shown_lower (byte ∷ value) h =
    let parts = and_parts (is_shown byte) (all_shown value) h in ap₂ (λ (a b : Bool). a && b)
    (shown_letter byte parts.0) (shown_lower value parts.1)

shown_type : (value media : List ℕ) → type_of_value value ≡ Some media → all_shown media ≡ true
shown_type value media e = by_shown (all_shown value) refl e
  where
    by_shown : (b : Bool) → all_shown value ≡ b
        → cond b (Some (lower (without_end (before_parameters value)))) None ≡ Some media → all_shown media ≡ true
    by_shown true is e =
        let same : lower (without_end (before_parameters value)) ≡ media = cc e in
        subst (λ (m : List ℕ). all_shown m ≡ true) same
        (shown_lower (without_end (before_parameters value))
        (shown_without_end (before_parameters value)
        (shown_front (position_or_len (λ byte. byte == 0x3B) value) value is)))
    by_shown false is e = absurd (cc e)

media_shown : (o : Option (List ℕ)) (media : List ℕ)
    → option_map_or type_of_value o (Some (codes "application/json")) ≡ Some media → all_shown media ≡ true
media_shown None media e =
    let same : codes "application/json" ≡ media = cc e in subst (λ (m : List ℕ). all_shown m ≡ true) same refl
media_shown (Some value) media e = shown_type value media e

-- the media type of a request, where there is one
pub result_shown : {E : Type 0} (lines : List HeaderLine) (result : Result (Option (List ℕ)) E)
    → IfOk result (λ media. media ≡ media_type lines) → IfOk result (λ media. IfSome media (λ m. all_shown m ≡ true))
result_shown lines (Ok None) is = tt
result_shown lines (Ok (Some media)) is = media_shown (first_line (codes "content-type") lines) media (sym is)
result_shown lines (Err error) is = tt
