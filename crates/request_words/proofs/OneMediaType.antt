-- No media type is both one of JSON and that of forms.
use Rattle.std.proofs.Common.{◌≡◌, ℕ, true, false, List, Option, Some, None, IsTrue, codes, refl, sym, ◌∙◌, ap}
use Rattle.std.specs.Option.{option_map_or}
use Rattle.std.proofs.lemmas.Slice.Eq.{bytes_eq-Decides}
use Rattle.request_words.specs.declared.request.HeaderLine.{HeaderLine}
use Rattle.request_words.specs.MediaTypes.{media_type, is_json_type, is_form_type, HasJsonType, HasFormType}

no_form : (type : List ℕ) → is_json_type type ≡ true → is_form_type type ≡ true → ⊥
no_form type json form =
    let is : codes "application/x-www-form-urlencoded" ≡ type = (bytes_eq-Decides (codes "application/x-www-form-urlencoded") type).0 form in
    let other : is_json_type (codes "application/x-www-form-urlencoded") ≡ false = refl in
    absurd (cc (json, ap is_json_type (sym is) ∙ other))

not_both : (o : Option (List ℕ)) → IsTrue (option_map_or is_json_type o false) → IsTrue (option_map_or is_form_type o false) → ⊥
not_both None json form = absurd (cc json)
not_both (Some type) json form = no_form type json form

pub json_or_form : (lines : List HeaderLine) → HasJsonType lines → HasFormType lines → ⊥
json_or_form lines json form = not_both (media_type lines) json form
