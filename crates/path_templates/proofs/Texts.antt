-- Texts by their bytes and by their characters.
use Rattle.std.proofs.Common.{◌≡◌, ℕ, List, IsUtf8, ap, chars, sym, ◌∙◌}
use Rattle.std.proofs.Math.Utf8.{encodes}
use Rattle.std.proofs.lemmas.Bool.Decides.{same_from_decides}
use Rattle.std.proofs.lemmas.Slice.Eq.{bytes_eq-Decides}
use Rattle.std.proofs.lemmas.Str.{encodes-chars}
use Rattle.std.specs.Prelude.{bytes_eq}
use Rattle.schema_values.proofs.CallerLemmas.{chars-encoded}
use Rattle.path_templates.specs.Templates.{trimmed}
use Rattle.path_templates.proofs.Encoded.{trimmed-encoded}

-- two texts are the same by their bytes or by their characters
pub same_texts : (text other : List ℕ) → IsUtf8 text → IsUtf8 other → bytes_eq text other ≡ bytes_eq (chars text) (chars other)
same_texts text other text_utf8 other_utf8 =
    same_from_decides (bytes_eq text other) (bytes_eq (chars text) (chars other)) (bytes_eq-Decides text other) (
      λ h. let same = (bytes_eq-Decides (chars text) (chars other)).0 h in sym (encodes-chars text text_utf8) ∙ ap encodes same ∙ encodes-chars other other_utf8,
      λ e. (bytes_eq-Decides (chars text) (chars other)).1 (ap chars e),
    )

-- what is left of a text without a slash at its end
pub trimmed_text : (path front : List ℕ) → IsUtf8 path → front ≡ trimmed path → chars front ≡ trimmed (chars path)
trimmed_text path front utf8 is =
    ap chars (is ∙ ap trimmed (sym (encodes-chars path utf8)) ∙ trimmed-encoded (chars path)) ∙ chars-encoded (trimmed (chars path))
