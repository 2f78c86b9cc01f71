use Rattle.std.proofs.Common.{◌≡◌, ◌↔◌, ◌||◌, ℕ, Bool, List, IsTrue, ap, bytes_eq, chars, codes, refl, subst, sym, ◌∙◌}
use Rattle.std.proofs.lemmas.Bool.Decides.{same_from_decides}
use Rattle.std.proofs.lemmas.Slice.Eq.{bytes_eq-Decides}
use Rattle.schema_values.specs.Ascii.{all_ascii}
use Rattle.schema_values.proofs.CallerLemmas.{chars-all_ascii}
use Rattle.endpoint_checks.proofs.slots.is_page_name.Goals as goal

-- whether a name is an ASCII word
tells : (b : Bool) (name word : List ℕ) → IsTrue (all_ascii word) → (IsTrue b ↔ (name ≡ chars word)) → b ≡ bytes_eq name word
tells b name word ascii is =
    same_from_decides b (bytes_eq name word) (subst (λ w. IsTrue b ↔ (name ≡ w)) (chars-all_ascii word ascii) is) (bytes_eq-Decides name word)

pub returns-then-equals_str : goal.returns-then-equals_str
returns-then-equals_str c =
    let name = c.args.name.now in
    let limit = tells c.equals_str.result name (codes "limit") refl c.equals_str.ensures in
    c.if-equals_str.true ∙ sym (ap (λ b. b || bytes_eq name (codes "page_token")) (sym limit ∙ c.if-equals_str.true))

pub returns-else-equals_str : goal.returns-else-equals_str
returns-else-equals_str c =
    let name = c.args.name.now in
    let limit = tells c.equals_str.result name (codes "limit") refl c.equals_str.ensures in
    let token = tells c.equals_str-else-equals_str.result name (codes "page_token") refl c.equals_str-else-equals_str.ensures in
    token ∙ sym (ap (λ b. b || bytes_eq name (codes "page_token")) (sym limit ∙ c.if-equals_str.false))
