use Rattle.std.proofs.Common.{◌≡◌, ℕ, true, IsTrue, List, [], ◌∷◌, refl, sym, ◌∙◌, subst, rules, tests, true≢false}
use Rattle.std.specs.List.{AllByRecursion, list_all}
use Rattle.std.specs.Str.{chars}
use Rattle.std.proofs.lemmas.Bool.{and_parts}
use Rattle.std.proofs.lemmas.Str.{chars-nil}
use Rattle.std.proofs.lemmas.Iterator.{YieldsList-from_chars}
use Rattle.std.proofs.lemmas.Iterator.Search.{all_from_yields_List}
use Rattle.typed_values.specs.Checks.{is_name_character}
use Rattle.typed_values.proofs.Within.{untrue}
use Rattle.typed_values.proofs.check.is_name.Goals as goal

abbrev AreNameCharacters : List ℕ → Type 0
AreNameCharacters = AllByRecursion (λ c. IsTrue (is_name_character c))

to_all : (xs : List ℕ) → list_all is_name_character xs ≡ true → AreNameCharacters xs
to_all [] h = tt
to_all (x ∷ xs) h = let (here, rest) = and_parts (is_name_character x) (list_all is_name_character xs) h in (here, to_all xs rest)

from_all : (xs : List ℕ) → AreNameCharacters xs → list_all is_name_character xs ≡ true
from_all [] h = refl
from_all (x ∷ xs) h = rw (h.0) (from_all xs h.1)

pub returns-then-not-equals_str : goal.returns-then-not-equals_str
returns-then-not-equals_str c =
    let text = c.as_str.result.now in
    let all = all_from_yields_List is_name_character _ _ _ c.all.ensures.ran (YieldsList-from_chars text c.as_str.utf8 cc) (λ x b q k. search (rules, tests)) in
    let some = untrue c.equals_str.ensures c.if-not-equals_str.true in (
      λ h. (λ e. some (e ∙ sym chars-nil), subst AreNameCharacters (sym c.as_str.ensures) (to_all (chars text) (sym all ∙ h))),
      λ h. all ∙ from_all (chars text) (subst AreNameCharacters c.as_str.ensures h.1),
    )

pub returns-else-not-equals_str : goal.returns-else-not-equals_str
returns-else-not-equals_str c =
    let none = c.equals_str.ensures.0 c.if-not-equals_str.false ∙ chars-nil in
    rw c.if-not-equals_str.false (λ h. absurd (true≢false (sym h)), λ h. absurd (h.0 none))
