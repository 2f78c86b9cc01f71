-- Segments that may stand together.
use Rattle.std.proofs.Common.{◌≡◌, ◌∙◌, ℕ, Bool, not, ◌&&◌, List, [], ◌∷◌, ◌++◌, Some, refl, inl, inr}
use Rattle.std.specs.List.{list_all, list_any}
use Rattle.std.proofs.lemmas.Bool.{cases_Bool}
use Rattle.std.specs.Prelude.{bytes_eq}
use Rattle.schema_values.specs.SoundTest.{are_distinct}
use Rattle.path_templates.specs.Templates.{has_name, is_wildcard, is_wildcard_last, name_in, names_of}
use Rattle.path_templates.specs.Variables.{is_named}
use Rattle.path_templates.specs.declared.segment.PathSegment.{PathSegment}
use Rattle.path_templates.specs.declared.segment.PathSegment.TheVariants.{Literal, VarnameSegment, VarnameWildcard}

-- no segment but the last is a wildcard where none of those before it is
pub wildcard_last : (front : List PathSegment) (s : PathSegment)
    → is_wildcard_last (front ++ s ∷ []) ≡ not (list_any is_wildcard front)
wildcard_last [] s = refl
wildcard_last (t ∷ []) s = elim (cases_Bool (is_wildcard t)) [ inl here ↦ rw here refl | inr other ↦ rw other refl ]
wildcard_last (t ∷ u ∷ front) s =
    let rest = wildcard_last (u ∷ front) s in
    elim (cases_Bool (is_wildcard t)) [ inl here ↦ rw here refl | inr other ↦ rw (other, rest) refl ]

-- the names lack a name where the segments do
any_named : (name : List ℕ) (others : List PathSegment)
    → list_all (λ other. not (bytes_eq name other)) (names_of others)
    ≡ list_all (λ other. not (has_name name other)) others
any_named name [] = refl
any_named name (Literal text ∷ others) = any_named name others
any_named name (VarnameSegment own ∷ others) = rw (any_named name others) refl
any_named name (VarnameWildcard own ∷ others) = rw (any_named name others) refl

-- all fail a test where none passes it
all_fail : {X : Type 0} (test : X → Bool) (xs : List X) → list_all (λ x. not (test x)) xs ≡ not (list_any test xs)
all_fail test [] = refl
all_fail test (x ∷ xs) =
    elim (cases_Bool (test x)) [ inl here ↦ rw here refl | inr other ↦ rw (other, all_fail test xs) refl ]

-- a name is new where no other segment has it
new_name : (name : List ℕ) (others : List PathSegment)
    → list_all (λ other. not (bytes_eq name other)) (names_of others) ≡ not (is_named others name)
new_name name others = any_named name others ∙ all_fail (has_name name) others

-- names are distinct where the first is new and the others are
pub named_first : (s : PathSegment) (name : List ℕ) (rest : List PathSegment) → Some name ≡ name_in s
    → are_distinct (names_of (s ∷ rest)) ≡ (not (is_named rest name) && are_distinct (names_of rest))
named_first (Literal text) name rest e = absurd (cc e)
named_first (VarnameSegment own) name rest e = let same : name ≡ own = cc e in rw (same, new_name own rest) refl
named_first (VarnameWildcard own) name rest e = let same : name ≡ own = cc e in rw (same, new_name own rest) refl
