-- Slots that are asked for in turn: what they add, and why they are refused.
use Rattle.std.proofs.Common.{◌≡◌, List, [], ◌∷◌, ◌++◌, inl, inr, refl, sym, subst, Result, Ok, Err}
use Rattle.std.specs.Prelude.{IfErr, IsErrAnd}
use Rattle.descriptors.specs.declared.desc.Desc.{Desc}
use Rattle.descriptors.specs.declared.table.AddError.{AddError}
use Rattle.descriptors.specs.declared.table.Definition.{Definition}
use Rattle.api_types.specs.Additions.{with_all}
use Rattle.api_types.specs.Types.{HoldsAll}
use Rattle.api_types.proofs.CallerLemmas.{first_refused, second_refused}
use Rattle.typed_extractors.specs.Selectors.{HaveOwnTables}
use Rattle.typed_extractors.specs.SlotAdditions.{AreSlotsRefused, HaveTables, SomeRefused}

-- some selectors and others have their tables
pub both_have : (own others : List (List Definition)) → HaveTables own → HaveTables others → HaveTables (own ++ others)
both_have [] others left right = right
both_have (ds ∷ own) others left right = (left.0, both_have own others left.1 right)

pub have_left : (own others : List (List Definition)) → HaveTables (own ++ others) → HaveTables own
have_left [] others all = tt
have_left (ds ∷ own) others all = (all.0, have_left own others all.1)

pub have_right : (own others : List (List Definition)) → HaveTables (own ++ others) → HaveTables others
have_right [] others all = all
have_right (ds ∷ own) others all = have_right own others all.1

-- each of some selectors and of others has its own
pub both_own : (own others : List (List Definition)) (first later : List (Desc × List Definition))
    → HaveOwnTables own first → HaveOwnTables others later → HaveOwnTables (own ++ others) (first ++ later)
both_own [] others [] later left right = right
both_own [] others (one ∷ first) later left right = absurd left
both_own (ds ∷ own) others [] later left right = absurd left
both_own (ds ∷ own) others (one ∷ first) later left right = (left.0, both_own own others first later left.1 right)

-- one of some selectors that is refused is one of some and others
refused_left : (own others : List (List Definition)) (error : AddError)
    → SomeRefused own error → SomeRefused (own ++ others) error
refused_left [] others error refused = absurd refused
refused_left (ds ∷ own) others error refused =
    elim refused [ inl here ↦ inl here | inr later ↦ inr (refused_left own others error later) ]

refused_right : (own others : List (List Definition)) (error : AddError)
    → SomeRefused others error → SomeRefused (own ++ others) error
refused_right [] others error refused = refused
refused_right (ds ∷ own) others error refused = inr (refused_right own others error refused)

-- an error that is handed on is the one that was answered
pub handed_on : {T : Type 0} (result : Result T AddError) (error : AddError) (P : AddError → Type 0)
    → IsErrAnd result (λ e. e ≡ error) → P error → IfErr result P
handed_on (Ok value) error P is holds = absurd is
handed_on (Err e) error P is holds = subst P (sym is) holds

module _ (table ds es : List Definition) (own others : List (List Definition)) (error : AddError) where
  abbrev answer : Result (List Definition) AddError
  answer = Err error

  -- what refuses the first slot refuses all
  pub first_slot_refused : AreSlotsRefused table ds own error → AreSlotsRefused table (ds ++ es) (own ++ others) error
  first_slot_refused refused =
      elim refused [
        | inl clash ↦ inl (first_refused answer error table ds es table refl clash).refused
        | inr selector ↦ inr (refused_left own others error selector)
      ]

  -- so does what refuses the other slots, once the first has added its definitions
  pub other_slot_refused : (middle : List Definition) → middle ≡ with_all table ds → HoldsAll middle ds
      → AreSlotsRefused middle es others error → AreSlotsRefused table (ds ++ es) (own ++ others) error
  other_slot_refused middle added held refused =
      elim refused [
        | inl clash ↦ inl (second_refused answer error table ds es middle table refl added held clash).refused
        | inr selector ↦ inr (refused_right own others error selector)
      ]
