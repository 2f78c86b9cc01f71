-- What slots of pages ask for, with one more slot.
use Rattle.std.proofs.Common.{◌≡◌, ℕ, ◌+◌, ◌<◌, length, get_or, List, [], ◌∷◌, ◌++◌, take, drop, Option, Some, None}
use Rattle.std.proofs.Common.{◌⊎◌, inl, inr, refl, sym, ◌∙◌, ap, subst, arith}
use Rattle.std.proofs.lemmas.List.{take-append-drop, take_more}
use Rattle.std.proofs.lemmas.List.Elements.{Contains-append_left, Contains-push_cases}
use Rattle.std.specs.Option.{option_or}
use Rattle.std.specs.Prelude.{Contains}
use Rattle.schema_values.proofs.CallerLemmas.{contains_cases, contains_first, contains_later}
use Rattle.descriptors.specs.declared.table.Definition.{Definition}
use Rattle.handler_shapes.specs.declared.slot.Slot.{Slot}
use Rattle.endpoint_metadata.specs.declared.extension.ExtensionMode.{ExtensionMode}
use Rattle.endpoint_metadata.specs.declared.extension.ExtensionMode.TheVariants as mode
use Rattle.endpoint_metadata.specs.Modes.{AskAlike, AskFor, mode_of, PageNames, first_asked, asked_names}

or_none : (pages : Option PageNames) → option_or pages None ≡ pages
or_none None = refl
or_none (Some names) = refl

or_or : (one other third : Option PageNames)
    → option_or one (option_or other third) ≡ option_or (option_or one other) third
or_or None other third = refl
or_or (Some names) other third = refl

-- the names of a mode of pages
pub paginated : (pages : Option PageNames) (names : PageNames) → mode_of pages ≡ mode.Paginated names
    → pages ≡ Some names
paginated None names e = absurd (cc e)
paginated (Some other) names e = cc e

module _ (table : List Definition) where
  -- one more slot counts where none before it is of pages
  pub pages_last : (slots : List Slot) (slot : Slot)
      → first_asked table (slots ++ slot ∷ []) ≡ option_or (first_asked table slots) (asked_names table slot)
  pages_last [] slot = or_none (asked_names table slot)
  pages_last (first ∷ slots) slot =
      ap (option_or (asked_names table first)) (pages_last slots slot)
      ∙ or_or (asked_names table first) (first_asked table slots) (asked_names table slot)

  -- the first slot of pages asks
  pub first_asks : (slots : List Slot) (names : PageNames) → first_asked table slots ≡ Some names
      → AskFor table slots names
  first_asks [] names e = absurd (cc e)
  first_asks (slot ∷ slots) names e = by_slot (first_asks slots names) (asked_names table slot) refl
    where
      by_slot : (first_asked table slots ≡ Some names → AskFor table slots names) → (pages : Option PageNames)
          → asked_names table slot ≡ pages → AskFor table (slot ∷ slots) names
      by_slot later None is =
          let rest = later (sym (ap (λ p. option_or p (first_asked table slots)) is) ∙ e) in
          (rest.0, contains_later slot slots rest.0 rest.1, rest.2)
      by_slot later (Some asked) is =
          (slot, contains_first slot slots, is ∙ sym (ap (λ p. option_or p (first_asked table slots)) is) ∙ e)

  -- no slot asks where none is of pages
  none_asks : (slots : List Slot) → first_asked table slots ≡ None → (names : PageNames) → AskFor table slots names → ⊥
  none_asks [] e names asks = absurd (omega (arith, asks.1.1))
  none_asks (slot ∷ slots) e names asks =
      by_slot (λ none later. none_asks slots none names later) (asked_names table slot) refl
    where
      by_slot : (first_asked table slots ≡ None → AskFor table slots names → ⊥) → (pages : Option PageNames)
          → asked_names table slot ≡ pages → ⊥
      by_slot later (Some asked) is = absurd (cc (sym (ap (λ p. option_or p (first_asked table slots)) is) ∙ e))
      by_slot later None is = by_place (contains_cases slot slots asks.0 asks.1)
        where
          by_place : (slot ≡ asks.0) ⊎ Contains slots asks.0 → ⊥
          by_place (inl same) = absurd (cc (sym is ∙ ap (asked_names table) same ∙ asks.2))
          by_place (inr inside) =
              later (sym (ap (λ p. option_or p (first_asked table slots)) is) ∙ e) (asks.0, inside, asks.2)

  -- what is asked for by some of the slots
  pub ask_within : (slots : List Slot) (i : ℕ) (names : PageNames) → AskFor table (take i slots) names
      → AskFor table slots names
  ask_within slots i names asks = (
    asks.0,
    subst (λ (xs : List Slot). Contains xs asks.0) (take-append-drop i slots)
        (Contains-append_left (take i slots) (drop i slots) asks.0 asks.1),
    asks.2,
  )

  -- the mode stays where one more slot is not of pages
  pub mode_kept : (slots : List Slot) (slot : Slot) (m : ExtensionMode) → asked_names table slot ≡ None
      → m ≡ mode_of (first_asked table slots) → m ≡ mode_of (first_asked table (slots ++ slot ∷ []))
  mode_kept slots slot m none is =
      is ∙ ap mode_of
      (sym (pages_last slots slot ∙ ap (option_or (first_asked table slots)) none
      ∙ or_none (first_asked table slots)))

  -- and it is that of one more slot of pages, where this asks for the same names as the first
  pub mode_joined : (slots : List Slot) (slot : Slot) (names : PageNames) → asked_names table slot ≡ Some names
      → ((first : PageNames) → first_asked table slots ≡ Some first → first ≡ names)
      → mode.Paginated names ≡ mode_of (first_asked table (slots ++ slot ∷ []))
  mode_joined slots slot names some same = by_first (first_asked table slots) refl
    where
      by_first : (pages : Option PageNames) → first_asked table slots ≡ pages
          → mode.Paginated names ≡ mode_of (first_asked table (slots ++ slot ∷ []))
      by_first None none =
          ap mode_of (sym (pages_last slots slot ∙ ap (λ p. option_or p (asked_names table slot)) none ∙ some))
      by_first (Some first) is =
          ap mode.Paginated (sym (same first is))
          ∙ ap mode_of (sym (pages_last slots slot ∙ ap (λ p. option_or p (asked_names table slot)) is))

  module _ (slots : List Slot) (slot : Slot) (alike : AskAlike table slots)
      (same : (first names : PageNames) → first_asked table slots ≡ Some first → asked_names table slot ≡ Some names
      → first ≡ names) where
    as_last : (one other : PageNames) → AskFor table slots one → asked_names table slot ≡ Some other → one ≡ other
    as_last one other asks is = by_first (first_asked table slots) refl
      where
        by_first : (pages : Option PageNames) → first_asked table slots ≡ pages → one ≡ other
        by_first None none = absurd (none_asks slots none one asks)
        by_first (Some first) some = alike one first asks (first_asks slots first some) ∙ same first other some is

    -- one more slot asks for the same names as the first
    pub alike_last : AskAlike table (slots ++ slot ∷ [])
    alike_last one other asks others =
        by_places (Contains-push_cases slots slot asks.0 asks.1) (Contains-push_cases slots slot others.0 others.1)
      where
        by_places : Contains slots asks.0 ⊎ (slot ≡ asks.0) → Contains slots others.0 ⊎ (slot ≡ others.0) → one ≡ other
        by_places (inl c) (inl d) = alike one other (asks.0, c, asks.2) (others.0, d, others.2)
        by_places (inl c) (inr e) = as_last one other (asks.0, c, asks.2) (ap (asked_names table) e ∙ others.2)
        by_places (inr e) (inl d) = sym (as_last other one (others.0, d, others.2) (ap (asked_names table) e ∙ asks.2))
        by_places (inr e) (inr f) = cc (sym (ap (asked_names table) e ∙ asks.2) ∙ ap (asked_names table) f ∙ others.2)

-- the slots before the next one, and that one
pub one_more_slot : (slots : List Slot) (i : ℕ) (slot : Slot) → i < length slots → slot ≡ get_or slots i slot
    → take (i + 1) slots ≡ take i slots ++ slot ∷ []
one_more_slot slots i slot less at = take_more slots i slot less ∙ ap (λ s. take i slots ++ s ∷ []) (sym at)
