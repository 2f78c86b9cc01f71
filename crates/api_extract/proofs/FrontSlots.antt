-- The slots before the one that takes the body, and what all slots are given by what those are given.
use Rattle.std.proofs.Common.{◌≡◌, ℕ, Bool, true, false, not, ◌||◌, cond, List, [], ◌∷◌, ◌++◌, filter, refl, ◌∙◌, ap}
use Rattle.std.proofs.Common.{ap₂}
use Rattle.std.specs.Prelude.{⊤}
use Rattle.std.specs.List.{AllByRecursion, list_any}
use Rattle.std.specs.declared.result.Result.{Result}
use Rattle.http_bodies.specs.Bodies.{BodyState}
use Rattle.body_reading.specs.declared.whole.BodyError.{BodyError}
use Rattle.request_parts.specs.Requests.{Request}
use Rattle.handler_shapes.specs.declared.slot.Slot.{Slot}
use Rattle.handler_shapes.specs.declared.slot.Slot.TheVariants.{Path, Query, Header, PagedQuery, TypedBody, RawBody}
use Rattle.handler_shapes.specs.declared.slot.Slot.TheVariants.{StreamBody}
use Rattle.handler_shapes.specs.BodySlots.{BodyComesLast, takes_body}
use Rattle.api_extract.specs.Denotes.{GivenArgs, Terms, args_by, before_args}
use Rattle.api_extract.specs.Extraction.{plainly_told, reads_body, slot_given, takes_stream}
use Rattle.api_extract.specs.Refusals.{GivenArg}
use Rattle.api_extract.proofs.SlotLists.{args_joined, behind}

-- a slot that takes no body
abbrev pub TakesNone : Slot → Type 0
TakesNone slot = takes_body slot ≡ false

-- ---- what is before the body

-- a body that comes last has slots before it that take none
pub front_takes_none : (front : List Slot) (last : Slot) → BodyComesLast (front ++ last ∷ [])
    → AllByRecursion TakesNone front
front_takes_none [] last h = tt
front_takes_none (slot ∷ []) last h = (h.0, tt)
front_takes_none (slot ∷ next ∷ front) last h = (h.0, front_takes_none (next ∷ front) last h.1)

-- where the last one takes none either, none does
pub none_takes : (front : List Slot) (last : Slot) → AllByRecursion TakesNone front → TakesNone last
    → AllByRecursion TakesNone (front ++ last ∷ [])
none_takes [] last h l = (l, tt)
none_takes (slot ∷ front) last h l = (h.0, none_takes front last h.1 l)

-- nothing stands behind the others, or the slot that takes the body
abbrev pub IsBodyAlone : List Slot → Type 0
IsBodyAlone [] = ⊤
IsBodyAlone (slot ∷ []) = takes_body slot ≡ true
IsBodyAlone (slot ∷ next ∷ slots) = ⊥

pub keeps_front : (front rest : List Slot) → AllByRecursion TakesNone front → IsBodyAlone rest
    → filter (λ slot. not (takes_body slot)) (front ++ rest) ≡ front
keeps_front [] [] h alone = refl
keeps_front [] (slot ∷ []) h alone = ap (λ (b : Bool). cond (not b) (slot ∷ []) []) alone
keeps_front [] (slot ∷ next ∷ rest) h alone = absurd alone
keeps_front (slot ∷ front) rest h alone =
    ap (λ (b : Bool). cond (not b) (slot ∷ filter (λ slot. not (takes_body slot)) (front ++ rest))
    (filter (λ slot. not (takes_body slot)) (front ++ rest))) h.0
    ∙ ap (λ (slots : List Slot). slot ∷ slots) (keeps_front front rest h.1 alone)

-- no slot that takes no body passes a test
abbrev pub OnlyBodies : (Slot → Bool) → Type 0
OnlyBodies test = (slot : Slot) → TakesNone slot → test slot ≡ false

pub takes_only : OnlyBodies takes_body
takes_only slot h = h

pub streams_only : OnlyBodies takes_stream
streams_only (Path desc) h = refl
streams_only (Query desc) h = refl
streams_only (Header desc) h = refl
streams_only (PagedQuery scan selector selector_table) h = refl
streams_only (TypedBody desc name) h = refl
streams_only RawBody h = refl
streams_only StreamBody h = absurd (cc h)

pub reads_only : OnlyBodies reads_body
reads_only (Path desc) h = refl
reads_only (Query desc) h = refl
reads_only (Header desc) h = refl
reads_only (PagedQuery scan selector selector_table) h = refl
reads_only (TypedBody desc name) h = h
reads_only RawBody h = h
reads_only StreamBody h = refl

-- so that it is passed behind them or nowhere
pub any_behind : (test : Slot → Bool) → OnlyBodies test → (front rest : List Slot) → AllByRecursion TakesNone front
    → list_any test (front ++ rest) ≡ list_any test rest
any_behind test only [] rest h = refl
any_behind test only (slot ∷ front) rest h =
    ap (λ (b : Bool). b || list_any test (front ++ rest)) (only slot h.0) ∙ any_behind test only front rest h.1

-- ---- what they are given, whatever the body is

same_args : (one other : Slot → GivenArg) → ((slot : Slot) → TakesNone slot → one slot ≡ other slot)
    → (slots : List Slot) → AllByRecursion TakesNone slots → args_by one slots ≡ args_by other slots
same_args one other same [] h = refl
same_args one other same (slot ∷ slots) h = ap₂ before_args (same slot h.0) (same_args one other same slots h.1)

module _ (terms : Terms) (request : Request) (read : Result (List ℕ) BodyError) (body : BodyState) where
  plain_given : (slot : Slot) → TakesNone slot
      → slot_given terms request read body slot ≡ plainly_told terms.table request slot
  plain_given (Path desc) h = refl
  plain_given (Query desc) h = refl
  plain_given (Header desc) h = refl
  plain_given (PagedQuery scan selector selector_table) h = refl
  plain_given (TypedBody desc name) h = absurd (cc h)
  plain_given RawBody h = absurd (cc h)
  plain_given StreamBody h = absurd (cc h)

  pub given_joined : (front rest : List Slot) → AllByRecursion TakesNone front
      → args_by (slot_given terms request read body) (front ++ rest)
      ≡ behind (args_by (plainly_told terms.table request) front)
      (args_by (slot_given terms request read body) rest)
  given_joined front rest h =
      let given = slot_given terms request read body in
      args_joined given front rest
      ∙ ap (λ (some : GivenArgs). behind some (args_by given rest))
      (same_args given (plainly_told terms.table request) plain_given front h)
