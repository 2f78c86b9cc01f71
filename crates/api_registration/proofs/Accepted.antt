-- Endpoints each of which may stand behind those before it.
use Rattle.std.proofs.Common.{List, [], ◌∷◌, ◌++◌, subst, sym, append_assoc, arith}
use Rattle.std.specs.Prelude.{All, AllPairs, Contains}
use Rattle.std.proofs.lemmas.List.{append-nil}
use Rattle.std.proofs.lemmas.List.Elements.{All-cons, All-nil, Contains-append_left, Contains-push}
use Rattle.std.proofs.lemmas.List.Kept.{AllPairs-cons}
use Rattle.api_declarations.specs.Values.{DeclarationValue}
use Rattle.api_registration.specs.Accepted.{EachBehind}

module _ (May : List DeclarationValue → DeclarationValue → Type 0) where
  -- one more at the end
  pub accepted_behind : (before es : List DeclarationValue) (e : DeclarationValue) → EachBehind May before es → May (before ++ es) e → EachBehind May before (es ++ e ∷ [])
  accepted_behind before [] e accepted may = (subst (λ xs. May xs e) (append-nil before) may, tt)
  accepted_behind before (x ∷ es) e accepted may =
      (accepted.0, accepted_behind (before ++ x ∷ []) es e accepted.1 (subst (λ xs. May xs e) (sym (append_assoc before (x ∷ []) es)) may))

  -- what each of them has that may stand behind others, whatever these are
  pub each_accepted : (Has : DeclarationValue → Type 0) → ((before : List DeclarationValue) (e : DeclarationValue) → May before e → Has e)
      → (before es : List DeclarationValue) → EachBehind May before es → All Has es
  each_accepted Has each before [] accepted = All-nil Has
  each_accepted Has each before (e ∷ es) accepted = All-cons Has e es (each before e accepted.0) (each_accepted Has each (before ++ e ∷ []) es accepted.1)

  module _ (R : DeclarationValue → DeclarationValue → Type 0)
      (each : (before : List DeclarationValue) (e : DeclarationValue) → May before e → (other : DeclarationValue) → Contains before other → R other e) where
    -- what each meets with those before it, one of those meets with each behind it
    pub behind_one : (before es : List DeclarationValue) → EachBehind May before es → (other : DeclarationValue) → Contains before other → All (R other) es
    behind_one before [] accepted other inside = All-nil (R other)
    behind_one before (e ∷ es) accepted other inside =
        All-cons (R other) e es (each before e accepted.0 other inside) (behind_one (before ++ e ∷ []) es accepted.1 other (Contains-append_left before (e ∷ []) other inside))

    -- and each two of them do
    pub pairs_accepted : (before es : List DeclarationValue) → EachBehind May before es → AllPairs R es
    pairs_accepted before [] accepted = λ i j d up low. absurd (omega (arith, low))
    pairs_accepted before (e ∷ es) accepted =
        AllPairs-cons R e es (behind_one (before ++ e ∷ []) es accepted.1 e (Contains-push before e)) (pairs_accepted (before ++ e ∷ []) es accepted.1)
