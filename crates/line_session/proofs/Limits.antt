-- How a session's end follows from the limits.
use Rattle.std.proofs.Common.{◌≡◌, ◌⊎◌, inl, inr, ℕ, ◌+◌, ◌-◌, List, [], ◌∷◌, ◌++◌, length, take, Some, None, refl, sym, ap, ◌∙◌, subst, arith, append_assoc, append-nil, length-append}
use Rattle.std.proofs.Math.Seq.{take-append-add, take-append_seam}
use Rattle.std.proofs.lemmas.List.{take_all}
use Rattle.std.specs.Io.KnownBytes.{Consumes, IsAtEnd}
use Rattle.std.specs.declared.option.Option.{Option}
use Rattle.line_session.specs.Lines.{ended, HasShortLines, HasLongLine, PassesNoLimit, IsTooMuch}
use Rattle.line_session.specs.Session.{IsDone, IsStopped, MakesTooLong, MakesTooMuch}
use Rattle.line_session.specs.Status.{IsServed, MeetsLimits}
use Rattle.line_session.specs.declared.serving.SessionEnd.{SessionEnd}
use Rattle.line_session.specs.declared.serving.SessionEnd.TheVariants.{Done, ReadFault, WriteFault, LineTooLong, TooMuchInput, OutOfMemory}
use Rattle.line_session.proofs.Handling.{IsLine-more}
use Rattle.line_session.proofs.LineLemmas.{HasShortLines-read, run-short}

-- a source that tells its bytes gave these from the front
told : (x y : Option (List ℕ)) (all input : List ℕ) → Consumes x y input → x ≡ Some all → (after : List ℕ) × (all ≡ input ++ after)
told None y all input p e = absurd (cc)
told (Some xs) None all input p e = absurd p
told (Some xs) (Some ys) all input p e = let same : xs ≡ all = cc in (ys, sym same ∙ p)

long-run : (all input lines tail rest more after : List ℕ) (b : ℕ) → all ≡ input ++ after → input ≡ (lines ++ tail) ++ rest → rest ≡ b ∷ more
    → all ≡ (lines ++ (tail ++ b ∷ [])) ++ (more ++ after)
long-run all input lines tail rest more after b p q r =
    p ∙ ap (λ (l : List ℕ). l ++ after) (q ∙ ap (λ (l : List ℕ). (lines ++ tail) ++ l) r)
    ∙ append_assoc (lines ++ tail) (b ∷ more) after
    ∙ append_assoc lines tail (b ∷ (more ++ after))
    ∙ ap (λ (l : List ℕ). lines ++ l) (sym (append_assoc tail (b ∷ []) (more ++ after)))
    ∙ sym (append_assoc lines (tail ++ b ∷ []) (more ++ after))

-- a source that tells its bytes gave them all
pub left-none : (all input : List ℕ) (x y : Option (List ℕ)) → Consumes x y input → IsAtEnd y → x ≡ Some all → (all ≡ input) × (y ≡ Some [])
left-none all input None y p q e = absurd (cc)
left-none all input (Some xs) None p q e = absurd p
left-none all input (Some xs) (Some ys) p q e =
    let same : xs ≡ all = cc in
    (sym same ∙ p ∙ ap (λ (l : List ℕ). input ++ l) q ∙ append-nil input, ap Some q)

module _ {X : Type 0} (Answers : X → List ℕ → List ℕ → X → Type 0) (front : List ℕ) where
  limits-done : (most longest : ℕ) (x y t u : Option (List ℕ)) (old new : X) (all : List ℕ)
      → IsDone Answers front most longest x y t u old new → x ≡ Some all → PassesNoLimit most longest all
  limits-done most longest x y t u old new all p e =
      let whole : all ≡ ended p.lines ++ p.tail = (left-none all p.read.input x y p.read.consumed p.finished e).0 ∙ p.read.split ∙ append-nil (ended p.lines ++ p.tail) in
      record {
        total = omega (arith, ap length whole, p.read.total);
        lines = subst (HasShortLines longest) (sym whole) (HasShortLines-read longest p.lines p.tail p.read.each p.read.tail_fits);
      }

  limits-long : (most longest : ℕ) (x y t u : Option (List ℕ)) (old new : X) (all : List ℕ)
      → IsStopped Answers front most longest x y t u old new (MakesTooLong most longest) → x ≡ Some all → HasLongLine longest (take most all)
  limits-long most longest x y t u old new all p e short =
      let source = told x y all p.read.input p.read.consumed e in
      let run = p.tail ++ p.cause.0 ∷ [] in
      let handled = ended p.lines ++ run in
      let later = p.cause.1 ++ source.0 in
      let whole = long-run all p.read.input (ended p.lines) p.tail p.rest p.cause.1 source.0 p.cause.0 source.1 p.read.split p.cause.2 in
      let n : ℕ = most - length handled in
      let within : most ≡ length handled + n =
      omega (arith, p.cause.5, length-append (ended p.lines) p.tail, length-append (ended p.lines) run, length-append p.tail (p.cause.0 ∷ [])) in
      let first : take most all ≡ ended p.lines ++ (run ++ take n later) =
      ap (take most) whole ∙ ap (λ k. take k (handled ++ later)) within ∙ take-append-add handled later n ∙ append_assoc (ended p.lines) run (take n later) in
      let bound = run-short longest p.lines run (take n later) p.read.each (IsLine-more p.tail p.cause.0 p.read.tail_fits.line_only p.cause.3) (subst (HasShortLines longest) first short) in
      omega (arith, bound, length-append p.tail (p.cause.0 ∷ []), p.cause.4)

  limits-much : (most longest : ℕ) (x y t u : Option (List ℕ)) (old new : X) (all : List ℕ)
      → IsStopped Answers front most longest x y t u old new (MakesTooMuch most) → x ≡ Some all → IsTooMuch most longest all
  limits-much most longest x y t u old new all p e =
      let source = told x y all p.read.input p.read.consumed e in
      let handled = ended p.lines ++ p.tail in
      let later = p.rest ++ source.0 in
      let whole : all ≡ handled ++ later = source.1 ∙ ap (λ (l : List ℕ). l ++ source.0) p.read.split ∙ append_assoc handled p.rest source.0 in
      let first : take most all ≡ handled = ap (take most) whole ∙ ap (λ k. take k (handled ++ later)) (sym p.cause.3) ∙ take-append_seam handled later in
      record {
        total = omega (arith, ap length whole, length-append handled later, length-append p.rest source.0, ap length p.cause.2, p.cause.3);
        lines = subst (HasShortLines longest) (sym first) (HasShortLines-read longest p.lines p.tail p.read.each p.read.tail_fits);
      }

  -- what the end says of a source that tells its bytes
  pub limits : (Lost : X → List ℕ → X → Type 0) (most longest : ℕ) (x y t u : Option (List ℕ)) (old new : X) (status : SessionEnd) (all : List ℕ)
      → IsServed Answers Lost front most longest x y t u old new status → x ≡ Some all → MeetsLimits most longest all status
  limits Lost most longest x y t u old new Done all p e = limits-done most longest x y t u old new all p e
  limits Lost most longest x y t u old new ReadFault all p e = tt
  limits Lost most longest x y t u old new WriteFault all p e = tt
  limits Lost most longest x y t u old new (LineTooLong k) all p e = (p.0, limits-long most longest x y t u old new all p.1 e)
  limits Lost most longest x y t u old new (TooMuchInput k) all p e = (p.0, limits-much most longest x y t u old new all p.1 e)
  limits Lost most longest x y t u old new OutOfMemory all p e = tt

-- ---- the three cases leave no other end, but for faults and memory

front-short : (most longest : ℕ) (all : List ℕ) → PassesNoLimit most longest all → HasShortLines longest (take most all)
front-short most longest all p = subst (HasShortLines longest) (sym (take_all most all p.total)) p.lines

pub complete : (most longest : ℕ) (all : List ℕ) (status : SessionEnd) → MeetsLimits most longest all status → PassesNoLimit most longest all
    → (status ≡ ReadFault → ⊥) → (status ≡ WriteFault → ⊥) → (status ≡ Done) ⊎ (status ≡ OutOfMemory)
complete most longest all Done m p r w = inl refl
complete most longest all ReadFault m p r w = absurd (r refl)
complete most longest all WriteFault m p r w = absurd (w refl)
complete most longest all (LineTooLong k) m p r w = absurd (m.1 (front-short most longest all p))
complete most longest all (TooMuchInput k) m p r w = absurd (omega (arith, m.1.total, p.total))
complete most longest all OutOfMemory m p r w = inr refl

pub too_long : (most longest : ℕ) (all : List ℕ) (status : SessionEnd) → MeetsLimits most longest all status → HasLongLine longest (take most all)
    → (status ≡ ReadFault → ⊥) → (status ≡ WriteFault → ⊥) → (status ≡ LineTooLong (longest + 1)) ⊎ (status ≡ OutOfMemory)
too_long most longest all Done m p r w = absurd (p (front-short most longest all m))
too_long most longest all ReadFault m p r w = absurd (r refl)
too_long most longest all WriteFault m p r w = absurd (w refl)
too_long most longest all (LineTooLong k) m p r w = inl (ap LineTooLong m.0)
too_long most longest all (TooMuchInput k) m p r w = absurd (p m.1.lines)
too_long most longest all OutOfMemory m p r w = inr refl

pub too_much : (most longest : ℕ) (all : List ℕ) (status : SessionEnd) → MeetsLimits most longest all status → IsTooMuch most longest all
    → (status ≡ ReadFault → ⊥) → (status ≡ WriteFault → ⊥) → (status ≡ TooMuchInput (most + 1)) ⊎ (status ≡ OutOfMemory)
too_much most longest all Done m p r w = absurd (omega (arith, m.total, p.total))
too_much most longest all ReadFault m p r w = absurd (r refl)
too_much most longest all WriteFault m p r w = absurd (w refl)
too_much most longest all (LineTooLong k) m p r w = absurd (m.1 p.lines)
too_much most longest all (TooMuchInput k) m p r w = inl (ap TooMuchInput m.0)
too_much most longest all OutOfMemory m p r w = inr refl
