-- Which ends of a session are faults, and what the counts of faults have to do with them.
use Rattle.std.proofs.Common.{◌≡◌, Bool, true, false, true≢false, ℕ, ◌≤◌, Err, refl, sym, ap, ◌∙◌, arith}
use Rattle.std.specs.Prelude.{IsErrOf}
use Rattle.schema_values.specs.Causes.{HasRisen}
use Rattle.line_session.specs.Status.{CountsFaults, status_of}
use Rattle.line_session.specs.declared.ends.SinkError.{SinkError}
use Rattle.line_session.specs.declared.ends.SinkError.TheVariants.{Failed, OutOfMemory as NoMemory}
use Rattle.line_session.specs.declared.serving.SessionEnd.{SessionEnd}
use Rattle.line_session.specs.declared.serving.SessionEnd.TheVariants.{Done, ReadFault, WriteFault, LineTooLong, TooMuchInput, OutOfMemory}

-- an end for which a source or a sink is to blame
abbrev pub is_fault : SessionEnd → Bool
is_fault Done = false
is_fault ReadFault = true
is_fault WriteFault = true
is_fault (LineTooLong k) = false
is_fault (TooMuchInput k) = false
is_fault OutOfMemory = false

no_fault : {P : Type 0} (end fault : SessionEnd) → is_fault end ≡ false → is_fault fault ≡ true → end ≡ fault → P
no_fault end fault p q e = absurd (true≢false (sym q ∙ ap is_fault (sym e) ∙ p))

-- a write that failed is no fault of the source
no_read_fault : {P : Type 0} (status : SessionEnd) (e : SinkError) → status ≡ status_of e → status ≡ ReadFault → P
no_read_fault status Failed p q = absurd (cc (p, q))
no_read_fault status NoMemory p q = absurd (cc (p, q))

-- no count changed
pub counted-none : (read read_now wrote wrote_now : ℕ) (end : SessionEnd) → read_now ≡ read → wrote_now ≡ wrote → is_fault end ≡ false → CountsFaults read read_now wrote wrote_now end
counted-none read read_now wrote wrote_now end r w none = record {
  source_later = omega (arith, r);
  sink_later = omega (arith, w);
  read_fault = no_fault end ReadFault none refl;
  write_fault = no_fault end WriteFault none refl;
  read_risen = λ more. absurd (omega (arith, r, more));
  write_risen = λ more. absurd (omega (arith, w, more));
}

-- the source failed
pub counted-read : (read read_now wrote wrote_now : ℕ) → read ≤ read_now → HasRisen read read_now → wrote_now ≡ wrote → CountsFaults read read_now wrote wrote_now ReadFault
counted-read read read_now wrote wrote_now later rose w = record {
  source_later = later;
  sink_later = omega (arith, w);
  read_fault = λ e. rose;
  write_fault = λ e. absurd (cc e);
  read_risen = λ more. refl;
  write_risen = λ more. absurd (omega (arith, w, more));
}

-- a write ended in this error
pub counted-write : {T : Type 0} (read read_now wrote wrote_now : ℕ) (status : SessionEnd) (e : SinkError) → status ≡ status_of e → read_now ≡ read → wrote ≤ wrote_now
    → (IsErrOf {T = T} (Err e) Failed → HasRisen wrote wrote_now) → ((IsErrOf {T = T} (Err e) Failed → ⊥) → wrote_now ≡ wrote) → CountsFaults read read_now wrote wrote_now status
counted-write read read_now wrote wrote_now status Failed is r later failed counts = record {
  source_later = omega (arith, r);
  sink_later = later;
  read_fault = no_read_fault status Failed is;
  write_fault = λ e. failed refl;
  read_risen = λ more. absurd (omega (arith, r, more));
  write_risen = λ more. is;
}
counted-write read read_now wrote wrote_now status NoMemory is r later failed counts = record {
  source_later = omega (arith, r);
  sink_later = later;
  read_fault = no_read_fault status NoMemory is;
  write_fault = λ e. absurd (cc (is, e));
  read_risen = λ more. absurd (omega (arith, r, more));
  write_risen = λ more. absurd (omega (arith, counts (λ e. absurd (cc e)), more));
}
