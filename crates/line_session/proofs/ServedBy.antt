-- How a session goes on from call to call, and ends.
use Rattle.std.proofs.Common.{◌≡◌, ◌≢◌, ◌⊎◌, inl, inr, ℕ, ◌+◌, ◌<◌, List, [], ◌∷◌, ◌++◌, length, refl, sym, ap, ◌∙◌}
use Rattle.std.proofs.Common.{subst, append-nil, Some, Ok, Err, Result, Bool, true, false, append_assoc}
use Rattle.std.specs.Io.KnownBytes.{IsAtEnd}
use Rattle.std.specs.declared.option.Option.{Option}
use Rattle.line_session.specs.Calls.{Gave, GaveAll, GaveAndFailed, GivesPiece, Took, TookUpTo, TakesPiece, GaveUpTo}
use Rattle.line_session.specs.Calls.{EndsReading, EndsWriting, IsRepliedBy, IsServedBy, IsWrittenBy}
use Rattle.line_session.specs.Lines.{Fits, end_line}
use Rattle.line_session.specs.NextLine.{IsOpen}
use Rattle.line_session.specs.Reading.{Reading, Handles}
use Rattle.line_session.specs.Session.{PartReplied}
use Rattle.line_session.specs.Status.{IsServed, lost_at, status_of}
use Rattle.line_session.specs.declared.ends.Sink.{Ghosts as SinkGhosts}
use Rattle.line_session.specs.declared.ends.SinkError.{SinkError}
use Rattle.line_session.specs.declared.ends.SinkError.TheVariants.{Failed, OutOfMemory as NoMemory}
use Rattle.line_session.specs.declared.ends.Source.{Ghosts as SourceGhosts}
use Rattle.line_session.specs.declared.serving.SessionEnd.{SessionEnd}
use Rattle.line_session.specs.declared.serving.SessionEnd.TheVariants.{Done, ReadFault, LineTooLong, TooMuchInput}
use Rattle.line_session.specs.declared.serving.SessionEnd.TheVariants.{OutOfMemory}
use Rattle.line_session.proofs.Calling.{ByCalls-none, ByCalls-then, Handles-later, IsOpen-later}
use Rattle.line_session.proofs.Cuts.{cut-before, cut-front, cut-last, cut-line, cut-none, cut-open, served-cut}
use Rattle.line_session.proofs.Going.{Going, Going-first, Going-more, done-ended, done-last, stopped-fault}
use Rattle.line_session.proofs.Going.{stopped-long, stopped-much}

-- ---- the calls by the error of a write

writes-to : {K : Type 0} (sink : SinkGhosts K) (before after : K) (out : List ℕ) (status : SessionEnd) (e : SinkError)
    → status ≡ status_of e → TookUpTo sink before out e after → EndsWriting sink before out after status
writes-to sink before after out status Failed is (inl p) = subst (EndsWriting sink before out after) (sym is) p
writes-to sink before after out status Failed is (inr p) = absurd (cc p.0)
writes-to sink before after out status NoMemory is p = subst (EndsWriting sink before out after) (sym is) p

reads-to : {S : Type 0} (source : SourceGhosts S) (told : Bool) (before after : S) (bytes : List ℕ)
    (status : SessionEnd)
    (e : SinkError) → status ≡ status_of e → GaveUpTo source told before bytes after
    → EndsReading source told before bytes after status
reads-to source told before after bytes status Failed is p = subst (EndsReading source told before bytes after)
    (sym is) p
reads-to source told before after bytes status NoMemory is p = subst (EndsReading source told before bytes after)
    (sym is) p

took-up_to : {K : Type 0} (sink : SinkGhosts K) (a b c : K) (xs ys : List ℕ) (e : SinkError)
    → Took sink a xs b → TookUpTo sink b ys e c → TookUpTo sink a (xs ++ ys) e c
took-up_to sink a b c xs ys e p (inl (mid, piece, took, call)) =
    inl (mid, piece, ByCalls-then (TakesPiece sink) a b mid xs ys p took, call)
took-up_to sink a b c xs ys e p (inr (is, took)) = inr (is, ByCalls-then (TakesPiece sink) a b c xs ys p took)

gave-all : {S : Type 0} (source : SourceGhosts S) (a b c : S) (xs ys : List ℕ) → Gave source a xs b
    → GaveAll source b ys c → GaveAll source a (xs ++ ys) c
gave-all source a b c xs ys p (mid, buf, gave, call) =
    (mid, buf, ByCalls-then (GivesPiece source) a b mid xs ys p gave, call)

gave-and_failed : {S : Type 0} (source : SourceGhosts S) (a b c : S) (xs ys : List ℕ) → Gave source a xs b
    → GaveAndFailed source b ys c
    → GaveAndFailed source a (xs ++ ys) c
gave-and_failed source a b c xs ys p (mid, buf, failed, gave, call) =
    (mid, buf, failed, ByCalls-then (GivesPiece source) a b mid xs ys p gave, call)

-- a reply behind other bytes
part-behind : {X : Type 0} (Answers : X → List ℕ → List ℕ → X → Type 0) (Lost : X → List ℕ → X → Type 0)
    (out part : List ℕ) (old : X) (line : List ℕ) (new : X)
    → PartReplied Answers Lost (Some []) (Some part) old line new
    → PartReplied Answers Lost (Some out) (Some (out ++ part)) old line new
part-behind Answers Lost out part old line new (inl (same, none)) = inl (same, ap (λ (l : List ℕ). out ++ l) none)
part-behind Answers Lost out part old line new (inr (inl (lost, none))) = inr
    (inl (lost, ap (λ (l : List ℕ). out ++ l) none))
part-behind Answers Lost out part old line new (inr (inr (reply, some, more, a, is, whole))) =
    inr (inr (reply, some, more, a, ap (λ (l : List ℕ). out ++ l) is, whole))

-- ---- a reply

module _ {X K : Type 0} (Answers : X → List ℕ → List ℕ → X → Type 0) (Lost : X → List ℕ → X → Type 0)
    (sink : SinkGhosts K)
    (before after : K) (old new : X) (line : List ℕ) where
  pub replied-by : {T : Type 0} (reply : List ℕ) (result : Result T SinkError) → Answers old line reply new
      → IsWrittenBy sink (end_line reply) before after result
      → IsRepliedBy Answers Lost sink before after old line new result
  replied-by reply (Ok done) a w = (reply, a, w)
  replied-by reply (Err e) a (part, more, whole, took) = (part, took, inr (inr (reply, part, more, a, refl, whole)))

-- memory ran out
pub not_replied : {X K : Type 0} (Answers : X → List ℕ → List ℕ → X → Type 0) (Lost : X → List ℕ → X → Type 0)
    (sink : SinkGhosts K) (k : K) (old new : X) (line : List ℕ) → (new ≡ old) ⊎ Lost old line new
    → (part : List ℕ) × TookUpTo sink k part NoMemory k × PartReplied Answers Lost (Some []) (Some part) old line new
not_replied Answers Lost sink k old new line (inl same) =
    ([], inr (refl, ByCalls-none (TakesPiece sink) k), inl (same, refl))
not_replied Answers Lost sink k old new line (inr lost) =
    ([], inr (refl, ByCalls-none (TakesPiece sink) k), inr (inl (lost, refl)))

-- ---- a session

module _ {X : Type 0} (Answers : X → List ℕ → List ℕ → X → Type 0) (Lost : X → List ℕ → X → Type 0) (front : List ℕ)
    (most longest : ℕ) where
  -- where the end was told, nothing comes
  served-all : (input : List ℕ) (t u : Option (List ℕ)) (old new : X) (how : SessionEnd)
      → IsServed Answers Lost front most longest (Some input) (Some []) t u old new how
      → (more : List ℕ) → (true ≡ true → more ≡ [])
      → IsServed Answers Lost front most longest (Some (input ++ more)) (Some more) t u old new how
  served-all input t u old new how p more none =
      subst (λ (l : List ℕ). IsServed Answers Lost front most longest (Some (input ++ l)) (Some l) t u old new how)
      (sym (none refl))
      (subst (λ (l : List ℕ). IsServed Answers Lost front most longest (Some l) (Some []) t u old new how)
      (sym (append-nil input)) p)

  going-later : (input more : List ℕ) (t u : Option (List ℕ)) (old new : X) (a : Reading)
      → Going Answers front most longest (Some input) (Some []) t u old new a
      → Going Answers front most longest (Some (input ++ more)) (Some more) t u old new a
  going-later input more t u old new a p = record {
    lines = p.lines;
    has = record {
      read = record {
        input = p.has.read.input;
        consumed = ap (λ (l : List ℕ). l ++ more) (p.has.read.consumed ∙ append-nil p.has.read.input);
        split = p.has.read.split;
        each = p.has.read.each;
        tail_fits = p.has.read.tail_fits;
        total = p.has.read.total;
      };
      budget = p.has.budget;
    };
    wrote = p.wrote;
  }

  going-beyond : (input more rest : List ℕ) (t u : Option (List ℕ)) (old new : X) (a : Reading)
      → Going Answers front most longest (Some input) (Some []) t u old new a
      → Going Answers front most longest (Some ((input ++ more) ++ rest)) (Some (more ++ rest)) t u old new a
  going-beyond input more rest t u old new a p =
      subst (λ (l : List ℕ). Going Answers front most longest (Some l) (Some (more ++ rest)) t u old new a)
      (sym (append_assoc input more rest)) (going-later input (more ++ rest) t u old new a p)

  module _ {S K : Type 0} (source : SourceGhosts S) (sink : SinkGhosts K) where
    abbrev Served : S → S → K → K → X → X → SessionEnd → Type 0
    Served s t k l old new how = IsServedBy Answers Lost front most longest source sink s t k l old new how

    -- the session so far, at the head of the loop
    pub record GoingBy (first now : S) (begun held : K) (old new : X) (reader : Reading) : Type 0 where
      pub input : List ℕ
      pub output : List ℕ
      pub gave : Gave source first input now
      pub took : Took sink begun output held
      pub going : Going Answers front most longest (Some input) (Some []) (Some []) (Some output) old new reader

    pub GoingBy-first : (s : S) (k l : K) (old : X) (reader : Reading) → Took sink k front l → reader.pending ≡ []
        → reader.budget ≡ most
        → GoingBy s s k l old old reader
    GoingBy-first s k l old reader p q r = record {
      input = [];
      output = front;
      gave = ByCalls-none (GivesPiece source) s;
      took = p;
      going = Going-first Answers front most longest (Some []) (Some []) (Some front) old reader refl q r;
    }

    -- ---- before a line was read

    -- no call was made
    pub served-none : (s : S) (k : K) (old : X) → Served s s k k old old OutOfMemory
    served-none s k old = record {
      input = [];
      output = [];
      told = false;
      reads = ByCalls-none (GivesPiece source) s;
      writes = inr (refl, ByCalls-none (TakesPiece sink) k);
      served = λ rest none. cut-none Answers Lost front most longest (Some rest) (Some []) old;
    }

    -- the front was not written
    pub served-front : (s : S) (k l : K) (old : X) (status : SessionEnd) (e : SinkError) → status ≡ status_of e
        → (part : List ℕ) × (more : List ℕ) × (part ++ more ≡ front) × TookUpTo sink k part e l
        → Served s s k l old old status
    served-front s k l old status e is (part, more, whole, took) = record {
      input = [];
      output = part;
      told = false;
      reads = reads-to source false s s [] status e is (ByCalls-none (GivesPiece source) s);
      writes = writes-to sink k l part status e is took;
      served = λ rest none. served-cut Answers Lost front most longest (Some rest) (Some rest) (Some []) (Some part)
          old old status e is
          (cut-front Answers (lost_at Lost e) front most longest (Some rest) (Some []) (Some part) old
          (record { part = part; more = more; appended = refl; front = whole }));
    }

    -- there was no memory for a reader
    pub served-before : (s : S) (k l : K) (old : X) → Took sink k front l → Served s s k l old old OutOfMemory
    served-before s k l old took = record {
      input = [];
      output = front;
      told = false;
      reads = ByCalls-none (GivesPiece source) s;
      writes = inr (refl, took);
      served = λ rest none. cut-before Answers Lost front most longest (Some rest) (Some []) (Some front) old refl;
    }

    -- ---- behind lines

    module _ (first s t : S) (k l m : K) (old mid new : X) (a b : Reading) (line : List ℕ)
        (p : GoingBy first s k l old mid a) where
      -- what was read behind these lines
      later : (more : List ℕ) → Going Answers front most longest (Some (p.input ++ more)) (Some more) (Some [])
          (Some p.output) old mid a
      later more = going-later p.input more (Some []) (Some p.output) old mid a p.going

      -- and what may come behind it
      beyond : (more rest : List ℕ)
          → Going Answers front most longest (Some ((p.input ++ more) ++ rest)) (Some (more ++ rest)) (Some [])
          (Some p.output) old mid a
      beyond more rest = going-beyond p.input more rest (Some []) (Some p.output) old mid a p.going

      -- a line was answered
      pub GoingBy-more : (more : List ℕ) → Gave source s more t → Fits longest line
          × Handles a b (Some more) (Some []) (end_line line)
          → (reply : List ℕ) × Answers mid line reply new × Took sink l (end_line reply) m
          → GoingBy first t k m old new b
      GoingBy-more more gave q (reply, answered, took) = record {
        input = p.input ++ more;
        output = p.output ++ end_line reply;
        gave = ByCalls-then (GivesPiece source) first s t p.input more p.gave gave;
        took = ByCalls-then (TakesPiece sink) k l m p.output (end_line reply) p.took took;
        going = Going-more Answers front most longest (Some (p.input ++ more)) (Some more) (Some []) (Some [])
            (Some p.output)
            (Some (p.output ++ end_line reply)) old mid new a b line (later more) q (reply, answered, refl);
      }

      -- the reply was cut short
      pub served-line : (status : SessionEnd) (e : SinkError) → status ≡ status_of e → (more : List ℕ)
          → Gave source s more t
          → Fits longest line × Handles a b (Some more) (Some []) (end_line line)
          → (part : List ℕ) × TookUpTo sink l part e m
          × PartReplied Answers (lost_at Lost e) (Some []) (Some part) mid line new
          → Served first t k m old new status
      served-line status e is more gave q (part, took, replied) = record {
        input = p.input ++ more;
        output = p.output ++ part;
        told = false;
        reads = reads-to source false first t (p.input ++ more) status e is
            (ByCalls-then (GivesPiece source) first s t p.input more p.gave gave);
        writes = writes-to sink k m (p.output ++ part) status e is (took-up_to sink k l m p.output part e p.took took);
        served = λ rest none. served-cut Answers Lost front most longest (Some ((p.input ++ more) ++ rest))
            (Some rest) (Some []) (Some (p.output ++ part)) old new status e is
            (cut-line Answers (lost_at Lost e) front most longest (Some ((p.input ++ more) ++ rest))
            (Some (more ++ rest)) (Some rest) (Some []) (Some p.output)
            (Some (p.output ++ part)) old mid new a b line (beyond more rest)
            (q.0, Handles-later a b more rest (end_line line) q.1)
            (part-behind Answers (lost_at Lost e) p.output part mid line new replied));
      }

      -- the reply to the last line was cut short
      pub served-last : (status : SessionEnd) (e : SinkError) → status ≡ status_of e → (more : List ℕ)
          → GaveAll source s more t
          → IsOpen longest a b (Some more) (Some []) line × (b.pending ≡ []) × IsAtEnd (Some []) → 0 < length line
          → (part : List ℕ) × TookUpTo sink l part e m
          × PartReplied Answers (lost_at Lost e) (Some []) (Some part) mid line new
          → Served first t k m old new status
      served-last status e is more gave q some (part, took, replied) = record {
        input = p.input ++ more;
        output = p.output ++ part;
        told = true;
        reads = reads-to source true first t (p.input ++ more) status e is
            (gave-all source first s t p.input more p.gave gave);
        writes = writes-to sink k m (p.output ++ part) status e is (took-up_to sink k l m p.output part e p.took took);
        served = served-all (p.input ++ more) (Some []) (Some (p.output ++ part)) old new status
            (served-cut Answers Lost front most longest (Some (p.input ++ more)) (Some []) (Some [])
            (Some (p.output ++ part)) old new status e is
            (cut-last Answers (lost_at Lost e) front most longest (Some (p.input ++ more)) (Some more) (Some [])
            (Some []) (Some p.output)
            (Some (p.output ++ part)) old mid new a b line (later more) q some
            (part-behind Answers (lost_at Lost e) p.output part mid line new replied)));
      }

      -- the last line was answered
      pub served-done : (more : List ℕ) → GaveAll source s more t
          → IsOpen longest a b (Some more) (Some []) line × (b.pending ≡ []) × IsAtEnd (Some []) → 0 < length line
          → (reply : List ℕ) × Answers mid line reply new × Took sink l (end_line reply) m
          → Served first t k m old new Done
      served-done more gave q some (reply, answered, took) = record {
        input = p.input ++ more;
        output = p.output ++ end_line reply;
        told = true;
        reads = (refl, gave-all source first s t p.input more p.gave gave);
        writes = ByCalls-then (TakesPiece sink) k l m p.output (end_line reply) p.took took;
        served = served-all (p.input ++ more) (Some []) (Some (p.output ++ end_line reply)) old new Done
            (done-last Answers front most longest (Some (p.input ++ more)) (Some more) (Some []) (Some [])
            (Some p.output)
            (Some (p.output ++ end_line reply)) old mid new a b line (later more) q some (reply, answered, refl));
      }

    -- ---- no further line was answered

    module _ (first s t : S) (k l : K) (old new : X) (a b : Reading) (p : GoingBy first s k l old new a) where
      past : (more rest : List ℕ)
          → Going Answers front most longest (Some ((p.input ++ more) ++ rest)) (Some (more ++ rest)) (Some [])
          (Some p.output) old new a
      past more rest = going-beyond p.input more rest (Some []) (Some p.output) old new a p.going

      behind : (more : List ℕ) → Going Answers front most longest (Some (p.input ++ more)) (Some more) (Some [])
          (Some p.output) old new a
      behind more = going-later p.input more (Some []) (Some p.output) old new a p.going

      -- nothing came behind the last line
      pub served-ended : (line more : List ℕ) → GaveAll source s more t
          → IsOpen longest a b (Some more) (Some []) line × (b.pending ≡ []) × IsAtEnd (Some []) → line ≡ []
          → Served first t k l old new Done
      served-ended line more gave q none = record {
        input = p.input ++ more;
        output = p.output;
        told = true;
        reads = (refl, gave-all source first s t p.input more p.gave gave);
        writes = p.took;
        served = served-all (p.input ++ more) (Some []) (Some p.output) old new Done
            (done-ended Answers front most longest (Some (p.input ++ more)) (Some more) (Some []) (Some [])
            (Some p.output) old new a b line
            (behind more) q none);
      }

      pub served-fault : (more : List ℕ) → GaveAndFailed source s more t
          → (line : List ℕ) × IsOpen longest a b (Some more) (Some []) line × (b.pending ≡ [])
          → Served first t k l old new ReadFault
      served-fault more gave q = record {
        input = p.input ++ more;
        output = p.output;
        told = false;
        reads = (refl, gave-and_failed source first s t p.input more p.gave gave);
        writes = p.took;
        served = λ rest none. stopped-fault Answers front most longest (Some ((p.input ++ more) ++ rest))
            (Some (more ++ rest)) (Some rest) (Some []) (Some p.output) old new a b
            (past more rest) (q.0, IsOpen-later longest a b more rest q.0 q.1, q.2);
      }

      gave-more : (more : List ℕ) → Gave source s more t → Gave source first (p.input ++ more) t
      gave-more more gave = ByCalls-then (GivesPiece source) first s t p.input more p.gave gave

      pub served-long : (n : ℕ) → n ≡ longest + 1 → (more : List ℕ) → Gave source s more t
          → (line : List ℕ) × (byte : ℕ) × (rest : List ℕ) × IsOpen longest a b (Some more) (Some []) line
          × (length line ≡ longest)
          × (b.pending ≡ byte ∷ rest) × (byte ≢ 10) × (0 < b.budget)
          → Served first t k l old new (LineTooLong n)
      served-long n is more gave q = record {
        input = p.input ++ more;
        output = p.output;
        told = false;
        reads = (refl, gave-more more gave);
        writes = p.took;
        served = λ rest none. (
          is,
          stopped-long Answers front most longest (Some ((p.input ++ more) ++ rest)) (Some (more ++ rest))
              (Some rest) (Some []) (Some p.output) old new a b
              (past more rest) (q.0, q.1, q.2, IsOpen-later longest a b more rest q.0 q.3, q.4, q.5, q.6, q.7),
        );
      }

      pub served-much : (n : ℕ) → n ≡ most + 1 → (more : List ℕ) → Gave source s more t
          → (line : List ℕ) × (byte : ℕ) × (rest : List ℕ) × IsOpen longest a b (Some more) (Some []) line
          × (b.pending ≡ byte ∷ rest) × (b.budget ≡ 0)
          → Served first t k l old new (TooMuchInput n)
      served-much n is more gave q = record {
        input = p.input ++ more;
        output = p.output;
        told = false;
        reads = (refl, gave-more more gave);
        writes = p.took;
        served = λ rest none. (
          is,
          stopped-much Answers front most longest (Some ((p.input ++ more) ++ rest)) (Some (more ++ rest))
              (Some rest) (Some []) (Some p.output) old new a b
              (past more rest) (q.0, q.1, q.2, IsOpen-later longest a b more rest q.0 q.3, q.4, q.5),
        );
      }

      -- memory ran out in a line
      pub served-open : (more : List ℕ) → Gave source s more t → (line : List ℕ)
          × IsOpen longest a b (Some more) (Some []) line
          → Served first t k l old new OutOfMemory
      served-open more gave q = record {
        input = p.input ++ more;
        output = p.output;
        told = false;
        reads = gave-more more gave;
        writes = inr (refl, p.took);
        served = λ rest none. cut-open Answers Lost front most longest (Some ((p.input ++ more) ++ rest))
            (Some (more ++ rest)) (Some rest) (Some []) (Some p.output) old new a b
            (past more rest) (q.0, IsOpen-later longest a b more rest q.0 q.1);
      }
