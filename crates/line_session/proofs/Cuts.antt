-- How a session is cut short: of its output only a part was written, or its last reply was lost.
use Rattle.std.proofs.Common.{◌≡◌, ◌⊎◌, inl, inr, ℕ, ◌<◌, List, [], ◌∷◌, ◌++◌, length, refl, sym, ap, ◌∙◌, subst, append_assoc, append-nil}
use Rattle.std.proofs.KnownBytes.{Appends-trans, Appends-nil}
use Rattle.std.specs.Io.KnownBytes.{Appends, IsAtEnd}
use Rattle.std.specs.declared.option.Option.{Option}
use Rattle.line_session.specs.Lines.{Fits, end_line}
use Rattle.line_session.specs.Reading.{Reading, Handles}
use Rattle.line_session.specs.NextLine.{IsOpen}
use Rattle.line_session.specs.Parts.{AppendsPart}
use Rattle.line_session.specs.Session.{Session, CutSession, HasRead, HasWritten, HasWrittenPart, IsCut, PartReplied}
use Rattle.line_session.specs.Status.{IsServed, lost_at, status_of}
use Rattle.line_session.specs.declared.serving.SessionEnd.{SessionEnd}
use Rattle.line_session.specs.declared.ends.SinkError.{SinkError}
use Rattle.line_session.specs.declared.ends.SinkError.TheVariants.{Failed, OutOfMemory as NoMemory}
use Rattle.line_session.proofs.Going.{Going, HasLines-more, HasRead-open, HasRead-unlooked, HasWritten-kept, HasWritten-none, all_lines-last, read-none}

module _ {X : Type 0} (Answers : X → List ℕ → List ℕ → X → Type 0) (Lost : X → List ℕ → X → Type 0) (front : List ℕ) where
  CutSession-whole : (old new : X) (lines : List (List ℕ)) (out : List ℕ) → Session Answers old lines out new → CutSession Answers Lost old lines out new
  CutSession-whole old new [] out p = p
  CutSession-whole old new (l ∷ ls) out p = inr (p.0, p.1, p.2, p.3, inl (CutSession-whole p.0 new ls p.2 p.4, p.5))

  CutSession-lost : (old mid new : X) (lines : List (List ℕ)) (out line : List ℕ) → Session Answers old lines out mid → Lost mid line new → CutSession Answers Lost old (lines ++ line ∷ []) out new
  CutSession-lost old mid new [] out line p q = inl (refl, subst (λ (m : X). Lost m line new) p.0 q, p.1)
  CutSession-lost old mid new (l ∷ ls) out line p q = inr (p.0, p.1, p.2, p.3, inl (CutSession-lost p.0 mid new ls p.2 line p.4 q, p.5))

  CutSession-part : (old mid new : X) (lines : List (List ℕ)) (out line reply part more : List ℕ)
      → Session Answers old lines out mid → Answers mid line reply new → part ++ more ≡ end_line reply → CutSession Answers Lost old (lines ++ line ∷ []) (out ++ part) new
  CutSession-part old mid new [] out line reply part more p q e =
      let a : Answers old line reply new = subst (λ (m : X). Answers m line reply new) p.0 q in
      inr (new, reply, more, a, inr (refl, refl, ap (λ (l : List ℕ). (l ++ part) ++ more) p.1 ∙ e))
  CutSession-part old mid new (l ∷ ls) out line reply part more p q e = inr (
    p.0,
    p.1,
    p.2 ++ part,
    p.3,
    inl (
      CutSession-part p.0 mid new ls p.2 line reply part more p.4 q e,
      ap (λ x. x ++ part) p.5 ∙ append_assoc (end_line p.1) p.2 part,
    ),
  )

  HasWrittenPart-whole : (x y : Option (List ℕ)) (old new : X) (lines : List (List ℕ)) → HasWritten Answers front x y old lines new → HasWrittenPart Answers Lost front x y old lines new
  HasWrittenPart-whole x y old new lines p = record {
    written = front ++ p.written;
    rest = p.written;
    appended = p.appended;
    cut = inr (refl, CutSession-whole old new lines p.written p.answers);
  }

  HasWrittenPart-front : (x y : Option (List ℕ)) (old : X) → AppendsPart x y front → HasWrittenPart Answers Lost front x y old [] old
  HasWrittenPart-front x y old p = record { written = p.part; rest = p.more; appended = p.appended; cut = inl (refl, refl, p.front) }

  -- a line was answered, and its reply was lost, or a part of it written
  HasWrittenPart-last : (x y z : Option (List ℕ)) (old mid new : X) (lines : List (List ℕ)) (line : List ℕ) → HasWritten Answers front x y old lines mid
      → (Lost mid line new × Appends y z [])
      ⊎ ((reply : List ℕ) × (part : List ℕ) × (more : List ℕ) × Answers mid line reply new × Appends y z part × (part ++ more ≡ end_line reply))
      → HasWrittenPart Answers Lost front x z old (lines ++ line ∷ []) new
  HasWrittenPart-last x y z old mid new lines line p (inl (lost, none)) = record {
    written = front ++ p.written;
    rest = p.written;
    appended = subst (Appends x z) (append-nil (front ++ p.written)) (Appends-trans x y z _ _ p.appended none);
    cut = inr (refl, CutSession-lost old mid new lines p.written line p.answers lost);
  }
  HasWrittenPart-last x y z old mid new lines line p (inr (reply, part, more, a, q, e)) = record {
    written = front ++ (p.written ++ part);
    rest = p.written ++ part;
    appended = subst (Appends x z) (append_assoc front p.written part) (Appends-trans x y z _ _ p.appended q);
    cut = inr (refl, CutSession-part old mid new lines p.written line reply part more p.answers a e);
  }

  -- nothing was read or written
  pub cut-none : (most longest : ℕ) (x t : Option (List ℕ)) (old : X) → IsCut Answers Lost front most longest x x t t old old
  cut-none most longest x t old = record {
    lines = [];
    tail = [];
    rest = [];
    read = read-none most longest x;
    whole = inl refl;
    wrote = record { written = []; rest = front; appended = Appends-nil t; cut = inl (refl, refl, refl) };
  }

  -- of the front a part was written
  pub cut-front : (most longest : ℕ) (x t u : Option (List ℕ)) (old : X) → AppendsPart t u front → IsCut Answers Lost front most longest x x t u old old
  cut-front most longest x t u old p = record {
    lines = [];
    tail = [];
    rest = [];
    read = read-none most longest x;
    whole = inl refl;
    wrote = HasWrittenPart-front t u old p;
  }

  -- nothing was read
  pub cut-before : (most longest : ℕ) (x t u : Option (List ℕ)) (old : X) → Appends t u front → IsCut Answers Lost front most longest x x t u old old
  cut-before most longest x t u old p = record {
    lines = [];
    tail = [];
    rest = [];
    read = read-none most longest x;
    whole = inl refl;
    wrote = HasWrittenPart-whole t u old old [] (HasWritten-none Answers front t u old p);
  }

  -- the reply to a whole line was cut short
  pub cut-line : (most longest : ℕ) (x y z t u v : Option (List ℕ)) (old mid new : X) (a b : Reading) (line : List ℕ)
      → Going Answers front most longest x y t u old mid a → Fits longest line × Handles a b y z (end_line line) → PartReplied Answers Lost u v mid line new
      → IsCut Answers Lost front most longest x z t v old new
  cut-line most longest x y z t u v old mid new a b line p q (inl r) = record {
    lines = p.lines;
    tail = [];
    rest = end_line line ++ b.pending;
    read = HasRead-unlooked most longest x y z p.lines a b (end_line line) p.has q.1;
    whole = inl refl;
    wrote = HasWrittenPart-whole t v old new p.lines (HasWritten-kept Answers front t u v old mid new p.lines p.wrote r);
  }
  cut-line most longest x y z t u v old mid new a b line p q (inr r) = record {
    lines = p.lines ++ line ∷ [];
    tail = [];
    rest = b.pending;
    read = (HasLines-more most longest x y z p.lines a b line p.has q.0 q.1).read;
    whole = inl refl;
    wrote = HasWrittenPart-last t u v old mid new p.lines line p.wrote r;
  }

  -- its reply was cut short
  pub cut-last : (most longest : ℕ) (x y z t u v : Option (List ℕ)) (old mid new : X) (a b : Reading) (line : List ℕ)
      → Going Answers front most longest x y t u old mid a → IsOpen longest a b y z line × (b.pending ≡ []) × IsAtEnd z → 0 < length line → PartReplied Answers Lost u v mid line new
      → IsCut Answers Lost front most longest x z t v old new
  cut-last most longest x y z t u v old mid new a b line p q n (inl r) = record {
    lines = p.lines;
    tail = [];
    rest = line ++ b.pending;
    read = HasRead-unlooked most longest x y z p.lines a b line p.has q.0.handled;
    whole = inl refl;
    wrote = HasWrittenPart-whole t v old new p.lines (HasWritten-kept Answers front t u v old mid new p.lines p.wrote r);
  }
  cut-last most longest x y z t u v old mid new a b line p q n (inr r) = record {
    lines = p.lines;
    tail = line;
    rest = [];
    read = subst (HasRead most longest x z p.lines line) q.1 (HasRead-open most longest x y z p.lines a b line p.has q.0);
    whole = inr (refl, q.2);
    wrote = subst (λ (ls : List (List ℕ)). HasWrittenPart Answers Lost front t v old ls new) (sym (all_lines-last p.lines line n))
        (HasWrittenPart-last t u v old mid new p.lines line p.wrote r);
  }

  -- memory ran out in a line
  pub cut-open : (most longest : ℕ) (x y z t u : Option (List ℕ)) (old new : X) (a b : Reading)
      → Going Answers front most longest x y t u old new a → (line : List ℕ) × IsOpen longest a b y z line → IsCut Answers Lost front most longest x z t u old new
  cut-open most longest x y z t u old new a b p q = record {
    lines = p.lines;
    tail = [];
    rest = q.0 ++ b.pending;
    read = HasRead-unlooked most longest x y z p.lines a b q.0 p.has q.1.handled;
    whole = inl refl;
    wrote = HasWrittenPart-whole t u old new p.lines p.wrote;
  }

  -- whichever way a write failed
  pub served-cut : (most longest : ℕ) (x y t u : Option (List ℕ)) (old new : X) (status : SessionEnd) (e : SinkError)
      → status ≡ status_of e → IsCut Answers (lost_at Lost e) front most longest x y t u old new → IsServed Answers Lost front most longest x y t u old new status
  served-cut most longest x y t u old new status Failed p q = subst (IsServed Answers Lost front most longest x y t u old new) (sym p) q
  served-cut most longest x y t u old new status NoMemory p q = subst (IsServed Answers Lost front most longest x y t u old new) (sym p) q
