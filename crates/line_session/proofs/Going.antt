-- How a session goes on from line to line.
use Rattle.std.proofs.Common.{◌≡◌, ◌≢◌, ℕ, ◌+◌, ◌<◌, List, [], ◌∷◌, ◌++◌, length, refl, sym, ap, ◌∙◌, subst, arith, append_assoc, append-nil, length-append}
use Rattle.std.proofs.KnownBytes.{Consumes-trans, Consumes-nil, Appends-trans}
use Rattle.std.proofs.lemmas.List.Concat.{flat_map-append}
use Rattle.std.specs.Io.KnownBytes.{Appends, IsAtEnd}
use Rattle.std.specs.List.{AllByRecursion}
use Rattle.std.specs.declared.option.Option.{Option}
use Rattle.line_session.specs.Lines.{Fits, end_line, ended, all_lines}
use Rattle.line_session.specs.Reading.{Reading, Handles}
use Rattle.line_session.specs.NextLine.{IsOpen}
use Rattle.line_session.specs.Session.{Session, HasRead, HasWritten, IsDone, IsStopped, NoRest, MakesTooLong, MakesTooMuch, Replied}

pub ended-more : (lines : List (List ℕ)) (line : List ℕ) → ended (lines ++ line ∷ []) ≡ ended lines ++ end_line line
ended-more lines line = flat_map-append end_line lines (line ∷ []) ∙ ap (λ l. ended lines ++ l) (append-nil (end_line line))

pub all-more : (P : List ℕ → Type 0) (lines : List (List ℕ)) (line : List ℕ) → AllByRecursion P lines → P line → AllByRecursion P (lines ++ line ∷ [])
all-more P [] line p q = (q, tt)
all-more P (l ∷ ls) line p q = (p.0, all-more P ls line p.1 q)

-- ---- reading

-- the session so far: these lines were read, and the reader holds what follows
pub record HasLines (most longest : ℕ) (left_old left_new : Option (List ℕ)) (lines : List (List ℕ)) (reader : Reading) : Type 0 where
  pub read : HasRead most longest left_old left_new lines [] reader.pending
  pub budget : reader.budget + length (ended lines) ≡ most

pub HasLines-none : (most longest : ℕ) (x : Option (List ℕ)) (reader : Reading) → reader.pending ≡ [] → reader.budget ≡ most → HasLines most longest x x [] reader
HasLines-none most longest x reader p q = record {
  read = record {
    input = [];
    consumed = Consumes-nil x;
    split = sym p;
    each = tt;
    tail_fits = record { line_only = tt; short = omega arith };
    total = omega arith;
  };
  budget = omega arith;
}

-- the bytes read so far, where more was handled
read-split : (before pending now handled after more : List ℕ) → before ≡ (now ++ []) ++ pending → pending ++ more ≡ handled ++ after
    → before ++ more ≡ (now ++ handled) ++ after
read-split before pending now handled after more p q =
    ap (λ l. l ++ more) (p ∙ ap (λ l. l ++ pending) (append-nil now)) ∙ append_assoc now pending more ∙ ap (λ l. now ++ l) q ∙ sym (append_assoc now handled after)

-- an open line was read
pub HasRead-open : (most longest : ℕ) (x y z : Option (List ℕ)) (lines : List (List ℕ)) (a b : Reading) (tail : List ℕ)
    → HasLines most longest x y lines a → IsOpen longest a b y z tail → HasRead most longest x z lines tail b.pending
HasRead-open most longest x y z lines a b tail p q = record {
  input = p.read.input ++ q.handled.input;
  consumed = Consumes-trans x y z _ _ p.read.consumed q.handled.consumed;
  split = read-split _ _ (ended lines) _ _ _ p.read.split q.handled.split;
  each = p.read.each;
  tail_fits = q.fits;
  total = omega (arith, length-append (ended lines) tail, p.budget, q.handled.budget);
}

-- a line was read with its newline
pub HasLines-more : (most longest : ℕ) (x y z : Option (List ℕ)) (lines : List (List ℕ)) (a b : Reading) (line : List ℕ)
    → HasLines most longest x y lines a → Fits longest line → Handles a b y z (end_line line) → HasLines most longest x z (lines ++ line ∷ []) b
HasLines-more most longest x y z lines a b line p f q =
    let e : ended (lines ++ line ∷ []) ≡ ended lines ++ end_line line = ended-more lines line in
    let n : length (ended (lines ++ line ∷ [])) ≡ length (ended lines) + length (end_line line) = ap length e ∙ length-append (ended lines) (end_line line) in
    let none : length (ended (lines ++ line ∷ []) ++ []) ≡ length (ended (lines ++ line ∷ [])) = ap length (append-nil (ended (lines ++ line ∷ []))) in
    record {
      read = record {
        input = p.read.input ++ q.input;
        consumed = Consumes-trans x y z _ _ p.read.consumed q.consumed;
        split = read-split _ _ (ended lines) _ _ _ p.read.split q.split ∙ ap (λ l. l ++ b.pending) (sym e ∙ sym (append-nil (ended (lines ++ line ∷ []))));
        each = all-more (Fits longest) lines line p.read.each f;
        tail_fits = p.read.tail_fits;
        total = omega (arith, n, none, p.budget, q.budget);
      };
      budget = omega (arith, n, p.budget, q.budget);
    }

-- what was handled behind the lines counts as not looked at
pub HasRead-unlooked : (most longest : ℕ) (x y z : Option (List ℕ)) (lines : List (List ℕ)) (a b : Reading) (bytes : List ℕ)
    → HasLines most longest x y lines a → Handles a b y z bytes → HasRead most longest x z lines [] (bytes ++ b.pending)
HasRead-unlooked most longest x y z lines a b bytes p q = record {
  input = p.read.input ++ q.input;
  consumed = Consumes-trans x y z _ _ p.read.consumed q.consumed;
  split = read-split _ _ (ended lines) _ _ _ p.read.split q.split ∙ append_assoc (ended lines) bytes b.pending ∙ ap (λ l. l ++ (bytes ++ b.pending)) (sym (append-nil (ended lines)));
  each = p.read.each;
  tail_fits = p.read.tail_fits;
  total = p.read.total;
}

pub read-none : (most longest : ℕ) (x : Option (List ℕ)) → HasRead most longest x x [] [] []
read-none most longest x = record {
  input = [];
  consumed = Consumes-nil x;
  split = refl;
  each = tt;
  tail_fits = record { line_only = tt; short = omega arith };
  total = omega arith;
}

pub all_lines-last : (lines : List (List ℕ)) (tail : List ℕ) → 0 < length tail → all_lines lines tail ≡ lines ++ tail ∷ []
all_lines-last lines [] p = absurd (omega arith)
all_lines-last lines (b ∷ bs) p = refl

module _ {X : Type 0} (Answers : X → List ℕ → List ℕ → X → Type 0) (front : List ℕ) where
  pub Session-more : (old mid new : X) (lines : List (List ℕ)) (out line reply : List ℕ)
      → Session Answers old lines out mid → Answers mid line reply new → Session Answers old (lines ++ line ∷ []) (out ++ end_line reply) new
  Session-more old mid new [] out line reply p q =
      let a : Answers old line reply new = subst (λ (m : X). Answers m line reply new) p.0 q in
      (new, reply, [], a, (refl, refl), ap (λ l. l ++ end_line reply) p.1 ∙ sym (append-nil (end_line reply)))
  Session-more old mid new (l ∷ ls) out line reply p q = (
    p.0,
    p.1,
    p.2 ++ end_line reply,
    p.3,
    Session-more p.0 mid new ls p.2 line reply p.4 q,
    ap (λ x. x ++ end_line reply) p.5 ∙ append_assoc (end_line p.1) p.2 (end_line reply),
  )

  -- ---- writing

  pub HasWritten-none : (x y : Option (List ℕ)) (old : X) → Appends x y (front) → HasWritten Answers front x y old [] old
  HasWritten-none x y old p = record { written = []; appended = subst (Appends x y) (sym (append-nil (front))) p; answers = (refl, refl) }

  pub HasWritten-more : (x y z : Option (List ℕ)) (old mid new : X) (lines : List (List ℕ)) (line : List ℕ)
      → HasWritten Answers front x y old lines mid → Replied Answers y z mid line new → HasWritten Answers front x z old (lines ++ line ∷ []) new
  HasWritten-more x y z old mid new lines line p q = record {
    written = p.written ++ end_line q.0;
    appended = subst (Appends x z) (append_assoc (front) p.written (end_line q.0)) (Appends-trans x y z _ _ p.appended q.2);
    answers = Session-more old mid new lines p.written line q.0 p.answers q.1;
  }

  -- nothing was done with a line
  pub HasWritten-kept : (x y z : Option (List ℕ)) (old mid new : X) (lines : List (List ℕ))
      → HasWritten Answers front x y old lines mid → (new ≡ mid) × Appends y z [] → HasWritten Answers front x z old lines new
  HasWritten-kept x y z old mid new lines p q = record {
    written = p.written;
    appended = subst (Appends x z) (append-nil (front ++ p.written)) (Appends-trans x y z _ _ p.appended q.1);
    answers = subst (Session Answers old lines p.written) (sym q.0) p.answers;
  }

  -- the session so far, at the head of the loop
  pub record Going (most longest : ℕ) (left_old left_new taken_old taken_new : Option (List ℕ)) (old new : X) (reader : Reading) : Type 0 where
    pub lines : List (List ℕ)
    pub has : HasLines most longest left_old left_new lines reader
    pub wrote : HasWritten Answers front taken_old taken_new old lines new

  -- ---- the exits

  pub Going-first : (most longest : ℕ) (x t u : Option (List ℕ)) (old : X) (reader : Reading)
      → Appends t u (front) → reader.pending ≡ [] → reader.budget ≡ most → Going most longest x x t u old old reader
  Going-first most longest x t u old reader p q r = record {
    lines = [];
    has = HasLines-none most longest x reader q r;
    wrote = HasWritten-none t u old p;
  }

  pub Going-more : (most longest : ℕ) (x y z t u v : Option (List ℕ)) (old mid new : X) (a b : Reading) (line : List ℕ)
      → Going most longest x y t u old mid a → Fits longest line × Handles a b y z (end_line line) → Replied Answers u v mid line new
      → Going most longest x z t v old new b
  Going-more most longest x y z t u v old mid new a b line p q r = record {
    lines = p.lines ++ line ∷ [];
    has = HasLines-more most longest x y z p.lines a b line p.has q.0 q.1;
    wrote = HasWritten-more t u v old mid new p.lines line p.wrote r;
  }

  -- the last line, which has no newline, was answered
  pub done-last : (most longest : ℕ) (x y z t u v : Option (List ℕ)) (old mid new : X) (a b : Reading) (line : List ℕ)
      → Going most longest x y t u old mid a → IsOpen longest a b y z line × (b.pending ≡ []) × IsAtEnd z → 0 < length line → Replied Answers u v mid line new
      → IsDone Answers front most longest x z t v old new
  done-last most longest x y z t u v old mid new a b line p q n r = record {
    lines = p.lines;
    tail = line;
    read = subst (HasRead most longest x z p.lines line) q.1 (HasRead-open most longest x y z p.lines a b line p.has q.0);
    finished = q.2;
    wrote = subst (λ (ls : List (List ℕ)). HasWritten Answers front t v old ls new) (sym (all_lines-last p.lines line n)) (HasWritten-more t u v old mid new p.lines line p.wrote r);
  }

  -- the last line had a newline, and nothing came behind it
  pub done-ended : (most longest : ℕ) (x y z t u : Option (List ℕ)) (old new : X) (a b : Reading) (line : List ℕ)
      → Going most longest x y t u old new a → IsOpen longest a b y z line × (b.pending ≡ []) × IsAtEnd z → line ≡ []
      → IsDone Answers front most longest x z t u old new
  done-ended most longest x y z t u old new a b line p q e = record {
    lines = p.lines;
    tail = [];
    read = subst (λ (l : List ℕ). HasRead most longest x z p.lines l []) e
        (subst (HasRead most longest x z p.lines line) q.1 (HasRead-open most longest x y z p.lines a b line p.has q.0));
    finished = q.2;
    wrote = p.wrote;
  }

  -- the source failed
  pub stopped-fault : (most longest : ℕ) (x y z t u : Option (List ℕ)) (old new : X) (a b : Reading)
      → Going most longest x y t u old new a → (line : List ℕ) × IsOpen longest a b y z line × (b.pending ≡ [])
      → IsStopped Answers front most longest x z t u old new NoRest
  stopped-fault most longest x y z t u old new a b p q = record {
    lines = p.lines;
    tail = q.0;
    rest = b.pending;
    read = HasRead-open most longest x y z p.lines a b q.0 p.has q.1;
    wrote = p.wrote;
    cause = q.2;
  }

  pub stopped-long : (most longest : ℕ) (x y z t u : Option (List ℕ)) (old new : X) (a b : Reading)
      → Going most longest x y t u old new a
      → (line : List ℕ) × (byte : ℕ) × (more : List ℕ) × IsOpen longest a b y z line × (length line ≡ longest) × (b.pending ≡ byte ∷ more) × (byte ≢ 10) × (0 < b.budget)
      → IsStopped Answers front most longest x z t u old new (MakesTooLong most longest)
  stopped-long most longest x y z t u old new a b p q = record {
    lines = p.lines;
    tail = q.0;
    rest = b.pending;
    read = HasRead-open most longest x y z p.lines a b q.0 p.has q.3;
    wrote = p.wrote;
    cause = (q.1, q.2, q.5, q.6, q.4, omega (arith, length-append (ended p.lines) q.0, p.has.budget, q.3.handled.budget, q.7));
  }

  pub stopped-much : (most longest : ℕ) (x y z t u : Option (List ℕ)) (old new : X) (a b : Reading)
      → Going most longest x y t u old new a
      → (line : List ℕ) × (byte : ℕ) × (more : List ℕ) × IsOpen longest a b y z line × (b.pending ≡ byte ∷ more) × (b.budget ≡ 0)
      → IsStopped Answers front most longest x z t u old new (MakesTooMuch most)
  stopped-much most longest x y z t u old new a b p q = record {
    lines = p.lines;
    tail = q.0;
    rest = b.pending;
    read = HasRead-open most longest x y z p.lines a b q.0 p.has q.3;
    wrote = p.wrote;
    cause = (q.1, q.2, q.4, omega (arith, length-append (ended p.lines) q.0, p.has.budget, q.3.handled.budget, q.5));
  }
