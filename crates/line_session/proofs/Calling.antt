-- What the calls of a source and a sink gave and took, from call to call.
use Rattle.std.proofs.Common.{◌≡◌, ◌≢◌, ℕ, ◌+◌, ◌-◌, ◌<◌, List, [], ◌∷◌, ◌++◌, length, take, drop, refl, sym, ap, ◌∙◌}
use Rattle.std.proofs.Common.{subst, arith, append-nil, length-append, inl, Some, None, Ok, Err}
use Rattle.std.proofs.Math.Seq.{take-add}
use Rattle.std.proofs.lemmas.List.{take-append-drop}
use Rattle.std.proofs.lemmas.List.Folds.{concat-append}
use Rattle.std.specs.List.{FoldsTo, concat}
use Rattle.line_session.specs.Calls.{ByCalls, Gave, GaveAll, GaveAndFailed, GivesPiece, PeeksBy, Took, TookPart}
use Rattle.line_session.specs.Calls.{TookPartAndFailed, WriteCall}
use Rattle.line_session.specs.Reading.{Reading, Handles}
use Rattle.line_session.specs.NextLine.{IsOpen}
use Rattle.line_session.specs.declared.ends.Failed.{Failed}
use Rattle.line_session.specs.declared.ends.Sink.{Ghosts as SinkGhosts}
use Rattle.line_session.specs.declared.ends.SinkError.{SinkError}
use Rattle.line_session.specs.declared.ends.Source.{Ghosts as SourceGhosts}
use Rattle.line_session.proofs.Handling.{Handles-one, Handles-trans, IsLine-more, IsOpen-peeked}
use Rattle.line_session.proofs.Pieces.{rest-whole}

module _ {X : Type 0} (Call : X → List ℕ → X → Type 0) where
  pieces-then : (a b c : X) (xs ys : List (List ℕ)) → FoldsTo Call a xs b → FoldsTo Call b ys c
      → FoldsTo Call a (xs ++ ys) c
  pieces-then a b c [] ys p q = subst (λ (x : X). FoldsTo Call x ys c) (sym p) q
  pieces-then a b c (x ∷ xs) ys p q = (p.0, p.1, pieces-then p.0 b c xs ys p.2 q)

  pub ByCalls-none : (a : X) → ByCalls Call a [] a
  ByCalls-none a = record { pieces = []; calls = refl; whole = refl }

  pub ByCalls-one : (a b : X) (piece : List ℕ) → Call a piece b → ByCalls Call a piece b
  ByCalls-one a b piece p = record { pieces = piece ∷ []; calls = (b, p, refl); whole = append-nil piece }

  pub ByCalls-then : (a b c : X) (xs ys : List ℕ) → ByCalls Call a xs b → ByCalls Call b ys c
      → ByCalls Call a (xs ++ ys) c
  ByCalls-then a b c xs ys p q = record {
    pieces = p.pieces ++ q.pieces;
    calls = pieces-then a b c p.pieces q.pieces p.calls q.calls;
    whole = concat-append p.pieces q.pieces ∙ ap
        (λ (l : List ℕ). l ++ concat q.pieces) p.whole ∙ ap (λ (l : List ℕ). xs ++ l) q.whole;
  }

  -- a call took n bytes behind the first `at`
  pub ByCalls-at : (a b c : X) (bytes : List ℕ) (at n : ℕ) → ByCalls Call a (take at bytes) b
      → Call b (take n (take (length bytes - at) (drop at bytes))) c → ByCalls Call a (take (at + n) bytes) c
  ByCalls-at a b c bytes at n p q =
      subst (λ (l : List ℕ). ByCalls Call a l c)
      (ap (λ (l : List ℕ). take at bytes ++ take n l) (rest-whole bytes at) ∙ sym (take-add at n bytes))
      (ByCalls-then a b c (take at bytes) (take n (take (length bytes - at) (drop at bytes))) p (ByCalls-one b c _ q))

module _ {K : Type 0} (sink : SinkGhosts K) (bytes : List ℕ) (old new : K) where
  -- a call for what stands behind the first `at` bytes answered an error
  pub failed-at : (at : ℕ) (mid : K) (error : SinkError) → Took sink old (take at bytes) mid
      → WriteCall sink mid (take (length bytes - at) (drop at bytes)) (Err error) new
      → TookPartAndFailed sink old bytes error new
  failed-at at mid error took call = (
    take at bytes,
    drop at bytes,
    take-append-drop at bytes,
    (mid, take (length bytes - at) (drop at bytes), took, call),
  )

  -- so calls took a part of the bytes
  pub part-before : (error : SinkError) → TookPartAndFailed sink old bytes error new
      → TookPart sink old bytes error new
  part-before error (part, more, whole, failed) = (part, more, whole, inl failed)

-- ---- bytes that come later

pub Handles-later : (a b : Reading) (xs ys bytes : List ℕ) → Handles a b (Some xs) (Some []) bytes
    → Handles a b (Some (xs ++ ys)) (Some ys) bytes
Handles-later a b xs ys bytes p = record {
  input = p.input;
  consumed = ap (λ (l : List ℕ). l ++ ys) (p.consumed ∙ append-nil p.input);
  split = p.split;
  budget = p.budget;
}

pub IsOpen-later : (longest : ℕ) (a b : Reading) (xs ys line : List ℕ) → IsOpen longest a b (Some xs) (Some []) line
    → IsOpen longest a b (Some (xs ++ ys)) (Some ys) line
IsOpen-later longest a b xs ys line p = record { fits = p.fits; handled = Handles-later a b xs ys line p.handled }

-- ---- a line

-- calls gave some bytes, of which an open line was handled
pub record IsOpenBy {S : Type 0} (source : SourceGhosts S) (longest : ℕ) (a b : Reading) (old new : S)
    (line : List ℕ) : Type 0 where
  pub input : List ℕ
  pub calls : Gave source old input new
  pub opened : IsOpen longest a b (Some input) (Some []) line

-- nothing was read yet
pub IsOpenBy-none : {S : Type 0} (source : SourceGhosts S) (longest : ℕ) (a : Reading) (s : S) (line : List ℕ)
    → IsOpen longest a a (Some []) (Some []) line → IsOpenBy source longest a a s s line
IsOpenBy-none source longest a s line p = record { input = []; calls = ByCalls-none (GivesPiece source) s; opened = p }

module _ {S : Type 0} (source : SourceGhosts S) (longest : ℕ) (a b c : Reading) (s t u : S) (line : List ℕ) where
  opens : (p : IsOpenBy source longest a b s t line) (more : List ℕ) → Handles b c (Some more) (Some []) []
      → IsOpen longest a c (Some (p.input ++ more)) (Some []) line
  opens p more h = IsOpen-peeked longest a b c (Some (p.input ++ more)) (Some more) (Some []) line
      (IsOpen-later longest a b p.input more line p.opened) h

  -- a look at the next byte, which is there
  pub opens-some : (byte : ℕ) → IsOpenBy source longest a b s t line → PeeksBy source b c t u (Ok (Some byte))
      → IsOpenBy source longest a c s u line
  opens-some byte p q = record {
    input = p.input ++ q.input;
    calls = ByCalls-then (GivesPiece source) s t u p.input q.input p.calls q.calls;
    opened = opens p q.input q.handles;
  }

  -- at the end
  pub opens-none : IsOpenBy source longest a b s t line → PeeksBy source b c t u (Ok None)
      → (input : List ℕ) × GaveAll source s input u × IsOpen longest a c (Some input) (Some []) line
  opens-none p q = (
    p.input ++ q.input,
    (q.calls.0, q.calls.1, ByCalls-then (GivesPiece source) s t q.calls.0 p.input q.input p.calls q.calls.2, q.calls.3),
    opens p q.input q.handles,
  )

  -- at a fault
  pub opens-failed : (failed : Failed) → IsOpenBy source longest a b s t line → PeeksBy source b c t u (Err failed)
      → (input : List ℕ) × GaveAndFailed source s input u × IsOpen longest a c (Some input) (Some []) line
  opens-failed failed p q = (
    p.input ++ q.input,
    (
      q.calls.0,
      q.calls.1,
      q.calls.2,
      ByCalls-then (GivesPiece source) s t q.calls.0 p.input q.input p.calls
          q.calls.3,
      q.calls.4,
    ),
    opens p q.input q.handles,
  )

-- a byte was handled that ends no line and makes none too long
pub IsOpenBy-more : {S : Type 0} (source : SourceGhosts S) (longest : ℕ) (a b c : Reading) (s t : S) (line : List ℕ)
    (byte : ℕ)
    → IsOpenBy source longest a b s t line → b.pending ≡ byte ∷ drop 1 b.pending → c.pending ≡ drop 1 b.pending
    → c.budget + 1 ≡ b.budget
    → byte ≢ 10 → length line < longest → IsOpenBy source longest a c s t (line ++ byte ∷ [])
IsOpenBy-more source longest a b c s t line byte p first rest budget n short = record {
  input = p.input;
  calls = p.calls;
  opened = record {
    fits = record {
      line_only = IsLine-more line byte p.opened.fits.line_only n;
      short = omega
          (arith, length-append line (byte ∷ []));
    };
    handled = Handles-trans a b c (Some p.input) (Some []) (Some []) line (byte ∷ []) p.opened.handled
        (Handles-one b c (Some []) byte first rest budget);
  };
}
