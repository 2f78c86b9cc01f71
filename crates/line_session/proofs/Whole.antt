-- What a session to the end of its input says.
use Rattle.std.proofs.Common.{◌≡◌, ℕ, List, ◌++◌, Some, None, sym, ap, ◌∙◌, subst, append-nil}
use Rattle.std.specs.Io.KnownBytes.{Appends}
use Rattle.std.specs.declared.option.Option.{Option}
use Rattle.line_session.specs.Lines.{ended, all_lines, lines_of}
use Rattle.line_session.specs.Session.{Session, IsDone, IsAnswered}
use Rattle.line_session.specs.Status.{IsServed}
use Rattle.line_session.specs.declared.serving.SessionEnd.{SessionEnd}
use Rattle.line_session.proofs.LineLemmas.{lines_of-read}
use Rattle.line_session.proofs.Limits.{left-none}

took : (before out : List ℕ) (t u : Option (List ℕ)) → Appends t u out → t ≡ Some before → u ≡ Some (before ++ out)
took before out None u p e = absurd (cc)
took before out (Some xs) None p e = absurd p
took before out (Some xs) (Some ys) p e =
    let same : xs ≡ before = cc in
    ap Some (p ∙ ap (λ (l : List ℕ). l ++ out) same)

module _ {X : Type 0} (Answers : X → List ℕ → List ℕ → X → Type 0) (front : List ℕ) where
  -- of a source and a sink that tell their bytes
  pub answered : (most longest : ℕ) (x y t u : Option (List ℕ)) (old new : X) (all before : List ℕ)
      → IsDone Answers front most longest x y t u old new → x ≡ Some all → t ≡ Some before → IsAnswered Answers front all before y u old new
  answered most longest x y t u old new all before p e f =
      let l = left-none all p.read.input x y p.read.consumed p.finished e in
      let whole : all ≡ ended p.lines ++ p.tail = l.0 ∙ p.read.split ∙ append-nil (ended p.lines ++ p.tail) in
      let lines : lines_of all ≡ all_lines p.lines p.tail = ap lines_of whole ∙ lines_of-read longest p.lines p.tail p.read.each p.read.tail_fits.line_only in
      record {
        replies = p.wrote.written;
        nothing_left = l.1;
        written = took before (front ++ p.wrote.written) t u p.wrote.appended f;
        answers = subst (λ (ls : List (List ℕ)). Session Answers old ls p.wrote.written new) (sym lines) p.wrote.answers;
      }

  pub served-at : (Lost : X → List ℕ → X → Type 0) (most longest : ℕ) (x y t u : Option (List ℕ)) (old new : X) (a b : SessionEnd)
      → IsServed Answers Lost front most longest x y t u old new a → a ≡ b → IsServed Answers Lost front most longest x y t u old new b
  served-at Lost most longest x y t u old new a b p e = subst (IsServed Answers Lost front most longest x y t u old new) e p
