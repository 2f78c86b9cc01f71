-- Named headers that are inserted one by one, and what is told of the first that is no header line.
use Rattle.std.proofs.Common.{◌≡◌, ℕ, List, [], ◌∷◌, ◌++◌, sym, ◌∙◌, ap, subst, rules}
use Rattle.std.proofs.lemmas.List.{append_assoc, append-nil}
use Rattle.std.proofs.lemmas.List.Elements.{All-push}
use Rattle.std.specs.Prelude.{IfErr, IsErrAnd, Result, Ok, Err}
use Rattle.flat_maps.specs.TextMaps.{TextEntry}
use Rattle.header_lists.specs.HeaderLists.{Line}
use Rattle.api_respond.specs.NamedHeaders.{AreHeaderLines, IfRefusal, IsHeaderEntry, with_named}
use Rattle.api_respond.specs.declared.named_headers.Unwritten.{Unwritten}
use Rattle.api_respond.specs.declared.named_headers.Unwritten.TheVariants.{Refused, OutOfMemory}

-- the entries before the rest are header lines, and the rest is still to be inserted among the lines
pub record AreInserted (entries rest : List TextEntry) (before lines : List Line) : Type 0 where
  pub seen : List TextEntry
  pub place : entries ≡ seen ++ rest
  pub valid : AreHeaderLines seen
  pub all : with_named entries before ≡ with_named rest lines

pub none_inserted : (entries rest : List TextEntry) (lines : List Line) → rest ≡ entries
    → AreInserted entries rest lines lines
none_inserted entries rest lines is =
    record { seen = []; place = sym is; valid = none; all = ap (λ es. with_named es lines) (sym is) }
  where
    none : AreHeaderLines []
    none = search rules

module _ (entries rest later : List TextEntry) (before lines : List Line) (entry : TextEntry)
    (next : rest ≡ entry ∷ later) (done : AreInserted entries rest before lines) where
  placed : entries ≡ done.seen ++ entry ∷ later
  placed = done.place ∙ ap (λ es. done.seen ++ es) next

  pub one_inserted : (more : List Line) → more ≡ with_named (entry ∷ []) lines → IsHeaderEntry entry
      → AreInserted entries later before more
  one_inserted more is valid = record {
    seen = done.seen ++ entry ∷ [];
    place = placed ∙ sym (append_assoc done.seen (entry ∷ []) later);
    valid = All-push IsHeaderEntry done.seen entry done.valid valid;
    all = done.all ∙ ap (λ es. with_named es lines) next ∙ ap (with_named later) (sym is);
  }

pub all_inserted : (entries rest : List TextEntry) (before lines : List Line) → rest ≡ []
    → AreInserted entries rest before lines → (lines ≡ with_named entries before) × AreHeaderLines entries
all_inserted entries rest before lines none done = (
  sym (done.all ∙ ap (λ es. with_named es lines) none),
  rw (done.place ∙ ap (λ es. done.seen ++ es) none ∙ append-nil done.seen) done.valid,
)

-- what follows from what is told
pub told_more : (Fact Other : List ℕ → Type 0) → ((message : List ℕ) → Fact message → Other message) → (e : Unwritten)
    → IfRefusal e Fact → IfRefusal e Other
told_more Fact Other more (Refused message) h = more message h
told_more Fact Other more OutOfMemory h = tt

-- the same of an error that is handed out
pub told_out : {T : Type 0} (result : Result T Unwritten) (e : Unwritten) (Fact Other : List ℕ → Type 0)
    → IsErrAnd result (λ y. y ≡ e)
    → ((message : List ℕ) → Fact message → Other message) → IfRefusal e Fact → IfErr result (λ y. IfRefusal y Other)
told_out (Ok value) e Fact Other is more h = absurd is
told_out (Err y) e Fact Other is more h = told_more Fact Other more y (subst (λ x. IfRefusal x Fact) (sym is) h)
