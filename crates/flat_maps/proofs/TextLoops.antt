-- What a loop has written of some fields, before what is left; and a map that takes entries in turn.
use Rattle.std.proofs.Common.{add-one, ◌≡◌, ◌≢◌, ℕ, zero, suc, ◌+◌, ◌<◌, ◌≤◌, List, [], ◌∷◌, ◌++◌, Option, Some, None, Less, Equal, Greater, refl, sym, ◌∙◌, ap, ap₂, subst, length, drop, take, get_or, map, fold, arith, nat_cmp}
use Rattle.std.proofs.lemmas.List.{append-nil, drop_more, take_more}
use Rattle.std.proofs.lemmas.Map.Lookups.{exact_bytes}
use Rattle.std.proofs.Math.ListN.{drop_of_length-le}
use Rattle.std.specs.Prelude.{slice_get}
use Rattle.std.specs.BTreeMap.{insert_entry}
use Rattle.std.specs.Cmp.Lexicographic.{slice_cmp}
use Rattle.std.specs.List.{AllByRecursion}
use Rattle.std.specs.Ordering.{match_ordering}
use Rattle.std.specs.declared.cmp.Ordering.{Ordering}
use Rattle.std.specs.declared.result.Result.TheVariants.{Ok, Err}
use Rattle.schema_values.specs.Order.{at_place, inserted_by, sorted_by}
use Rattle.schema_values.specs.Sound.{AreDistinct}
use Rattle.schema_values.proofs.CallerLemmas.{all_sorted}
use Rattle.descriptors.specs.declared.desc.Field.{Field}
use Rattle.descriptors.specs.declared.table.Definition.{Definition}
use Rattle.descriptors.specs.declared.tree.Tree.{Tree}
use Rattle.descriptors.specs.Definitions.{field_name}
use Rattle.flat_maps.specs.declared.map_error.MapError.{MapError}
use Rattle.flat_maps.specs.declared.map_error.MapError.TheVariants.{Refused, OutOfMemory}
use Rattle.flat_maps.specs.MapErrors.{IsToldBy}
use Rattle.flat_maps.specs.TextMaps.{TextEntry, entry_name, FieldText, WrittenTexts, field_text, entries_with, entry_before, before_rest, texts_written}

-- ---- fields that are written
-- the entries so far, before those of the rest
abbrev pub behind : List TextEntry → WrittenTexts → WrittenTexts
behind [] rest = rest
behind (e ∷ es) rest = entry_before e.0 (Some e.1) (behind es rest)

behind-append : (es : List TextEntry) (e : TextEntry) (rest : WrittenTexts) → behind (es ++ e ∷ []) rest ≡ behind es (entry_before e.0 (Some e.1) rest)
behind-append [] e rest = refl
behind-append (d ∷ es) e rest = ap (entry_before d.0 (Some d.1)) (behind-append es e rest)

behind_refusal : (es : List TextEntry) (text : List ℕ) → behind es (Err text) ≡ Err text
behind_refusal [] text = refl
behind_refusal (e ∷ es) text = ap (entry_before e.0 (Some e.1)) (behind_refusal es text)

behind_all : (es : List TextEntry) → behind es (Ok []) ≡ Ok es
behind_all [] = refl
behind_all (e ∷ es) = ap (entry_before e.0 (Some e.1)) (behind_all es)

no_entry : (name : List ℕ) (rest : WrittenTexts) → entry_before name None rest ≡ rest
no_entry name (Ok es) = refl
no_entry name (Err text) = refl

drop_suc : {X : Type 0} (xs : List X) (i : ℕ) (x : X) → slice_get xs i ≡ Some x → drop i xs ≡ x ∷ drop (suc i) xs
drop_suc [] i x e = absurd (cc e)
drop_suc {X} (y ∷ xs) zero x e = ap (λ (z : X). z ∷ xs) (cc e)
drop_suc (y ∷ xs) (suc i) x e = drop_suc xs i x e

drop_at : {X : Type 0} (xs : List X) (i : ℕ) (x : X) → slice_get xs i ≡ Some x → drop i xs ≡ x ∷ drop (i + 1) xs
drop_at xs i x e = rw add-one (drop_suc xs i x e)

drop_none : {X : Type 0} (xs : List X) (i : ℕ) → slice_get xs i ≡ None → drop i xs ≡ []
drop_none [] zero e = refl
drop_none [] (suc i) e = refl
drop_none (y ∷ xs) zero e = absurd (cc e)
drop_none (y ∷ xs) (suc i) e = drop_none xs i e

no_trees : (table : List Definition) (fs : List Field) → texts_written table fs [] ≡ Ok []
no_trees table [] = refl
no_trees table (f ∷ fs) = refl

module _ (table : List Definition) (whole : WrittenTexts) (fs : List Field) (ts : List Tree) (i : ℕ) (es : List TextEntry) (e : whole ≡ behind es (texts_written table (drop i fs) (drop i ts))) where
  module _ (f : Field) (t : Tree) (less : i < length fs) (is : f ≡ get_or fs i f) (there : slice_get ts i ≡ Some t) where
    next_text : whole ≡ behind es (before_rest f.name (field_text table f t) (texts_written table (drop (i + 1) fs) (drop (i + 1) ts)))
    next_text =
        e
        ∙ ap₂ (λ (gs : List Field) (us : List Tree). behind es (texts_written table gs us)) (drop_more fs i f less ∙ ap (λ (g : Field). g ∷ drop (i + 1) fs) (sym is)) (drop_at ts i t there)

    -- its text is there, or none
    pub text_told : (o : Option (List ℕ)) → field_text table f t ≡ Ok o → whole ≡ behind (es ++ entries_with f.name o []) (texts_written table (drop (i + 1) fs) (drop (i + 1) ts))
    text_told o ok =
        next_text
        ∙ ap (λ (a : FieldText). behind es (before_rest f.name a (texts_written table (drop (i + 1) fs) (drop (i + 1) ts)))) ok
        ∙ by_text o (texts_written table (drop (i + 1) fs) (drop (i + 1) ts))
      where
        by_text : (o : Option (List ℕ)) (rest : WrittenTexts) → behind es (entry_before f.name o rest) ≡ behind (es ++ entries_with f.name o []) rest
        by_text None rest = ap (behind es) (no_entry f.name rest) ∙ ap (λ (ds : List TextEntry). behind ds rest) (sym (append-nil es))
        by_text (Some text) rest = sym (behind-append es (f.name, text) rest)

    -- the field is refused
    text_refused : (text : List ℕ) → field_text table f t ≡ Err text → whole ≡ Err text
    text_refused text bad =
        next_text
        ∙ ap (λ (o : FieldText). behind es (before_rest f.name o (texts_written table (drop (i + 1) fs) (drop (i + 1) ts)))) bad
        ∙ behind_refusal es text

    pub text_err : (error : MapError) → IsToldBy error (field_text table f t) → IsToldBy error whole
    text_err (Refused text) h = text_refused text h
    text_err OutOfMemory h = tt

  -- there is no field left
  pub fields_end : length fs ≤ i → whole ≡ Ok es
  fields_end h = e ∙ ap (λ (gs : List Field). behind es (texts_written table gs (drop i ts))) (drop_of_length-le fs h) ∙ behind_all es

  -- there is no tree left
  pub trees_end : slice_get ts i ≡ None → whole ≡ Ok es
  trees_end h = e ∙ ap (λ (us : List Tree). behind es (texts_written table (drop i fs) us)) (drop_none ts i h) ∙ ap (behind es) (no_trees table (drop i fs)) ∙ behind_all es

-- ---- a map that takes entries
inserted : (key text : List ℕ) (es : List TextEntry) → AllByRecursion (λ e. key ≢ entry_name e) es → insert_entry (slice_cmp nat_cmp) es key text ≡ inserted_by entry_name (key, text) es
inserted key text [] h = refl
inserted key text (e ∷ es) h = by_order (ap (λ (rest : List TextEntry). e ∷ rest) (inserted key text es h.1)) (slice_cmp nat_cmp key e.0) refl
  where
    by_order : e ∷ insert_entry (slice_cmp nat_cmp) es key text ≡ e ∷ inserted_by entry_name (key, text) es → (o : Ordering) → slice_cmp nat_cmp key e.0 ≡ o
        → match_ordering o ((key, text) ∷ e ∷ es) ((e.0, text) ∷ es) (e ∷ insert_entry (slice_cmp nat_cmp) es key text) ≡ at_place o (key, text) e es (inserted_by entry_name (key, text) es)
    by_order later Less q = refl
    by_order later Equal q = absurd (h.0 (exact_bytes key e.0 q))
    by_order later Greater q = later

sorted_last : (es : List TextEntry) (e : TextEntry) (sorted : List TextEntry) → fold (λ s x. inserted_by entry_name x s) sorted (es ++ e ∷ []) ≡ inserted_by entry_name e (fold (λ s x. inserted_by entry_name x s) sorted es)
sorted_last [] e sorted = refl
sorted_last (d ∷ es) e sorted = sorted_last es e (inserted_by entry_name d sorted)

entry_at : (P : List ℕ → Type 0) (es : List TextEntry) (i : ℕ) (e : TextEntry) → AllByRecursion P (map entry_name es) → i < length es → P (get_or es i e).0
entry_at P [] i e h less = absurd (omega (arith, less))
entry_at P (d ∷ es) zero e h less = h.0
entry_at P (d ∷ es) (suc i) e h less = entry_at P es i e h.1 (omega (arith, less))

others_before : (es : List TextEntry) (i : ℕ) (e : TextEntry) → AreDistinct (map entry_name es) → i < length es → AllByRecursion (λ d. (get_or es i e).0 ≢ entry_name d) (take i es)
others_before [] i e h less = absurd (omega (arith, less))
others_before (d ∷ es) zero e h less = tt
others_before (d ∷ es) (suc i) e h less = (λ same. entry_at (λ other. d.0 ≢ other) es i e h.0 (omega (arith, less)) (sym same), others_before es i e h.1 (omega (arith, less)))

-- a map that has those before a place in order, and then takes the one there
pub next_sorted : (entries es : List TextEntry) (i : ℕ) (e : TextEntry) → AreDistinct (map entry_name es) → i < length es → e ≡ get_or es i e → entries ≡ sorted_by entry_name (take i es)
    → insert_entry (slice_cmp nat_cmp) entries e.0 e.1 ≡ sorted_by entry_name (take (i + 1) es)
next_sorted entries es i e apart less is same =
    let others = subst (λ (x : TextEntry). AllByRecursion (λ d. x.0 ≢ entry_name d) (take i es)) (sym is) (others_before es i e apart less) in
    ap (λ (s : List TextEntry). insert_entry (slice_cmp nat_cmp) s e.0 e.1) same
    ∙ inserted e.0 e.1 (sorted_by entry_name (take i es)) (all_sorted (λ d. e.0 ≢ entry_name d) entry_name (take i es) others)
    ∙ sym (sorted_last (take i es) e [])
    ∙ ap (λ (x : TextEntry). sorted_by entry_name (take i es ++ x ∷ [])) is
    ∙ ap (sorted_by entry_name) (sym (take_more es i e less))

-- ---- names of entries
-- no entry has the name of a field before
pub without : (name : List ℕ) (table : List Definition) (fs : List Field) (ts : List Tree) (es : List TextEntry) → AllByRecursion (λ other. name ≢ other) (map field_name fs) → texts_written table fs ts ≡ Ok es → AllByRecursion (λ other. name ≢ other) (map entry_name es)
without name table [] ts es h e = subst (λ (ds : List TextEntry). AllByRecursion (λ other. name ≢ other) (map entry_name ds)) {x = []} (cc e) tt
without name table (f ∷ fs) [] es h e = subst (λ (ds : List TextEntry). AllByRecursion (λ other. name ≢ other) (map entry_name ds)) {x = []} (cc e) tt
without name table (f ∷ fs) (t ∷ ts) es h e = by_text (λ ds. without name table fs ts ds h.1) (field_text table f t) (texts_written table fs ts) refl e
  where
    by_text : ((ds : List TextEntry) → texts_written table fs ts ≡ Ok ds → AllByRecursion (λ other. name ≢ other) (map entry_name ds)) → (o : FieldText) (rest : WrittenTexts) → texts_written table fs ts ≡ rest → before_rest f.name o rest ≡ Ok es
        → AllByRecursion (λ other. name ≢ other) (map entry_name es)
    by_text more (Ok None) (Ok ds) q e = more es (q ∙ e)
    by_text more (Ok (Some text)) (Ok ds) q e = subst (λ (xs : List TextEntry). AllByRecursion (λ other. name ≢ other) (map entry_name xs)) {x = (f.name, text) ∷ ds} (cc e) (h.0, more ds q)
    by_text more (Ok o) (Err text) q e = absurd (cc e)
    by_text more (Err text) rest q e = absurd (cc e)

-- entries of fields of distinct names have distinct names
pub written_distinct : (table : List Definition) (fs : List Field) (ts : List Tree) (es : List TextEntry) → AreDistinct (map field_name fs) → texts_written table fs ts ≡ Ok es → AreDistinct (map entry_name es)
written_distinct table [] ts es h e = subst (λ (ds : List TextEntry). AreDistinct (map entry_name ds)) {x = []} (cc e) tt
written_distinct table (f ∷ fs) [] es h e = subst (λ (ds : List TextEntry). AreDistinct (map entry_name ds)) {x = []} (cc e) tt
written_distinct table (f ∷ fs) (t ∷ ts) es h e = by_text (λ ds. written_distinct table fs ts ds h.1) (field_text table f t) (texts_written table fs ts) refl e
  where
    by_text : ((ds : List TextEntry) → texts_written table fs ts ≡ Ok ds → AreDistinct (map entry_name ds)) → (o : FieldText) (rest : WrittenTexts) → texts_written table fs ts ≡ rest → before_rest f.name o rest ≡ Ok es → AreDistinct (map entry_name es)
    by_text more (Ok None) (Ok ds) q e = more es (q ∙ e)
    by_text more (Ok (Some text)) (Ok ds) q e = subst (λ (xs : List TextEntry). AreDistinct (map entry_name xs)) {x = (f.name, text) ∷ ds} (cc e) (without f.name table fs ts ds h.0 q, more ds q)
    by_text more (Ok o) (Err text) q e = absurd (cc e)
    by_text more (Err text) rest q e = absurd (cc e)
