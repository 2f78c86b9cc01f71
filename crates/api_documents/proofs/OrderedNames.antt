-- Names that are put in order, each once, ascend, and so do those of entries; what holds of each value still holds.
use Rattle.std.proofs.Common.{◌≡◌, ℕ, Bool, true, false, cond, List, [], ◌∷◌, fold, is_some, refl, sym, ◌∙◌, ap, subst}
use Rattle.std.specs.BTreeMap.{insert_entry, is_at}
use Rattle.std.specs.BTreeSet.{insert_key}
use Rattle.std.specs.List.{AllByRecursion}
use Rattle.std.specs.List.Sorted.{IsStrictlySortedBy}
use Rattle.std.specs.Map.{lookup}
use Rattle.std.specs.Ordering.{match_ordering, ordering_reverse}
use Rattle.std.specs.declared.cmp.Ordering.{Ordering}
use Rattle.std.specs.declared.cmp.Ordering.TheVariants.{Less, Equal, Greater}
use Rattle.std.proofs.lemmas.Cmp.{nat_list_cmp_total}
use Rattle.schema_values.proofs.CallerLemmas.{AreDistinct-sorted, Below, below_all}
use Rattle.openapi_values.specs.SoundParts.{IsSoundMap, names_of_map}
use Rattle.api_documents.specs.Ordered.{by_name, text_order, with_entry, with_texts}

-- names in order, each once
abbrev Ascend : List (List ℕ) → Type 0
Ascend = IsStrictlySortedBy text_order

below : (name other : List ℕ) → text_order name other ≡ Greater → Below other name
below name other greater = nat_list_cmp_total.antisymm other name ∙ ap ordering_reverse greater

all_with : (P : List ℕ → Type 0) (names : List (List ℕ)) (name : List ℕ) → P name → AllByRecursion P names
    → AllByRecursion P (insert_key text_order names name)
all_with P [] name here all = (here, tt)
all_with P (first ∷ names) name here all = by_order (text_order name first) (all_with P names name here all.1)
  where
    by_order : (o : Ordering) → AllByRecursion P (insert_key text_order names name)
        → AllByRecursion P
        (match_ordering o (name ∷ first ∷ names) (first ∷ names) (first ∷ insert_key text_order names name))
    by_order Less later = (here, all)
    by_order Equal later = all
    by_order Greater later = (all.0, later)

key_ascends : (names : List (List ℕ)) (name : List ℕ) → Ascend names → Ascend (insert_key text_order names name)
unfolding IsStrictlySortedBy
key_ascends [] name h = (tt, tt)
key_ascends (first ∷ names) name h = by_order (text_order name first) refl (key_ascends names name h.1)
  where
    by_order : (o : Ordering) → text_order name first ≡ o → Ascend (insert_key text_order names name)
        → Ascend (match_ordering o (name ∷ first ∷ names) (first ∷ names) (first ∷ insert_key text_order names name))
    by_order Less e later = ((e, below_all name first names e h.0), h)
    by_order Equal e later = h
    by_order Greater e later = (all_with (Below first) names name (below name first e) h.0, later)

texts_from : (more names : List (List ℕ)) → Ascend names → Ascend (with_texts names more)
texts_from [] names h = h
texts_from (name ∷ more) names h = texts_from more (insert_key text_order names name) (key_ascends names name h)

pub texts_ascend : (more : List (List ℕ)) → Ascend (with_texts [] more)
unfolding IsStrictlySortedBy
texts_ascend more = texts_from more [] tt

-- ---- entries

module _ {X : Type 0} where
  named_with : (entries : List (List ℕ × X)) (name : List ℕ) (x : X)
      → names_of_map (insert_entry text_order entries name x) ≡ insert_key text_order (names_of_map entries) name
  named_with [] name x = refl
  named_with (first ∷ entries) name x = by_order (text_order name first.0) (named_with entries name x)
    where
      by_order : (o : Ordering)
          → names_of_map (insert_entry text_order entries name x) ≡ insert_key text_order (names_of_map entries) name
          → names_of_map
          (match_ordering o ((name, x) ∷ first ∷ entries) ((first.0, x) ∷ entries)
          (first ∷ insert_entry text_order entries name x))
          ≡ match_ordering o (name ∷ first.0 ∷ names_of_map entries) (first.0 ∷ names_of_map entries)
          (first.0 ∷ insert_key text_order (names_of_map entries) name)
      by_order Less later = refl
      by_order Equal later = refl
      by_order Greater later = ap (λ (names : List (List ℕ)). first.0 ∷ names) later

  entry_ascends : (entries : List (List ℕ × X)) (entry : List ℕ × X) → Ascend (names_of_map entries)
      → Ascend (names_of_map (with_entry entries entry))
  entry_ascends entries entry h = by_test (is_some (lookup (is_at (text_order entry.0)) entries))
    where
      by_test : (b : Bool) → Ascend (names_of_map (cond b entries (insert_entry text_order entries entry.0 entry.1)))
      by_test true = h
      by_test false =
          subst Ascend (sym (named_with entries entry.0 entry.1)) (key_ascends (names_of_map entries) entry.0 h)

  entries_ascend : (more entries : List (List ℕ × X)) → Ascend (names_of_map entries)
      → Ascend (names_of_map (fold with_entry entries more))
  entries_ascend [] entries h = h
  entries_ascend (entry ∷ more) entries h =
      entries_ascend more (with_entry entries entry) (entry_ascends entries entry h)

  module _ (P : X → Type 0) where
    abbrev EachValue : List (List ℕ × X) → Type 0
    EachValue = AllByRecursion (λ entry. P entry.1)

    each_inserted : (entries : List (List ℕ × X)) (name : List ℕ) (x : X) → P x → EachValue entries
        → EachValue (insert_entry text_order entries name x)
    each_inserted [] name x here all = (here, tt)
    each_inserted (first ∷ entries) name x here all =
        by_order (text_order name first.0) (each_inserted entries name x here all.1)
      where
        by_order : (o : Ordering) → EachValue (insert_entry text_order entries name x)
            → EachValue
            (match_ordering o ((name, x) ∷ first ∷ entries) ((first.0, x) ∷ entries)
            (first ∷ insert_entry text_order entries name x))
        by_order Less later = (here, all)
        by_order Equal later = (here, all.1)
        by_order Greater later = (all.0, later)

    each_with : (entries : List (List ℕ × X)) (entry : List ℕ × X) → P entry.1 → EachValue entries
        → EachValue (with_entry entries entry)
    each_with entries entry here all = by_test (is_some (lookup (is_at (text_order entry.0)) entries))
      where
        by_test : (b : Bool) → EachValue (cond b entries (insert_entry text_order entries entry.0 entry.1))
        by_test true = all
        by_test false = each_inserted entries entry.0 entry.1 here all

    each_from : (more entries : List (List ℕ × X)) → EachValue more → EachValue entries
        → EachValue (fold with_entry entries more)
    each_from [] entries new all = all
    each_from (entry ∷ more) entries new all =
        each_from more (with_entry entries entry) new.1 (each_with entries entry new.0 all)

    -- entries in order are a sound map, where each value is sound
    pub by_name_sound : (entries : List (List ℕ × X)) → EachValue entries → IsSoundMap P (by_name entries)
    unfolding IsStrictlySortedBy
    by_name_sound entries all = (
      each_from entries [] all tt,
      AreDistinct-sorted (names_of_map (by_name entries)) (entries_ascend entries [] tt),
    )
