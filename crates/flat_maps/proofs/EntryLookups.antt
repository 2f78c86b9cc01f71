-- What is looked up among entries in the order of their names.
use Rattle.std.proofs.Common.{◌≡◌, ◌≢◌, ℕ, Bool, true, false, cond, List, [], ◌∷◌, Option, Some, None, refl, sym, ◌∙◌, ap, subst, inl, inr, fold, map, Less, Equal, Greater, nat_cmp}
use Rattle.std.proofs.lemmas.Cmp.{nat_list_cmp_total, tied_itself}
use Rattle.std.proofs.lemmas.Map.Lookups.{exact_bytes}
use Rattle.std.specs.BTreeMap.{is_at}
use Rattle.std.specs.Cmp.Lexicographic.{slice_cmp}
use Rattle.std.specs.List.{AllByRecursion}
use Rattle.std.specs.Map.{lookup}
use Rattle.std.specs.Ordering.{is_eq}
use Rattle.std.specs.declared.cmp.Ordering.{Ordering}
use Rattle.schema_values.specs.Order.{at_place, inserted_by, sorted_by}
use Rattle.schema_values.specs.Sound.{AreDistinct}
use Rattle.schema_values.proofs.CallerLemmas.{all_inserted}
use Rattle.descriptors.proofs.CallerLemmas.{same_or_not}
use Rattle.flat_maps.specs.TextMaps.{TextEntry, entry_name}

-- what stands under a name
abbrev pub under : List ℕ → List TextEntry → Option (List ℕ)
under name es = lookup (is_at (slice_cmp nat_cmp name)) es

-- entries of other names
abbrev pub Lack : List ℕ → List TextEntry → Type 0
Lack name es = AllByRecursion (λ e. name ≢ entry_name e) es

-- a name is at itself, and at no other
pub at_itself : (name : List ℕ) → is_at (slice_cmp nat_cmp name) name ≡ true
at_itself name = ap is_eq (tied_itself nat_list_cmp_total name)

pub at_other : (name other : List ℕ) → name ≢ other → is_at (slice_cmp nat_cmp name) other ≡ false
at_other name other ne = by_order (slice_cmp nat_cmp name other) refl
  where
    by_order : (o : Ordering) → slice_cmp nat_cmp name other ≡ o → is_eq o ≡ false
    by_order Less q = refl
    by_order Equal q = absurd (ne (exact_bytes name other q))
    by_order Greater q = refl

pub under_first : (name text : List ℕ) (es : List TextEntry) → under name ((name, text) ∷ es) ≡ Some text
under_first name text es = ap (λ (b : Bool). cond b (Some text) (under name es)) (at_itself name)

pub under_later : (name : List ℕ) (e : TextEntry) (es : List TextEntry) → name ≢ entry_name e → under name (e ∷ es) ≡ under name es
under_later name e es ne = ap (λ (b : Bool). cond b (Some e.1) (under name es)) (at_other name e.0 ne)

pub under_none : (name : List ℕ) (es : List TextEntry) → Lack name es → under name es ≡ None
under_none name [] h = refl
under_none name (e ∷ es) h = under_later name e es h.0 ∙ under_none name es h.1

-- an entry that is put in its place is found, and hides no other
found_inserted : (name text : List ℕ) (es : List TextEntry) → Lack name es → under name (inserted_by entry_name (name, text) es) ≡ Some text
found_inserted name text [] h = under_first name text []
found_inserted name text (d ∷ es) h = by_order (under_later name d (inserted_by entry_name (name, text) es) h.0 ∙ found_inserted name text es h.1) (slice_cmp nat_cmp name d.0)
  where
    by_order : under name (d ∷ inserted_by entry_name (name, text) es) ≡ Some text → (o : Ordering) → under name (at_place o (name, text) d es (inserted_by entry_name (name, text) es)) ≡ Some text
    by_order later Less = under_first name text (d ∷ es)
    by_order later Equal = later
    by_order later Greater = later

other_inserted : (name : List ℕ) (e : TextEntry) (es : List TextEntry) → name ≢ entry_name e → under name (inserted_by entry_name e es) ≡ under name es
other_inserted name e [] ne = under_later name e [] ne
other_inserted name e (d ∷ es) ne = by_order (ap (cond (is_at (slice_cmp nat_cmp name) d.0) (Some d.1)) (other_inserted name e es ne)) (slice_cmp nat_cmp e.0 d.0)
  where
    by_order : under name (d ∷ inserted_by entry_name e es) ≡ under name (d ∷ es) → (o : Ordering) → under name (at_place o e d es (inserted_by entry_name e es)) ≡ under name (d ∷ es)
    by_order later Less = under_later name e (d ∷ es) ne
    by_order later Equal = later
    by_order later Greater = later

-- what is found among some entries, or else among others
abbrev or_under : Option (List ℕ) → Option (List ℕ) → Option (List ℕ)
or_under (Some text) other = Some text
or_under None other = other

pub lacks : (name : List ℕ) (es : List TextEntry) → AllByRecursion (λ other. name ≢ other) (map entry_name es) → Lack name es
lacks name [] h = tt
lacks name (e ∷ es) h = (h.0, lacks name es h.1)

-- entries whose names are none of those that stand in order
abbrev Apart : List TextEntry → List TextEntry → Type 0
Apart es sorted = AllByRecursion (λ e. Lack (entry_name e) sorted) es

still_apart : (e : TextEntry) (es sorted : List TextEntry) → Lack (entry_name e) es → Apart es sorted → Apart es (inserted_by entry_name e sorted)
still_apart e [] sorted h k = tt
still_apart e (d ∷ es) sorted h k = (all_inserted (λ x. d.0 ≢ entry_name x) entry_name e sorted (λ same. h.0 (sym same)) k.0, still_apart e es sorted h.1 k.1)

under_into : (name : List ℕ) (es sorted : List TextEntry) → AreDistinct (map entry_name es) → Apart es sorted → under name (fold (λ s x. inserted_by entry_name x s) sorted es) ≡ or_under (under name es) (under name sorted)
under_into name [] sorted h k = refl
under_into name (e ∷ es) sorted h k =
    let first = lacks e.0 es h.0 in
    under_into name es (inserted_by entry_name e sorted) h.1 (still_apart e es sorted first k.1)
    ∙ elim (same_or_not e.0 name) [
      | inl same ↦ subst (λ (n : List ℕ). or_under (under n es) (under n (inserted_by entry_name e sorted)) ≡ or_under (under n (e ∷ es)) (under n sorted)) same (here first)
      | inr ne ↦ there (λ q. ne (sym q))
    ]
  where
    here : Lack e.0 es → or_under (under e.0 es) (under e.0 (inserted_by entry_name e sorted)) ≡ or_under (under e.0 (e ∷ es)) (under e.0 sorted)
    here first =
        ap (λ (o : Option (List ℕ)). or_under o (under e.0 (inserted_by entry_name e sorted))) (under_none e.0 es first)
        ∙ found_inserted e.0 e.1 sorted k.0
        ∙ sym (ap (λ (o : Option (List ℕ)). or_under o (under e.0 sorted)) (under_first e.0 e.1 es))

    there : name ≢ e.0 → or_under (under name es) (under name (inserted_by entry_name e sorted)) ≡ or_under (under name (e ∷ es)) (under name sorted)
    there ne =
        ap (or_under (under name es)) (other_inserted name e sorted ne)
        ∙ sym (ap (λ (o : Option (List ℕ)). or_under o (under name sorted)) (under_later name e es ne))

all_apart : (es : List TextEntry) → Apart es []
all_apart [] = tt
all_apart (e ∷ es) = (tt, all_apart es)

or_nothing : (o : Option (List ℕ)) → or_under o None ≡ o
or_nothing None = refl
or_nothing (Some text) = refl

-- the order changes nothing
pub under_sorted : (name : List ℕ) (es : List TextEntry) → AreDistinct (map entry_name es) → under name (sorted_by entry_name es) ≡ under name es
under_sorted name es h = under_into name es [] h (all_apart es) ∙ or_nothing (under name es)
