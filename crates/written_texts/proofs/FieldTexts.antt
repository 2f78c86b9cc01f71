-- From one field to all fields of a struct: it is denoted where each field's value is, or may be missing.
use Rattle.std.proofs.Common.{◌≡◌, ℕ, Bool, true, false, ◌&&◌, ◌||◌, not, List, [], ◌∷◌, Option, Some, None, is_ok, cond, refl, ◌∙◌, ap}
use Rattle.std.specs.List.{list_all}
use Rattle.std.specs.Prelude.{Contains}
use Rattle.std.specs.declared.result.Result.{Result}
use Rattle.std.specs.declared.result.Result.TheVariants.{Ok, Err}
use Rattle.schema_values.proofs.CallerLemmas.{contains_first, contains_later}
use Rattle.request_words.specs.declared.pairs.NamedText.{NamedText}
use Rattle.request_words.specs.Pairs.{has_pair, is_doubled}
use Rattle.descriptors.specs.declared.desc.Field.{Field}
use Rattle.descriptors.specs.declared.desc.Presence.{Presence}
use Rattle.descriptors.specs.declared.desc.Presence.TheVariants.{Required, Nullable, Skipped, Default}
use Rattle.descriptors.specs.declared.tree.Tree.{Tree, Fields as Parts}
use Rattle.typed_values.specs.declared.fault.Place.TheVariants.{Name}
use Rattle.typed_values.specs.Denotes.{Told, below, if_absent, if_present, by_presence, all_told, as_tree}
use Rattle.typed_values.specs.Faults.{Trouble}
use Rattle.typed_values.proofs.CallerLemmas.{ok_below, ok_just, ok_all}
use Rattle.flat_maps.specs.Flat.{fields_told}
use Rattle.flat_maps.specs.Pairs.{first_doubled, unless_doubled}
use Rattle.written_texts.specs.FieldParameters.{is_required}

ok_absent : (p : Presence) (name : List ℕ) → is_ok (if_absent p name) ≡ not (is_required p)
ok_absent Required name = refl
ok_absent Nullable name = refl
ok_absent Skipped name = refl
ok_absent (Default tree) name = refl

ok_present : (p : Presence) (told : Told) → is_ok (if_present p told) ≡ is_ok told
ok_present Required told = refl
ok_present Nullable told = refl
ok_present Skipped told = ok_just told
ok_present (Default tree) told = refl

-- what is told of a field is a tree, or may be missing
abbrev pub told_or_not : Bool → Option Told → Bool
told_or_not required None = not required
told_or_not required (Some told) = is_ok told

ok_presence : (f : Field) (value : Option Told) → is_ok (by_presence f value) ≡ told_or_not (is_required f.presence) value
ok_presence f None = ok_absent f.presence f.name
ok_presence f (Some told) = ok_present f.presence (below (Name f.name) told) ∙ ok_below (Name f.name) told

ok_tree : (trees : Result (List Tree) Trouble) → is_ok (as_tree Parts trees) ≡ is_ok trees
ok_tree (Ok trees) = refl
ok_tree (Err trouble) = refl

pub all_alike : {X : Type 0} (p q : X → Bool) (xs : List X) → ((x : X) → Contains xs x → p x ≡ q x) → list_all p xs ≡ list_all q xs
all_alike p q [] h = refl
all_alike p q (x ∷ xs) h = ap (λ (b : Bool). b && list_all p xs) (h x (contains_first x xs)) ∙ ap (λ (b : Bool). q x && b) (all_alike p q xs (λ y c. h y (contains_later x xs y c)))

pub all_both : {X : Type 0} (p q : X → Bool) (xs : List X) → list_all (λ x. p x && q x) xs ≡ (list_all p xs && list_all q xs)
all_both p q [] = refl
all_both p q (x ∷ xs) = ap (λ (b : Bool). (p x && q x) && b) (all_both p q xs) ∙ turned (p x) (q x) (list_all p xs) (list_all q xs)
  where
    turned : (a b c d : Bool) → ((a && b) && (c && d)) ≡ ((a && c) && (b && d))
    turned true true c d = refl
    turned true false true d = refl
    turned true false false d = refl
    turned false b c d = refl

module _ (value : Field → Option Told) where
  abbrev pub field_holds : Field → Bool
  field_holds f = told_or_not (is_required f.presence) (value f)

  pub ok_fields : (fs : List Field) → is_ok (fields_told value fs) ≡ list_all field_holds fs
  ok_fields fs = ok_tree (all_told (λ i f. by_presence f (value f)) 0 fs) ∙ ok_all (λ i f. by_presence f (value f)) field_holds (λ i f. ok_presence f (value f)) 0 fs

-- no name of a field stands twice
pub ok_doubled : (pairs : List NamedText) (fs : List Field) (told : Told) → is_ok (unless_doubled (first_doubled pairs fs) told) ≡ (list_all (λ f. not (is_doubled pairs f.name)) fs && is_ok told)
ok_doubled pairs [] told = refl
ok_doubled pairs (f ∷ fs) told = by_test (is_doubled pairs f.name) (ok_doubled pairs fs told)
  where
    by_test : (b : Bool) → is_ok (unless_doubled (first_doubled pairs fs) told) ≡ (list_all (λ f. not (is_doubled pairs f.name)) fs && is_ok told)
        → is_ok (unless_doubled (cond b (Some f.name) (first_doubled pairs fs)) told) ≡ ((not b && list_all (λ f. not (is_doubled pairs f.name)) fs) && is_ok told)
    by_test true h = refl
    by_test false h = h

-- the name of a field that must be there stands
abbrev pub stands_if : List NamedText → Field → Bool
stands_if pairs f = not (is_required f.presence) || has_pair pairs f.name
