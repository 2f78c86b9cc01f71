-- Where flat names denote a struct, field by field.
use Rattle.std.proofs.Common.{◌≡◌, Bool, true, false, not, ◌&&◌, cond, List, [], ◌∷◌, Option, Some, refl, ◌∙◌}
use Rattle.std.specs.List.{list_all}
use Rattle.std.specs.Result.{is_ok}
use Rattle.std.specs.declared.result.Result.{Result}
use Rattle.std.specs.declared.result.Result.TheVariants.{Ok, Err}
use Rattle.request_words.specs.declared.pairs.NamedText.{NamedText}
use Rattle.descriptors.specs.declared.desc.Field.{Field}
use Rattle.descriptors.specs.declared.desc.Presence.{Presence}
use Rattle.descriptors.specs.declared.desc.Presence.TheVariants.{Required, Nullable, Skipped, Default}
use Rattle.descriptors.specs.declared.tree.Tree.{Tree, Fields as Parts}
use Rattle.typed_values.specs.declared.fault.Place.TheVariants.{Name}
use Rattle.typed_values.specs.Denotes.{Told, below, by_presence, if_present, all_told, as_tree}
use Rattle.typed_values.specs.Faults.{Trouble}
use Rattle.typed_values.proofs.CallerLemmas.{ok_below, ok_just, ok_all}
use Rattle.flat_maps.specs.Flat.{fields_told}
use Rattle.request_words.specs.Pairs.{is_doubled}
use Rattle.flat_maps.specs.Pairs.{first_doubled, unless_doubled}

ok_present : (p : Presence) (told : Told) → is_ok (if_present p told) ≡ is_ok told
ok_present Required told = refl
ok_present Nullable told = refl
ok_present Skipped told = ok_just told
ok_present (Default tree) told = refl

-- a field that is there has a tree where its value has one
pub ok_given : (f : Field) (told : Told) → is_ok (by_presence f (Some told)) ≡ is_ok told
ok_given f told = ok_present f.presence (below (Name f.name) told) ∙ ok_below (Name f.name) told

ok_parts : (trees : Result (List Tree) Trouble) → is_ok (as_tree Parts trees) ≡ is_ok trees
ok_parts (Ok trees) = refl
ok_parts (Err trouble) = refl

-- a struct has a tree where each of its fields has one
pub ok_fields : (value : Field → Option Told) (fs : List Field) → is_ok (fields_told value fs) ≡ list_all (λ f. is_ok (by_presence f (value f))) fs
ok_fields value fs = ok_parts (all_told (λ i f. by_presence f (value f)) 0 fs) ∙ ok_all (λ i f. by_presence f (value f)) (λ f. is_ok (by_presence f (value f))) (λ i f. refl) 0 fs

-- where repeats are refused, no field's name stands twice
pub ok_doubled : (pairs : List NamedText) (fs : List Field) (told : Told) → is_ok (unless_doubled (first_doubled pairs fs) told) ≡ (list_all (λ f. not (is_doubled pairs f.name)) fs && is_ok told)
ok_doubled pairs [] told = refl
ok_doubled pairs (f ∷ fs) told = by_test (is_doubled pairs f.name) (ok_doubled pairs fs told)
  where
    by_test : (b : Bool) → is_ok (unless_doubled (first_doubled pairs fs) told) ≡ (list_all (λ f. not (is_doubled pairs f.name)) fs && is_ok told)
        → is_ok (unless_doubled (cond b (Some f.name) (first_doubled pairs fs)) told) ≡ ((not b && list_all (λ f. not (is_doubled pairs f.name)) fs) && is_ok told)
    by_test true h = refl
    by_test false h = h
