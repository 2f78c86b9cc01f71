-- Of things with distinct names, the one that is found.
use Rattle.std.proofs.Common.{◌≡◌, ℕ, ◌+◌, Bool, true, false, ◌&&◌, ◌||◌, List, [], ◌∷◌, map, Some, is_ok, bytes_eq, cond, refl, sym, ◌∙◌, ap}
use Rattle.std.proofs.Math.Bool.{or-false}
use Rattle.std.proofs.lemmas.Slice.Eq.{bytes_eq-Decides}
use Rattle.std.specs.List.{list_any, AllByRecursion}
use Rattle.std.specs.Prelude.{◌≢◌}
use Rattle.std.specs.declared.result.Result.TheVariants.{Ok, Err}
use Rattle.schema_values.specs.Sound.{AreDistinct}
use Rattle.typed_values.specs.Denotes.{Told, chosen, named_from, where_found}
use Rattle.descriptors.proofs.CallerLemmas.{other_name}
use Rattle.typed_values.proofs.CallerLemmas.{AreDistinct-cons}

pub any_same : {X : Type 0} (p q : X → Bool) → ((x : X) → p x ≡ q x) → (xs : List X) → list_any p xs ≡ list_any q xs
any_same p q h [] = refl
any_same p q h (x ∷ xs) = ap (λ (b : Bool). b || list_any p xs) (h x) ∙ ap (λ (b : Bool). q x || b) (any_same p q h xs)

module _ {X : Type 0} (name : X → List ℕ) (told : ℕ → X → Told) (unlisted : Told) (denotes : X → Bool) (none : is_ok unlisted ≡ false) (same : (i : ℕ) (x : X) → is_ok (told i x) ≡ denotes x) (w : List ℕ) where
  abbrev is_told : X → Bool
  is_told x = bytes_eq (name x) w && denotes x

  no_other : (x : X) (xs : List X) → name x ≡ w → AllByRecursion (λ other. name x ≢ name other) xs → list_any is_told xs ≡ false
  no_other x [] e h = refl
  no_other x (other ∷ xs) e h =
      ap (λ (b : Bool). b && denotes other || list_any is_told xs) (other_name (name other) w (λ f. h.0 (e ∙ sym f)))
      ∙ no_other x xs e h.1

  pub ok_found : (i : ℕ) (xs : List X) → AreDistinct (map name xs) → is_ok (where_found unlisted told (named_from name i xs w)) ≡ list_any is_told xs
  ok_found i [] h = none
  ok_found i (x ∷ xs) h =
      let (new, rest) = (AreDistinct-cons name x xs).0 h in
      by_name (bytes_eq (name x) w) refl (λ e. no_other x xs e new) (ok_found (i + 1) xs rest)
    where
      by_name : (b : Bool) → bytes_eq (name x) w ≡ b → (name x ≡ w → list_any is_told xs ≡ false) → is_ok (where_found unlisted told (named_from name (i + 1) xs w)) ≡ list_any is_told xs
          → is_ok (where_found unlisted told (cond b (Some (i, x)) (named_from name (i + 1) xs w))) ≡ (b && denotes x || list_any is_told xs)
      by_name true e never later = same i x ∙ sym (or-false (denotes x)) ∙ ap (λ (b : Bool). denotes x || b) (sym (never ((bytes_eq-Decides (name x) w).0 e)))
      by_name false e never later = later

pub ok_chosen : (i : ℕ) (o : Told) → is_ok (chosen i o) ≡ is_ok o
ok_chosen i (Ok tree) = refl
ok_chosen i (Err trouble) = refl
