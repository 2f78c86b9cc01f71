-- The test of a value tells whether it is sound.
use Rattle.std.proofs.Common.{◌≡◌, ◌↔◌, ◌≢◌, ℕ, ℤ, pos, negsuc, ◌≤ℤ◌, ◌^◌, ◌-◌, T, IsTrue, Decides, Bool, true, false, int_le, not, List, [], ◌∷◌, bytes_eq, refl, sym, subst}
use Rattle.std.specs.List.{list_all, AllByRecursion}
use Rattle.std.specs.Int.Signed.{le_z_yes}
use Rattle.std.proofs.lemmas.Bool.Decides.{same_from_decides, Decides-and, Decides-not}
use Rattle.std.proofs.lemmas.Slice.Eq.{bytes_eq-Decides}
use Rattle.schema_values.specs.declared.json_value.Json.{Json, Null, Bool as BoolOf, Int, Text, List', Object', Row_of-Json, end_of-Json, more_of-Json, Row_of-Member, end_of-Member, more_of-Member}
use Rattle.schema_values.specs.Sound.{IsSound, AreSound, AreSoundMembers, AreDistinct, IsWhole, names}
use Rattle.schema_values.specs.SoundTest.{is_sound, are_sound, are_sound_members, are_distinct, is_whole}

true_of : (b : Bool) → T b → b ≡ true
true_of true t = refl
true_of false t = absurd t

in_order-decides : (a b : ℤ) → Decides (int_le a b) (a ≤ℤ b)
in_order-decides a b = (λ e. le_z_yes (subst T (sym e) tt), λ h. true_of (int_le a b) h.le)

whole-decides : (n : ℤ) → Decides (is_whole n) (IsWhole n)
whole-decides n =
    let least : ℤ = negsuc (2 ^ 63 - 1) in
    let greatest : ℤ = pos (2 ^ 64 - 1) in
    Decides-and (int_le least n) (int_le n greatest) (in_order-decides least n) (in_order-decides n greatest)

new-decides : (name : List ℕ) (rest : List (List ℕ)) → Decides (list_all (λ other. not (bytes_eq name other)) rest) (AllByRecursion (λ other. name ≢ other) rest)
new-decides name [] = (λ e. tt, λ h. refl)
new-decides name (other ∷ rest) =
    Decides-and (not (bytes_eq name other)) _ (Decides-not (bytes_eq name other) (bytes_eq-Decides name other)) (new-decides name rest)

distinct-decides : (titles : List (List ℕ)) → Decides (are_distinct titles) (AreDistinct titles)
distinct-decides [] = (λ e. tt, λ h. refl)
distinct-decides (name ∷ rest) = Decides-and _ (are_distinct rest) (new-decides name rest) (distinct-decides rest)

mutual
  pub sound-decides : (json : Json) → IsTrue (is_sound json) ↔ IsSound json
  sound-decides Null = (λ e. tt, λ h. refl)
  sound-decides (BoolOf b) = (λ e. tt, λ h. refl)
  sound-decides (Int n) = whole-decides n
  sound-decides (Text t) = (λ e. tt, λ h. refl)
  sound-decides (List' shape items) = items-decide _ items
  sound-decides (Object' shape members) =
      Decides-and (are_sound_members members) (are_distinct (names members)) (members-decide _ members) (distinct-decides (names members))

  items-decide : (n : _) (items : Row_of-Json n) → Decides (are_sound items) (AreSound items)
  items-decide n end_of-Json = (λ e. tt, λ h. refl)
  items-decide n (more_of-Json item rest) = Decides-and (is_sound item) (are_sound rest) (sound-decides item) (items-decide _ rest)

  members-decide : (n : _) (members : Row_of-Member n) → Decides (are_sound_members members) (AreSoundMembers members)
  members-decide n end_of-Member = (λ e. tt, λ h. refl)
  members-decide n (more_of-Member name value rest) =
      Decides-and (is_sound value) (are_sound_members rest) (sound-decides value) (members-decide _ rest)

-- what answers whether a value is sound answers as the test does
pub sound_told : (json : Json) (b : Bool) → (IsTrue b ↔ IsSound json) → b ≡ is_sound json
sound_told json b told = same_from_decides b (is_sound json) told (sound-decides json)
