-- The members that a struct is written as: their names, and the value that each field finds.
use Rattle.std.proofs.Common.{◌≡◌, ℕ, Bool, true, false, List, [], ◌∷◌, map, Option, Some, None, bytes_eq, cond, refl, sym, ◌∙◌, inl, inr, arith}
use Rattle.std.specs.Cmp.Derive.{both_true}
use Rattle.std.specs.List.{list_all, AllByRecursion}
use Rattle.std.specs.Prelude.{◌≢◌, Contains, ⊤}
use Rattle.schema_values.specs.declared.json_value.Json.{Json}
use Rattle.schema_values.specs.declared.json_value.Member.{Member}
use Rattle.schema_values.specs.Member.{name_of, member}
use Rattle.schema_values.specs.Sound.{AreDistinct}
use Rattle.descriptors.specs.declared.desc.Desc.{Desc}
use Rattle.descriptors.specs.declared.desc.Field.{Field}
use Rattle.descriptors.specs.declared.tree.Tree.{Tree}
use Rattle.descriptors.specs.Definitions.{field_name}
use Rattle.typed_values.specs.Denotes.{is_declared, value_named}
use Rattle.typed_values.specs.Encoding.{is_left_out, unless, members_written}
use Rattle.typed_values.specs.Fits.{field_desc}
use Rattle.typed_values.proofs.EncodeSteps.{is_none_tree}
use Rattle.descriptors.proofs.CallerLemmas.{other_name, same_name}
use Rattle.schema_values.proofs.CallerLemmas.{contains_first, contains_later, contains_cases}

-- a fact of each field and its tree
abbrev pub Beside : (Field → Tree → Type 0) → List Field → List Tree → Type 0
Beside Fact [] [] = ⊤
Beside Fact [] (x ∷ xs) = ⊥
Beside Fact (f ∷ fs) [] = ⊥
Beside Fact (f ∷ fs) (x ∷ xs) = Fact f x × Beside Fact fs xs

abbrev pub is_left : Field → Tree → Bool
is_left f x = is_left_out f.presence (is_none_tree x)

abbrev pub unless_left : Bool → Json → Option Json
unless_left true value = None
unless_left false value = Some value

abbrev pub IsNew : List ℕ → List (List ℕ) → Type 0
IsNew name others = AllByRecursion (λ other. name ≢ other) others

-- a name that no field has
pub new_name : (name : List ℕ) (fs : List Field) → ((f : Field) → Contains fs f → f.name ≡ name → ⊥) → IsNew name (map field_name fs)
new_name name [] other = tt
new_name name (f ∷ fs) other = (λ e. other f (contains_first f fs) (sym e), new_name name fs (λ g c. other g (contains_later f fs g c)))

new_with : (name : List ℕ) (b : Bool) (m : Member) (ms : List Member) → name ≢ m.name → IsNew name (map name_of ms) → IsNew name (map name_of (unless b m ms))
new_with name true m ms ne new = new
new_with name false m ms ne new = (ne, new)

distinct_with : (b : Bool) (m : Member) (ms : List Member) → IsNew m.name (map name_of ms) → AreDistinct (map name_of ms) → AreDistinct (map name_of (unless b m ms))
distinct_with true m ms new distinct = distinct
distinct_with false m ms new distinct = (new, distinct)

absent_with : (name : List ℕ) (b : Bool) (m : Member) (ms : List Member) → name ≢ m.name → value_named ms name ≡ None → value_named (unless b m ms) name ≡ None
absent_with name true m ms ne absent = absent
absent_with name false m ms ne absent = rw (other_name m.name name (λ e. ne (sym e))) absent

all_with : (passes : Member → Bool) (b : Bool) (m : Member) (ms : List Member) → passes m ≡ true → list_all passes ms ≡ true → list_all passes (unless b m ms) ≡ true
all_with passes true m ms first rest = rest
all_with passes false m ms first rest = both_true first rest

-- the member of another name is passed by
passed_by : (b : Bool) (m : Member) (ms : List Member) (name : List ℕ) → m.name ≢ name → value_named (unless b m ms) name ≡ value_named ms name
passed_by true m ms name ne = refl
passed_by false m ms name ne = rw (other_name m.name name ne) refl

found_first : (b : Bool) (name : List ℕ) (value : Json) (ms : List Member) → value_named ms name ≡ None → value_named (unless b (member name value) ms) name ≡ unless_left b value
found_first true name value ms absent = absent
found_first false name value ms absent = rw (same_name name) refl

true_behind : (b c : Bool) → c ≡ true → cond b true c ≡ true
true_behind true c e = refl
true_behind false c e = e

field_declared : (fs : List Field) (f : Field) → Contains fs f → is_declared fs f.name ≡ true
field_declared [] f c = absurd (omega (arith, c.1))
field_declared (g ∷ fs) f c = elim (contains_cases g fs f c) [
  | inl q ↦ rw (q, same_name f.name) refl
  | inr k ↦ true_behind (bytes_eq g.name f.name) (is_declared fs f.name) (field_declared fs f k)
]

module _ (written : Tree → Desc → Json) where
  abbrev members : List Field → List Tree → List Member
  members = members_written is_none_tree written

  abbrev first_member : Field → Tree → Member
  first_member f x = member f.name (written x (field_desc f))

  pub new_written : (name : List ℕ) (fs : List Field) (xs : List Tree) → IsNew name (map field_name fs) → IsNew name (map name_of (members fs xs))
  new_written name [] xs new = tt
  new_written name (f ∷ fs) [] new = tt
  new_written name (f ∷ fs) (x ∷ xs) new = new_with name (is_left f x) (first_member f x) (members fs xs) new.0 (new_written name fs xs new.1)

  pub distinct_written : (fs : List Field) (xs : List Tree) → AreDistinct (map field_name fs) → AreDistinct (map name_of (members fs xs))
  distinct_written [] xs distinct = tt
  distinct_written (f ∷ fs) [] distinct = tt
  distinct_written (f ∷ fs) (x ∷ xs) distinct = distinct_with (is_left f x) (first_member f x) (members fs xs) (new_written f.name fs xs distinct.0) (distinct_written fs xs distinct.1)

  all_declared : (gs fs : List Field) (xs : List Tree) → ((f : Field) → Contains fs f → Contains gs f) → list_all (λ m. is_declared gs m.name) (members fs xs) ≡ true
  all_declared gs [] xs inside = refl
  all_declared gs (f ∷ fs) [] inside = refl
  all_declared gs (f ∷ fs) (x ∷ xs) inside =
      all_with (λ m. is_declared gs m.name) (is_left f x) (first_member f x) (members fs xs) (field_declared gs f (inside f (contains_first f fs))) (all_declared gs fs xs (λ g c. inside g (contains_later f fs g c)))

  pub written_declared : (fs : List Field) (xs : List Tree) → list_all (λ m. is_declared fs m.name) (members fs xs) ≡ true
  written_declared fs xs = all_declared fs fs xs (λ f c. c)

  -- a field finds what its tree is written as, unless it is left out
  abbrev pub IsFound : List Member → Field → Tree → Type 0
  IsFound ms f x = value_named ms f.name ≡ unless_left (is_left f x) (written x (field_desc f))

  absent_written : (name : List ℕ) (fs : List Field) (xs : List Tree) → IsNew name (map field_name fs) → value_named (members fs xs) name ≡ None
  absent_written name [] xs new = refl
  absent_written name (f ∷ fs) [] new = refl
  absent_written name (f ∷ fs) (x ∷ xs) new = absent_with name (is_left f x) (first_member f x) (members fs xs) new.0 (absent_written name fs xs new.1)

  pub found_behind : (b : Bool) (m : Member) (ms : List Member) (fs : List Field) (xs : List Tree) → IsNew m.name (map field_name fs) → Beside (IsFound ms) fs xs → Beside (IsFound (unless b m ms)) fs xs
  found_behind b m ms [] [] new found = tt
  found_behind b m ms [] (x ∷ xs) new found = found
  found_behind b m ms (f ∷ fs) [] new found = found
  found_behind b m ms (f ∷ fs) (x ∷ xs) new found = (passed_by b m ms f.name new.0 ∙ found.0, found_behind b m ms fs xs new.1 found.1)

  pub all_found : (Fact : Field → Tree → Type 0) (fs : List Field) (xs : List Tree) → AreDistinct (map field_name fs) → Beside Fact fs xs → Beside (IsFound (members fs xs)) fs xs
  all_found Fact [] [] distinct h = tt
  all_found Fact [] (x ∷ xs) distinct h = h
  all_found Fact (f ∷ fs) [] distinct h = h
  all_found Fact (f ∷ fs) (x ∷ xs) distinct h = (
    found_first (is_left f x) f.name (written x (field_desc f)) (members fs xs) (absent_written f.name fs xs distinct.0),
    found_behind (is_left f x) (first_member f x) (members fs xs) fs xs distinct.0 (all_found Fact fs xs distinct.1 h.1),
  )
