-- Entries before members of other names: annotations, extensions and parts that may be absent.
use Rattle.std.proofs.Common.{◌≡◌, ◌≢◌, ℕ, Bool, true, false, cond, not, ◌&&◌, List, [], ◌∷◌, ◌++◌, map, filter, Option, Some, None, is_some, unwrap_or, bytes_eq, codes, IfSome, refl, sym, ◌∙◌, ap, true≢false}
use Rattle.std.specs.List.{list_all, AllByRecursion}
use Rattle.std.proofs.lemmas.Bool.{and_parts}
use Rattle.std.proofs.lemmas.List.Folds.{list_all-append}
use Rattle.std.proofs.lemmas.Slice.Eq.{bytes_eq-Decides}
use Rattle.schema_values.specs.declared.json_value.Member.{Member}
use Rattle.schema_values.specs.Member.{name_of}
use Rattle.schema_values.specs.Sound.{AreDistinct}
use Rattle.schema_values.specs.SoundMembers.{HasSoundValue}
use Rattle.request_words.specs.Prefixes.{after}
use Rattle.openapi_values.specs.Objects.{Entry, members_of}
use Rattle.openapi_values.specs.SchemaJson.{extension_entries, extension_entry, is_extension}
use Rattle.openapi_values.proofs.Keyed.{IsKeyed, is_new, passed, put}
use Rattle.openapi_values.proofs.SoundObjects.{IsSoundWhere, present_keyed}

-- the names of entries
abbrev pub entry_names : List Entry → List (List ℕ)
entry_names = map (λ e. e.0)

both : (a b : Bool) → a ≡ true → b ≡ true → (a && b) ≡ true
both true b e f = f
both false b e f = absurd (true≢false (sym e))

new_among : (name : List ℕ) (xs ys : List (List ℕ)) → is_new name xs ≡ true → is_new name ys ≡ true → is_new name (xs ++ ys) ≡ true
new_among name xs ys e f = list_all-append (λ other. not (bytes_eq name other)) xs ys ∙ both (is_new name xs) (is_new name ys) e f

-- whether names are distinct and none is among others
abbrev pub are_apart : List (List ℕ) → List (List ℕ) → Bool
are_apart [] others = true
are_apart (name ∷ names) others = (is_new name names && is_new name others) && are_apart names others

-- entries of new names before members
pub entries_before : (es rest : List Entry) (names : List (List ℕ)) → are_apart (entry_names es) names ≡ true → AllByRecursion (λ e. IsSoundWhere e.1) es → IsKeyed names (members_of rest)
    → IsKeyed (entry_names es ++ names) (members_of (es ++ rest))
entries_before [] rest names apart sound h = h
entries_before (e ∷ es) rest names apart sound h =
    let (here, others) = and_parts (is_new e.0 (entry_names es) && is_new e.0 names) (are_apart (entry_names es) names) apart in
    let (new, also) = and_parts (is_new e.0 (entry_names es)) (is_new e.0 names) here in
    present_keyed e.0 (entry_names es ++ names) (members_of (es ++ rest)) (new_among e.0 (entry_names es) names new also) (entries_before es rest names others sound.1 h) e.1 sound.0

-- more names
widened : (own names : List (List ℕ)) (ms : List Member) → IsKeyed names ms → IsKeyed (own ++ names) ms
widened [] names ms h = h
widened (name ∷ own) names ms h = passed name (own ++ names) ms (widened own names ms h)

-- some entries have these names, and may stand before members of others
abbrev pub Joins : List (List ℕ) → List Entry → Type 0
Joins own es = (rest : List Entry) (names : List (List ℕ)) → are_apart own names ≡ true → IsKeyed names (members_of rest) → IsKeyed (own ++ names) (members_of (es ++ rest))

pub some_join : (own : List (List ℕ)) (o : Option (List Entry)) → IfSome o (Joins own) → Joins own (unwrap_or o [])
some_join own None joins rest names apart h = widened own names (members_of rest) h
some_join own (Some es) joins rest names apart h = joins rest names apart h

-- ---- extensions

-- whether a name begins with `x-`
abbrev pub has_prefix : List ℕ → Bool
has_prefix name = is_some (after (codes "x-") name)

-- the names of the extensions that are written
abbrev pub extension_names : List Member → List (List ℕ)
extension_names ms = map name_of (filter is_extension ms)

told_apart : (f : List ℕ → Bool) (n m : List ℕ) → f n ≡ true → f m ≡ false → not (bytes_eq n m) ≡ true
told_apart f n m e g = by_test (bytes_eq n m) refl
  where
    by_test : (b : Bool) → bytes_eq n m ≡ b → not b ≡ true
    by_test true h = absurd (true≢false (sym e ∙ ap f ((bytes_eq-Decides n m).0 h) ∙ g))
    by_test false h = refl

is_not : (b : Bool) → not b ≡ true → b ≡ false
is_not true e = absurd (true≢false (sym e))
is_not false e = refl

-- a name without the prefix is none of the extensions
plain_is_new : (name : List ℕ) → not (has_prefix name) ≡ true → (ms : List Member) → is_new name (extension_names ms) ≡ true
plain_is_new name e [] = refl
plain_is_new name e (m ∷ ms) = by_test (is_extension m) refl (plain_is_new name e ms)
  where
    by_test : (b : Bool) → is_extension m ≡ b → is_new name (extension_names ms) ≡ true → is_new name (map name_of (cond b (m ∷ filter is_extension ms) (filter is_extension ms))) ≡ true
    by_test true f later = both (not (bytes_eq name (name_of m))) (is_new name (extension_names ms)) (told_apart (λ n. not (has_prefix n)) name (name_of m) e (ap not f)) later
    by_test false f later = later

-- a name with the prefix is none of those without it
prefixed_is_new : (name : List ℕ) → has_prefix name ≡ true → (names : List (List ℕ)) → list_all (λ n. not (has_prefix n)) names ≡ true → is_new name names ≡ true
prefixed_is_new name e [] plain = refl
prefixed_is_new name e (n ∷ names) plain =
    let (first, later) = and_parts (not (has_prefix n)) (list_all (λ n. not (has_prefix n)) names) plain in
    both (not (bytes_eq name n)) (is_new name names) (told_apart has_prefix name n e (is_not (has_prefix n) first)) (prefixed_is_new name e names later)

other_is_new : (name : List ℕ) (ms : List Member) → AllByRecursion (λ other. name ≢ other) (map name_of ms) → is_new name (extension_names ms) ≡ true
other_is_new name [] h = refl
other_is_new name (m ∷ ms) h = by_test (is_extension m) (other_is_new name ms h.1)
  where
    apart : (b : Bool) → bytes_eq name (name_of m) ≡ b → not b ≡ true
    apart true e = absurd (h.0 ((bytes_eq-Decides name (name_of m)).0 e))
    apart false e = refl

    by_test : (b : Bool) → is_new name (extension_names ms) ≡ true → is_new name (map name_of (cond b (m ∷ filter is_extension ms) (filter is_extension ms))) ≡ true
    by_test true later = both (not (bytes_eq name (name_of m))) (is_new name (extension_names ms)) (apart (bytes_eq name (name_of m)) refl) later
    by_test false later = later

-- extensions before members whose names have no such prefix
pub extensions_before : (ms : List Member) (rest : List Entry) (names : List (List ℕ)) → list_all (λ n. not (has_prefix n)) names ≡ true → AllByRecursion HasSoundValue ms → AreDistinct (map name_of ms) → IsKeyed names (members_of rest)
    → IsKeyed (extension_names ms ++ names) (members_of (extension_entries ms ++ rest))
extensions_before [] rest names plain sound distinct h = h
extensions_before (m ∷ ms) rest names plain sound distinct h = by_test (is_extension m) refl (extensions_before ms rest names plain sound.1 distinct.1 h)
  where
    by_test : (b : Bool) → is_extension m ≡ b → IsKeyed (extension_names ms ++ names) (members_of (extension_entries ms ++ rest))
        → IsKeyed (map name_of (cond b (m ∷ filter is_extension ms) (filter is_extension ms)) ++ names) (members_of (map extension_entry (cond b (m ∷ filter is_extension ms) (filter is_extension ms)) ++ rest))
    by_test true e later = put (name_of m) m.value (extension_names ms ++ names) (members_of (extension_entries ms ++ rest)) (new_among (name_of m) (extension_names ms) names (other_is_new (name_of m) ms distinct.0) (prefixed_is_new (name_of m) e names plain)) sound.0 later
    by_test false e later = later

-- names that have no such prefix and are none of others are apart from extensions and these
pub apart_from_extensions : (own : List (List ℕ)) (ms : List Member) (names : List (List ℕ)) → list_all (λ n. not (has_prefix n)) own ≡ true → are_apart own names ≡ true → are_apart own (extension_names ms ++ names) ≡ true
apart_from_extensions [] ms names plain apart = refl
apart_from_extensions (name ∷ own) ms names plain apart =
    let (first, later) = and_parts (not (has_prefix name)) (list_all (λ n. not (has_prefix n)) own) plain in
    let (here, others) = and_parts (is_new name own && is_new name names) (are_apart own names) apart in
    let (new, also) = and_parts (is_new name own) (is_new name names) here in
    both (is_new name own && is_new name (extension_names ms ++ names)) (are_apart own (extension_names ms ++ names)) (both (is_new name own) (is_new name (extension_names ms ++ names)) new (new_among name (extension_names ms) names (plain_is_new name first ms) also))
    (apart_from_extensions own ms names later others)
