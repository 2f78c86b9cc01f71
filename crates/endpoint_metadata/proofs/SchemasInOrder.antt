-- Maps of schemas that take one more name.
use Rattle.std.proofs.Common.{◌≡◌, ◌≢◌, ℕ, zero, suc, ◌<◌, Bool, true, false, true≢false, List, [], ◌∷◌, ◌++◌, map}
use Rattle.std.proofs.Common.{take, get_or, length, refl, sym, ◌∙◌, ap, subst, arith, chars, string_bytes, String}
use Rattle.std.proofs.Common.{Global, if◌then◌else◌}
use Rattle.std.proofs.lemmas.List.{map_push}
use Rattle.std.proofs.lemmas.Map.Keys.{IsDistinct-head, IsDistinct-tail}
use Rattle.std.proofs.lemmas.Slice.Eq.{bytes_eq-Decides}
use Rattle.std.specs.List.{AllByRecursion, IsDistinct}
use Rattle.std.specs.Map.{keys_of}
use Rattle.std.specs.String.{string_eq}
use Rattle.indexmap.specs.IndexMap.{insert_entry}
use Rattle.schema_values.specs.Sound.{AreDistinct}
use Rattle.schema_values.specs.declared.schema.Schema.{Schema}
use Rattle.descriptors.specs.Definitions.{definition_name}
use Rattle.descriptors.specs.declared.table.Definition.{Definition}
use Rattle.endpoint_metadata.specs.ByBytes.{entries_by_bytes, names_by_bytes}
use Rattle.endpoint_metadata.specs.Values.{SchemasInOrder, named_schemas}

-- the entries of a map of schemas
abbrev pub Entries : Type 0
Entries = List (String Global × Schema)

-- ---- a new name
-- goes last
pub new_last : (es : Entries) (name : String Global) (schema : Schema)
    → AllByRecursion (λ other. string_bytes name ≢ other) (names_by_bytes es)
    → insert_entry string_eq es name schema ≡ es ++ (name, schema) ∷ []
new_last [] name schema others = refl
new_last (e ∷ es) name schema others =
    by_test (ap (λ (rest : Entries). e ∷ rest) (new_last es name schema others.1)) (string_eq name e.0) refl
  where
    by_test : e ∷ insert_entry string_eq es name schema ≡ e ∷ es ++ (name, schema) ∷ [] → (b : Bool)
        → string_eq name e.0 ≡ b
        → (if b then (e.0, schema) ∷ es else e ∷ insert_entry string_eq es name schema) ≡ e ∷ es ++ (name, schema) ∷ []
    by_test later true same = absurd (others.0 ((bytes_eq-Decides (string_bytes name) (string_bytes e.0)).0 same))
    by_test later false same = later

-- ---- names by their characters
named_stored : (es : Entries) → named_schemas es ≡ map (λ entry. (chars entry.0, entry.1)) (entries_by_bytes es)
named_stored [] = refl
named_stored (e ∷ es) = ap (λ (rest : SchemasInOrder). (chars (string_bytes e.0), e.1) ∷ rest) (named_stored es)

-- maps that have the same bytes have the same names
pub named_same : (es fs : Entries) → entries_by_bytes es ≡ entries_by_bytes fs → named_schemas es ≡ named_schemas fs
named_same es fs same = named_stored es ∙ ap (map (λ entry. (chars entry.0, entry.1))) same ∙ sym (named_stored fs)

-- one more name is the last
pub named_last : (es fs : Entries) (name : List ℕ) (schema : Schema)
    → entries_by_bytes fs ≡ entries_by_bytes es ++ (name, schema) ∷ []
    → named_schemas fs ≡ named_schemas es ++ (chars name, schema) ∷ []
named_last es fs name schema more =
    named_stored fs ∙ ap (map (λ entry. (chars entry.0, entry.1))) more
    ∙ map_push (λ (entry : List ℕ × Schema). (chars entry.0, entry.1)) (entries_by_bytes es) (name, schema)
    ∙ ap (λ (names : SchemasInOrder). names ++ (chars name, schema) ∷ []) (sym (named_stored es))

-- ---- the definitions of a table in turn
at_place : (P : List ℕ → Type 0) (es : List Definition) (i : ℕ) (e : Definition)
    → AllByRecursion P (map definition_name es) → i < length es → P (get_or es i e).name
at_place P [] i e all less = absurd (omega (arith, less))
at_place P (d ∷ es) zero e all less = all.0
at_place P (d ∷ es) (suc i) e all less = at_place P es i e all.1 (omega (arith, less))

others_before : (es : List Definition) (i : ℕ) (e : Definition) → AreDistinct (map definition_name es) → i < length es
    → AllByRecursion (λ d. (get_or es i e).name ≢ d.name) (take i es)
others_before [] i e apart less = absurd (omega (arith, less))
others_before (d ∷ es) zero e apart less = tt
others_before (d ∷ es) (suc i) e apart less = (
  λ same. at_place (λ other. d.name ≢ other) es i e apart.0 (omega (arith, less)) (sym same),
  others_before es i e apart.1 (omega (arith, less)),
)

by_characters : (schema : Definition → Schema) (ds : List Definition) (es : Entries) (name : List ℕ)
    → named_schemas es ≡ map (λ d. (d.name, schema d)) ds
    → AllByRecursion (λ d. chars name ≢ d.name) ds → AllByRecursion (λ other. name ≢ other) (names_by_bytes es)
by_characters schema ds [] name same others = tt
by_characters schema [] (e ∷ es) name same others = absurd (cc same)
by_characters schema (d ∷ ds) (e ∷ es) name same others =
    let pair : ◌≡◌ {A = List ℕ × Schema} (chars (string_bytes e.0), e.1) (d.name, schema d) = cc same in
    let first : chars (string_bytes e.0) ≡ d.name = ap (λ (entry : List ℕ × Schema). entry.0) pair in
    let rest : named_schemas es ≡ map (λ d. (d.name, schema d)) ds = cc same in
    (λ is. others.0 (ap chars is ∙ first), by_characters schema ds es name rest others.1)

-- the name of the next one is new
pub next_is_new : (schema : Definition → Schema) (table : List Definition) (i : ℕ) (e : Definition) (es : Entries)
    (name : List ℕ) → AreDistinct (map definition_name table) → i < length table → e ≡ get_or table i e
    → named_schemas es ≡ map (λ d. (d.name, schema d)) (take i table) → e.name ≡ chars name
    → AllByRecursion (λ other. name ≢ other) (names_by_bytes es)
next_is_new schema table i e es name apart less is so_far named =
    by_characters schema (take i table) es name so_far
    (subst (λ (n : List ℕ). AllByRecursion (λ d. n ≢ d.name) (take i table)) (ap (λ d. d.name) (sym is) ∙ named)
    (others_before table i e apart less))

-- ---- the entries of a map in turn
key_at : (P : String Global → Type 0) (done : Entries) (e : String Global × Schema) (rest : Entries)
    → AllByRecursion P (keys_of (done ++ e ∷ rest)) → P e.0
key_at P [] e rest all = all.0
key_at P (d ∷ done) e rest all = key_at P done e rest all.1

not_among : (done : Entries) (e : String Global × Schema) (rest : Entries)
    → IsDistinct string_eq (keys_of (done ++ e ∷ rest))
    → AllByRecursion (λ other. string_bytes e.0 ≢ other) (names_by_bytes done)
not_among [] e rest apart = tt
not_among (d ∷ done) e rest apart =
    let keys = keys_of (done ++ e ∷ rest) in
    let differs : string_eq d.0 e.0 ≡ false =
    key_at (λ k. string_eq d.0 k ≡ false) done e rest (IsDistinct-head string_eq d.0 keys apart) in (
      λ same. true≢false (sym ((bytes_eq-Decides (string_bytes d.0) (string_bytes e.0)).1 (sym same)) ∙ differs),
      not_among done e rest (IsDistinct-tail string_eq d.0 keys apart),
    )

same_names : (es fs : Entries) → entries_by_bytes es ≡ entries_by_bytes fs → names_by_bytes es ≡ names_by_bytes fs
same_names es fs same = names_of es ∙ ap (map (λ entry. entry.0)) same ∙ sym (names_of fs)
  where
    names_of : (es : Entries) → names_by_bytes es ≡ map (λ entry. entry.0) (entries_by_bytes es)
    names_of [] = refl
    names_of (e ∷ es) = ap (λ (names : List (List ℕ)). string_bytes e.0 ∷ names) (names_of es)

-- the name of the next entry is new among copies of those before it
pub next_is_new_copy : (entries done : Entries) (e : String Global × Schema) (rest copies : Entries)
    → entries ≡ done ++ e ∷ rest → IsDistinct string_eq (keys_of entries)
    → entries_by_bytes copies ≡ entries_by_bytes done
    → AllByRecursion (λ other. string_bytes e.0 ≢ other) (names_by_bytes copies)
next_is_new_copy entries done e rest copies split apart same =
    subst (AllByRecursion (λ other. string_bytes e.0 ≢ other)) (sym (same_names copies done same))
    (not_among done e rest (subst (λ (es : Entries). IsDistinct string_eq (keys_of es)) split apart))
