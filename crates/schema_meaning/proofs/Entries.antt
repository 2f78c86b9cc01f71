-- The members of a written object, entry by entry.
use Rattle.std.proofs.Common.{◌≡◌, ℕ, Bool, true, false, ◌&&◌, ◌||◌, List, [], ◌∷◌, ◌++◌, map, filter, Option, Some, None, cond, bytes_eq, if◌then◌else◌, refl, sym, ◌∙◌, ap, true≢false}
use Rattle.std.specs.List.{list_all, list_any, AllByRecursion}
use Rattle.std.specs.Option.{option_or}
use Rattle.std.proofs.Math.Bool.{or-true}
use Rattle.std.proofs.lemmas.Slice.Eq.{bytes_eq-Decides}
use Rattle.schema_values.specs.declared.json_value.Json.{Json}
use Rattle.schema_values.specs.declared.json_value.Member.{Member}
use Rattle.schema_values.specs.Get.{first_named}
use Rattle.openapi_values.specs.Keywords.{is_annotation, annotation_names}
use Rattle.openapi_values.specs.Objects.{Entry, members_of}
use Rattle.openapi_values.specs.Options.{is_none_or}
use Rattle.openapi_values.specs.SchemaJson.{is_extension, extension_entries, extension_entry}

-- each entry that has a value passes a test
abbrev pub each_entry : (List ℕ → Json → Bool) → List Entry → Bool
each_entry q = list_all (λ e. is_none_or e.1 (q e.0))

pub over_members : (q : List ℕ → Json → Bool) (es : List Entry) → list_all (λ m. q m.name m.value) (members_of es) ≡ each_entry q es
over_members q [] = refl
over_members q ((name, None) ∷ es) = over_members q es
over_members q ((name, Some v) ∷ es) = ap (λ b. q name v && b) (over_members q es)

-- the first value of a name
abbrev pub value_named : List ℕ → List Entry → Option Json
value_named name [] = None
value_named name (e ∷ es) = if bytes_eq name e.0 then option_or e.1 (value_named name es) else value_named name es

either : {A : Type 0} (b : Bool) (x : A) → x ≡ cond b x x
either true x = refl
either false x = refl

pub first_named-is : (name : List ℕ) (es : List Entry) → first_named name (members_of es) ≡ value_named name es
first_named-is name [] = refl
first_named-is name ((other, None) ∷ es) = first_named-is name es ∙ either (bytes_eq name other) (value_named name es)
first_named-is name ((other, Some v) ∷ es) = ap (λ o. cond (bytes_eq name other) (Some v) o) (first_named-is name es)

pub none-append : (name : List ℕ) (es fs : List Entry) → value_named name es ≡ None → value_named name (es ++ fs) ≡ value_named name fs
none-append name [] fs none = refl
none-append name ((other, value) ∷ es) fs none = by_test (bytes_eq name other) value none (none-append name es fs)
  where
    by_test : (b : Bool) (o : Option Json) → cond b (option_or o (value_named name es)) (value_named name es) ≡ None → (value_named name es ≡ None → value_named name (es ++ fs) ≡ value_named name fs)
        → cond b (option_or o (value_named name (es ++ fs))) (value_named name (es ++ fs)) ≡ value_named name fs
    by_test true None none later = later none
    by_test true (Some v) none later = absurd (cc none)
    by_test false o none later = later none

-- ---- entries of annotations

abbrev pub AreRemarks : List Entry → Type 0
AreRemarks = AllByRecursion (λ e. is_annotation e.0 ≡ true)

pub extensions_remark : (ms : List Member) → AreRemarks (extension_entries ms)
unfolding is_annotation
extensions_remark [] = tt
extensions_remark (m ∷ ms) = by_test (is_extension m) refl (extensions_remark ms)
  where
    by_test : (b : Bool) → is_extension m ≡ b → AreRemarks (extension_entries ms) → AreRemarks (map extension_entry (cond b (m ∷ filter is_extension ms) (filter is_extension ms)))
    by_test true e rest = (ap (λ b. list_any (bytes_eq m.name) annotation_names || b) e ∙ or-true (list_any (bytes_eq m.name) annotation_names), rest)
    by_test false e rest = rest

-- another name than that of an annotation
pub no_annotation : (name other : List ℕ) → is_annotation name ≡ false → is_annotation other ≡ true → bytes_eq name other ≡ false
no_annotation name other e f = by_test (bytes_eq name other) refl
  where
    by_test : (b : Bool) → bytes_eq name other ≡ b → b ≡ false
    by_test true t = absurd (true≢false (sym f ∙ ap is_annotation (sym ((bytes_eq-Decides name other).0 t)) ∙ e))
    by_test false t = refl

pub passed : (q : List ℕ → Json → Bool) → ((name : List ℕ) (v : Json) → is_annotation name ≡ true → q name v ≡ true) → (ns es : List Entry) → AreRemarks ns → each_entry q (ns ++ es) ≡ each_entry q es
passed q holds [] es h = refl
passed q holds ((name, None) ∷ ns) es h = passed q holds ns es h.1
passed q holds ((name, Some v) ∷ ns) es h = ap (λ b. b && each_entry q (ns ++ es)) (holds name v h.0) ∙ passed q holds ns es h.1

pub named_behind : (name : List ℕ) (ns es : List Entry) → is_annotation name ≡ false → AreRemarks ns → value_named name (ns ++ es) ≡ value_named name es
named_behind name [] es other h = refl
named_behind name (n ∷ ns) es other h = ap (λ b. cond b (option_or n.1 (value_named name (ns ++ es))) (value_named name (ns ++ es))) (no_annotation name n.0 other h.0) ∙ named_behind name ns es other h.1
