-- The schemas that a type test finds in a schema are smaller than it.
use Rattle.std.proofs.Common.{◌≡◌, ℕ, suc, ◌<◌, Bool, true, false, cond, Option, None, List, [], ◌∷◌, Some, drop, get_or, length, refl, sym, ap, ◌∙◌, arith}
use Rattle.std.proofs.Math.Seq.{drop-cons}
use denote.Param.Weighed.{most}
use Rattle.schema_values.specs.declared.schema.InstanceType.{InstanceType}
use Rattle.schema_values.specs.declared.schema.Schema.{Schema, Object, size-Schema}
use Rattle.schema_values.specs.declared.schema.Subschemas.{Subschemas, size-Subschemas}
use Rattle.schema_values.specs.declared.schema.SchemaObject.{SchemaObject}
use Rattle.schema_util.specs.Forms.{SchemaForm, form_of, truth, bare, reference, combination, struct, values, other, SchemaKind, kind_of, all_of, any_of, one_of, not_of, mixed}
use Rattle.schema_util.specs.Scalars.{Asked, has_members, fits, differs, is_wanted, finding, finding_of_kind, finding_of_type, finding_of_form, single_type}
use Rattle.schema_util.proofs.Levels.{by_level, finding_of_truth, finding_of_object}
use Rattle.schema_util.proofs.Sizes.{subschemas_smaller, combination_within, all_smaller, any_smaller, one_smaller}

kind_smaller : (s : Subschemas) (k : SchemaKind) (ms : List Schema) → kind_of s ≡ k → finding_of_kind k ≡ has_members ms → most size-Schema ms < size-Subschemas s
kind_smaller s (all_of []) ms is h = absurd (cc h)
kind_smaller s (all_of (m ∷ [])) ms is h = let same : m ∷ [] ≡ ms = cc h in rw (← same) (all_smaller s (m ∷ []) is)
kind_smaller s (all_of (m ∷ n ∷ rest)) ms is h = absurd (cc h)
kind_smaller s (any_of []) ms is h = absurd (cc h)
kind_smaller s (any_of (m ∷ [])) ms is h = let same : m ∷ [] ≡ ms = cc h in rw (← same) (any_smaller s (m ∷ []) is)
kind_smaller s (any_of (m ∷ n ∷ rest)) ms is h = absurd (cc h)
kind_smaller s (one_of members) ms is h = let same : members ≡ ms = cc h in rw (← same) (one_smaller s members is)
kind_smaller s (not_of m) ms is h = absurd (cc h)
kind_smaller s mixed ms is h = absurd (cc h)

at_differs : (asked : Asked) (o : Option InstanceType) (ms : List Schema) → finding_of_type asked o ≡ has_members ms → ⊥
at_differs asked None ms h = cc h
at_differs asked (Some type) ms h = by_test (is_wanted asked type) h where
  by_test : (b : Bool) → cond b fits differs ≡ has_members ms → ⊥
  by_test true h = cc h
  by_test false h = cc h

form_smaller : (asked : Asked) (o : SchemaObject) (form : SchemaForm) (ms : List Schema) → form_of o ≡ form → finding_of_form asked form (single_type o) ≡ has_members ms
    → most size-Schema ms < size-Schema (Object o)
form_smaller asked o (truth b) ms is h = absurd (at_differs asked (single_type o) ms h)
form_smaller asked o bare ms is h = absurd (at_differs asked (single_type o) ms h)
form_smaller asked o (reference text) ms is h = absurd (cc h)
form_smaller asked o (combination s) ms is h =
    omega (arith, kind_smaller s (kind_of s) ms refl h, subschemas_smaller o s (combination_within o s is))
form_smaller asked o (struct parts s) ms is h = absurd (at_differs asked (single_type o) ms h)
form_smaller asked o values ms is h = absurd (at_differs asked (single_type o) ms h)
form_smaller asked o other ms is h = absurd (at_differs asked (single_type o) ms h)

pub members_smaller : (asked : Asked) (s : Schema) (ms : List Schema) → finding asked s ≡ has_members ms → most size-Schema ms < size-Schema s
members_smaller asked = by_level (λ s. (ms : List Schema) → finding asked s ≡ has_members ms → most size-Schema ms < size-Schema s)
    (λ b ms h. let q = sym (finding_of_truth asked b) ∙ h in absurd (cc q))
    (λ o ms h. form_smaller asked o (form_of o) ms refl (sym (finding_of_object asked o) ∙ h))

-- one more schema of a list
pub next_member : (ms : List Schema) (i : ℕ) (m : Schema) → i < length ms → m ≡ get_or ms i m → drop i ms ≡ m ∷ drop (suc i) ms
next_member ms i m h is = drop-cons ms i m h ∙ ap (λ (x : Schema). x ∷ drop (suc i) ms) (sym is)
