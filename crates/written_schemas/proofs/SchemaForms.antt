-- The parts of the schema of a descriptor.
use Rattle.std.proofs.Common.{◌≡◌, ℕ, List, [], ◌∷◌, ◌++◌, Option, Some, None, Bool, true, false, if◌then◌else◌, refl, sym, ◌∙◌, ap, codes}
use Rattle.std.specs.List.{list_any}
use Rattle.schema_values.specs.declared.schema.ArrayParts.{ArrayParts}
use Rattle.schema_values.specs.declared.schema.Items.{Items}
use Rattle.schema_values.specs.declared.schema.ObjectParts.{ObjectParts, ObjectParts-F}
use Rattle.schema_values.specs.declared.schema.Property.{Property}
use Rattle.schema_values.specs.declared.schema.Schema.{Schema}
use Rattle.schema_values.specs.declared.schema.SchemaObject.{SchemaObject, SchemaObject-F}
use Rattle.schema_values.specs.declared.schema.Subschemas.{Subschemas, roll-Subschemas}
use Rattle.descriptors.specs.declared.desc.Named.{Named}
use Rattle.typed_values.specs.SchemaTable.{is_described}
use Rattle.schema_values.specs.Parts.{Parts, no_parts}
use Rattle.typed_values.specs.Schemas.{object_of, no_subschemas, annotatable, nothing_more, one_of, choices_of, enumerated, texts_of, enumeration}

-- parts without the annotations that the schema of a descriptor never has
abbrev pub unmarked : {A B C D E F G : Type 0} → SchemaObject-F A B C D E F G → SchemaObject-F A B C D E F G
unmarked p = record p { title = None; deprecated = false; read_only = false; write_only = false; extensions = [] }

abbrev pub of_reference : List ℕ → Parts
of_reference name = record no_parts { reference = Some (codes "#/components/schemas/" ++ name) }

-- the schema in an `all_of` of one
abbrev pub in_all_of : Parts → Subschemas
in_all_of p = roll-Subschemas (record no_subschemas { all_of = Some (object_of p ∷ []) })

-- the members of a struct
abbrev pub StructParts : Type 0
StructParts = ObjectParts-F Items Schema ArrayParts ObjectParts Property SchemaObject Subschemas

abbrev pub object_parts : List Property → List (List ℕ) → Bool → StructParts
object_parts properties required deny = record { properties = properties; required = required; additional = nothing_more deny; min = None; max = None }

module _ (p : Parts) where
  pub kept : p.reference ≡ None → annotatable p ≡ p
  kept e = ap (λ (r : Option (List ℕ)). annotatable (record p { reference = r })) e ∙ ap (λ (r : Option (List ℕ)). record p { reference = r }) (sym e)

  pub wrapped : (text : List ℕ) → p.reference ≡ Some text → annotatable p ≡ record no_parts { subschemas = Some (in_all_of p) }
  wrapped text e =
      ap (λ (r : Option (List ℕ)). annotatable (record p { reference = r })) e
      ∙ ap (λ (r : Option (List ℕ)). record no_parts { subschemas = Some (in_all_of (record p { reference = r })) }) (sym e)

  annotatable_free : (r : Option (List ℕ)) → p.reference ≡ r → (annotatable p).reference ≡ None
  annotatable_free None e = ap (λ (q : Parts). q.reference) (kept e) ∙ e
  annotatable_free (Some text) e = ap (λ (q : Parts). q.reference) (wrapped text e)

  pub annotatable_is_free : (annotatable p).reference ≡ None
  annotatable_is_free = annotatable_free p.reference refl

pub enumeration_is_free : (ns : List Named) → (enumeration ns).reference ≡ None
enumeration_is_free ns = by_case (list_any is_described ns)
  where
    by_case : (b : Bool) → (if b then one_of (choices_of ns) else enumerated (texts_of ns)).reference ≡ None
    by_case true = refl
    by_case false = refl
