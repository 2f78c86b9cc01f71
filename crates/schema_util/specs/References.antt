-- What references lead to (OpenAPI 3.0.3, Reference Object). Names and references stand in UTF-8.
use Rattle.std.specs.Prelude.{◌≡◌, ℕ, Bool, List, ◌∷◌, Option, Some, None, Result, Ok, Err, length, drop, bytes_eq, nat_eq, codes, if◌then◌else◌}
use Rattle.std.specs.List.{list_any, starts_with}
use Rattle.std.specs.Str.{encode_utf8_all}
use Rattle.schema_values.specs.declared.schema.Schema.{Schema}
use Rattle.schema_util.specs.Forms.{SchemaForm, schema_form, reference}
use Rattle.schema_util.specs.declared.references.ResolveError.{ResolveError}
use Rattle.schema_util.specs.declared.references.ResolveError.TheVariants.{Dangling, Cycle}

-- why a reference leads to no schema: no definition has its name, or the name comes again
pub data Unresolved : Type 0 where
  dangling : List ℕ → Unresolved
  cycle : List ℕ → Unresolved

-- the schemas of names
abbrev pub Names : Type 0
Names = List ℕ → Option Schema

-- the reference of a form that is nothing else
abbrev pub reference_in : SchemaForm → Option (List ℕ)
reference_in (reference text) = Some (encode_utf8_all text)
reference_in _ = None

-- the reference of a schema that is nothing else
abbrev pub reference_of : Schema → Option (List ℕ)
reference_of schema = reference_in (schema_form schema)

-- where definitions stand in a document
abbrev pub definitions_prefix : List ℕ
definitions_prefix = codes "#/components/schemas/"

-- the name in a reference to a definition
abbrev pub name_in : List ℕ → Option (List ℕ)
name_in text = if starts_with nat_eq text definitions_prefix then Some (drop (length definitions_prefix) text) else None

-- whether a name was met
abbrev pub is_met : List (List ℕ) → List ℕ → Bool
is_met met name = list_any (λ other. bytes_eq other name) met

-- the definition of a name, or why there is none
abbrev pub look_up : List ℕ → Option Schema → Result (List ℕ × Schema) Unresolved
look_up name None = Err (dangling name)
look_up name (Some schema) = Ok (name, schema)

-- the definition of the name in a reference, behind the names that were met; a reference to elsewhere has none
abbrev pub follow_name : Names → List (List ℕ) → List ℕ → Option (List ℕ) → Result (List ℕ × Schema) Unresolved
follow_name names met text None = Err (dangling text)
follow_name names met text (Some name) = if is_met met name then Err (cycle name) else look_up name (names name)

-- one step along a reference, behind the names that were met: a name and its schema, or why there is none
abbrev pub follow : Names → List (List ℕ) → List ℕ → Result (List ℕ × Schema) Unresolved
follow names met text = follow_name names met text (name_in text)

-- what a schema comes to along references, behind the names that were met
pub data ComesTo (names : Names) : List (List ℕ) → Schema → Result Schema Unresolved → Type 0 where
  stays : {met : List (List ℕ)} {schema : Schema} → reference_of schema ≡ None → ComesTo names met schema (Ok schema)
  breaks : {met : List (List ℕ)} {schema : Schema} (text : List ℕ) (why : Unresolved) → reference_of schema ≡ Some text → follow names met text ≡ Err why
      → ComesTo names met schema (Err why)
  goes_on : {met : List (List ℕ)} {schema : Schema} (text name : List ℕ) (next : Schema) (end : Result Schema Unresolved) → reference_of schema ≡ Some text
      → follow names met text ≡ Ok (name, next) → ComesTo names (name ∷ met) next end → ComesTo names met schema end

-- what an error says
abbrev pub reason_of : ResolveError → Unresolved
reason_of (Dangling name) = dangling name.now
reason_of (Cycle name) = cycle name.now
