-- What the code's own types and answers stand for.
use Rattle.std.specs.Prelude.{◌≡◌, ◌++◌, ℕ, Bool, List, Option, Some, None, Result, Ok, Err}
use Rattle.std.specs.Borrow.{Bor}
use Rattle.std.specs.Option.{option_copied}
use Rattle.schema_values.specs.declared.schema.Schema.{Schema}
use Rattle.schema_util.specs.declared.form.Form.{Form}
use Rattle.schema_util.specs.declared.form.Form.TheVariants as forms
use Rattle.schema_util.specs.declared.form.Kind.{Kind}
use Rattle.schema_util.specs.declared.form.Kind.TheVariants as kinds
use Rattle.schema_util.specs.declared.references.ResolveError.{ResolveError}
use Rattle.schema_util.specs.declared.scalar.Finding.{Finding}
use Rattle.schema_util.specs.declared.scalar.Finding.TheVariants as findings
use Rattle.schema_util.specs.declared.scalar.Wanted.{Wanted}
use Rattle.schema_util.specs.declared.scalar.Wanted.TheVariants.{Scalar, Text}
use Rattle.schema_util.specs.declared.struct_members.StructMember.{StructMember}
use Rattle.schema_util.specs.Forms.{SchemaForm, bare, reference, combination, struct, values, other, SchemaKind, all_of, any_of, one_of, not_of, mixed}
use Rattle.schema_util.specs.References.{Unresolved, Names, reason_of}
use Rattle.schema_util.specs.Scalars.{Asked, scalars, texts, SchemaFinding, refers, has_members, fits, differs}
use Rattle.schema_util.specs.StructMembers.{Gives, GiveAll}

-- a form of the code, as a value
abbrev pub form_value : Form → SchemaForm
form_value forms.Bare = bare
form_value (forms.Reference text) = reference text.now
form_value (forms.Combination subschemas) = combination subschemas.now
form_value (forms.Struct object subschemas) = struct (option_copied object) (option_copied subschemas)
form_value forms.Values = values
form_value forms.Other = other

-- a kind of the code, as a value
abbrev pub kind_value : Kind → SchemaKind
kind_value (kinds.AllOf schemas) = all_of schemas.now
kind_value (kinds.AnyOf schemas) = any_of schemas.now
kind_value (kinds.OneOf schemas) = one_of schemas.now
kind_value (kinds.Not schema) = not_of schema.now
kind_value kinds.Other = mixed

-- what the code answers, as a value
abbrev pub resolve_value : Result (Bor Schema) ResolveError → Result Schema Unresolved
resolve_value (Ok found) = Ok found.now
resolve_value (Err error) = Err (reason_of error)

-- what one step along a reference answers, as a value
abbrev pub follow_value : Result (Bor (List ℕ) × Bor Schema) ResolveError → Result (List ℕ × Schema) Unresolved
follow_value (Ok found) = Ok (found.0.now, found.1.now)
follow_value (Err error) = Err (reason_of error)

-- what the code asks for
abbrev pub asked_of : Wanted → Asked
asked_of Scalar = scalars
asked_of Text = texts

-- what the code finds, as a value
abbrev pub finding_value : Finding → SchemaFinding
finding_value (findings.Reference text) = refers text.now
finding_value (findings.Members members) = has_members members.now
finding_value findings.Fits = fits
finding_value findings.Differs = differs

-- what the code finds to flatten, as a value
abbrev pub flattened_value : Option (Bool × Bor (List Schema)) → Option (Bool × List Schema)
flattened_value None = None
flattened_value (Some found) = Some (found.0, found.1.now)

-- a schema has given members behind those that were there
abbrev pub HasGiven : Names → List (List ℕ) → Bool → Schema → List StructMember → List StructMember → Type 0
HasGiven names met required s old new = (more : List StructMember) × Gives names met required s (Ok more) × (new ≡ old ++ more)

-- schemas have given members behind those that were there
abbrev pub HaveGiven : Names → List (List ℕ) → Bool → List Schema → List StructMember → List StructMember → Type 0
HaveGiven names met required schemas old new = (more : List StructMember) × GiveAll names met required schemas (Ok more) × (new ≡ old ++ more)
