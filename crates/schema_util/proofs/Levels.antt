-- The form of a schema that the code has looked into.
use Rattle.std.proofs.Common.{◌≡◌, Bool, refl, subst}
use Rattle.schema_values.specs.declared.schema.Items.TheViews.{outs-Bool, outs-Object, roll-Schema, roll-out-Schema}
use Rattle.schema_values.specs.declared.schema.Items.TheOpen as open_types
use Rattle.schema_values.specs.declared.schema.Schema.{Schema, Bool as Truth, Object, out-Schema}
use Rattle.schema_values.specs.declared.schema.SchemaObject.{SchemaObject}
use Rattle.schema_util.specs.Forms.{schema_form, form_of, truth}
use Rattle.schema_util.specs.Scalars.{Asked, finding, finding_of_form, differs, single_type}

pub form_of_truth : (b : Bool) → schema_form (Truth b) ≡ truth b
form_of_truth b = rw (outs-Bool b, schema_form) refl

pub form_of_object : (object : SchemaObject) → schema_form (Object object) ≡ form_of object
form_of_object object = rw (outs-Object object, schema_form) refl

pub finding_of_truth : (asked : Asked) (b : Bool) → finding asked (Truth b) ≡ differs
finding_of_truth asked b = rw (outs-Bool b, finding) refl

pub finding_of_object : (asked : Asked) (object : SchemaObject) → finding asked (Object object) ≡ finding_of_form asked (form_of object) (single_type object)
finding_of_object asked object = rw (outs-Object object, finding) refl

-- a schema is a truth value or an object
pub by_level : (P : Schema → Type 0) → ((b : Bool) → P (Truth b)) → ((o : SchemaObject) → P (Object o)) → (s : Schema) → P s
unfolding roll-Schema denote.Hole.Carrier.roll
by_level P at_truth at_object s = subst P (roll-out-Schema s) (elim (out-Schema s) as (λ x. P (roll-Schema x)) [ open_types.Bool b ↦ at_truth b | open_types.Object o ↦ at_object o ])
