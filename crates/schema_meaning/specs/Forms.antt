-- Cases by the form of a schema.
use Rattle.std.specs.Prelude.{Bool, List}
use Rattle.schema_values.specs.declared.schema.ArrayParts.{ArrayParts}
use Rattle.schema_values.specs.declared.schema.Items.{Items, out-Items}
use Rattle.schema_values.specs.declared.schema.Items.TheOpen.{Items-F, Schema-F}
use Rattle.schema_values.specs.declared.schema.ObjectParts.{ObjectParts}
use Rattle.schema_values.specs.declared.schema.Property.{Property}
use Rattle.schema_values.specs.declared.schema.Schema.{Schema, out-Schema}
use Rattle.schema_values.specs.declared.schema.SchemaObject.{SchemaObject}
use Rattle.schema_values.specs.declared.schema.Subschemas.{Subschemas}

-- one level of a schema, and of items
abbrev pub SchemaLevel : Type 0
SchemaLevel = Schema-F Items Schema ArrayParts ObjectParts Property SchemaObject Subschemas

abbrev pub ItemsLevel : Type 0
ItemsLevel = Items-F Items Schema ArrayParts ObjectParts Property SchemaObject Subschemas

module _ {X : Type 0} where
  -- one case for a truth value, another for a schema object
  abbrev pub level_by_form : (Bool → X) → (SchemaObject → X) → SchemaLevel → X
  level_by_form truth object (Schema-F.Bool b) = truth b
  level_by_form truth object (Schema-F.Object o) = object o

  abbrev pub by_form : (Bool → X) → (SchemaObject → X) → Schema → X
  by_form truth object schema = level_by_form truth object (out-Schema schema)

  -- one case for one schema of each item, another for schemas of items by place
  abbrev pub items_by_form : (Schema → X) → (List Schema → X) → ItemsLevel → X
  items_by_form one by_place (Items-F.One schema) = one schema
  items_by_form one by_place (Items-F.Tuple schemas) = by_place schemas

  abbrev pub by_items : (Schema → X) → (List Schema → X) → Items → X
  by_items one by_place items = items_by_form one by_place (out-Items items)
