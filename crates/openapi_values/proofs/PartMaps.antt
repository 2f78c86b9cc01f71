-- How the smaller schemas in a part are replaced: each where it stands.
use Rattle.std.proofs.Common.{◌≡◌, List, Option, Some, None, option_map, map, refl}
use Rattle.schema_values.specs.declared.schema.Items.TheShapes.{former-ArrayParts-items, former-ObjectParts-additional, former-SchemaObject-array, former-SchemaObject-object, former-SchemaObject-subschemas, former-Subschemas-all_of}

pub items-map : {X Y : Type 0} (f : X → Y) (o : Option X) → former-ArrayParts-items.map X Y f o ≡ option_map f o
items-map f None = refl
items-map f (Some x) = refl

pub additional-map : {X Y : Type 0} (f : X → Y) (o : Option X) → former-ObjectParts-additional.map X Y f o ≡ option_map f o
additional-map f None = refl
additional-map f (Some x) = refl

pub array-map : {X Y : Type 0} (f : X → Y) (o : Option X) → former-SchemaObject-array.map X Y f o ≡ option_map f o
array-map f None = refl
array-map f (Some x) = refl

pub object-map : {X Y : Type 0} (f : X → Y) (o : Option X) → former-SchemaObject-object.map X Y f o ≡ option_map f o
object-map f None = refl
object-map f (Some x) = refl

pub subschemas-map : {X Y : Type 0} (f : X → Y) (o : Option X) → former-SchemaObject-subschemas.map X Y f o ≡ option_map f o
subschemas-map f None = refl
subschemas-map f (Some x) = refl

pub all_of-map : {X Y : Type 0} (f : X → Y) (o : Option (List X)) → former-Subschemas-all_of.map X Y f o ≡ option_map (map f) o
all_of-map f None = refl
all_of-map f (Some xs) = refl
