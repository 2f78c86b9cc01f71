-- Subschemas are smaller than the schema that they stand in.
use Rattle.std.proofs.Common.{◌≡◌, ℕ, suc, ◌+◌, ◌*◌, ◌<◌, ◌≤◌, Bool, true, false, cond, List, [], ◌∷◌, Option, Some, max, String, Global, string_bytes, bytes_eq, ◌∙◌, length, get_or, arith}
use denote.Param.Weighed.{most, at_most}
use Rattle.std.specs.Map.{lookup}
use Rattle.schema_values.specs.declared.json_value.Json.{Json}
use Rattle.schema_values.specs.declared.schema.InstanceTypes.{InstanceTypes}
use Rattle.schema_values.specs.declared.schema.ObjectParts.{ObjectParts}
use Rattle.schema_values.specs.declared.schema.Items.TheViews.{sized-Object}
use Rattle.schema_values.specs.declared.schema.Schema.{Schema, Object, size-Schema}
use Rattle.schema_values.specs.declared.schema.SchemaObject.{SchemaObject, out-SchemaObject, size-SchemaObject, size_is-SchemaObject}
use Rattle.schema_values.specs.declared.schema.Subschemas.{Subschemas, out-Subschemas, size-Subschemas, size_is-Subschemas}
use Rattle.schema_util.specs.Forms.{SchemaForm, form_of, is_limited, by_parts, combination, other, kind_of, by_kinds, all_of, any_of, one_of}
use Rattle.schema_util.specs.References.{is_met}
use Rattle.schema_util.proofs.Chains.{unmet, fewer}

size_object : (o : SchemaObject) → size-Schema (Object o) ≡ suc (size-SchemaObject o)
size_object o = sized-Object o ∙ omega arith

size_within : (o : SchemaObject) (s : Subschemas) → (out-SchemaObject o).subschemas ≡ Some s → size-Subschemas s < size-SchemaObject o
size_within o s h = grind (arith, size_is-SchemaObject o)

-- what stands in the subschemas of a schema
pub subschemas_smaller : (o : SchemaObject) (s : Subschemas) → (out-SchemaObject o).subschemas ≡ Some s → size-Subschemas s < size-Schema (Object o)
subschemas_smaller o s h = omega (arith, size_within o s h, size_object o)

size_all : (s : Subschemas) (ms : List Schema) → (out-Subschemas s).all_of ≡ Some ms → most size-Schema ms < size-Subschemas s
size_all s ms h = grind (arith, size_is-Subschemas s)

size_any : (s : Subschemas) (ms : List Schema) → (out-Subschemas s).any_of ≡ Some ms → most size-Schema ms < size-Subschemas s
size_any s ms h = grind (arith, size_is-Subschemas s)

size_one : (s : Subschemas) (ms : List Schema) → (out-Subschemas s).one_of ≡ Some ms → most size-Schema ms < size-Subschemas s
size_one s ms h = grind (arith, size_is-Subschemas s)

-- the subschemas that a form has are those of the schema
parts_combination : (t : Option InstanceTypes) (v : Option (List Json)) (s : Option Subschemas) (o : Option ObjectParts) (r : Option (List ℕ)) (x : Subschemas)
    → by_parts t v s o r ≡ combination x → s ≡ Some x
parts_combination t v s o r x h = grind arith

unlimited_combination : (b : Bool) (form : SchemaForm) (x : Subschemas) → cond b other form ≡ combination x → form ≡ combination x
unlimited_combination true form x h = absurd (cc h)
unlimited_combination false form x h = h

pub combination_within : (o : SchemaObject) (s : Subschemas) → form_of o ≡ combination s → (out-SchemaObject o).subschemas ≡ Some s
combination_within o s h = parts_combination _ _ _ _ _ s (unlimited_combination (is_limited o) _ s h)

kinds_all : (a b c : Option (List Schema)) (d : Option Schema) (ms : List Schema) → by_kinds a b c d ≡ all_of ms → a ≡ Some ms
kinds_all a b c d ms h = grind arith

kinds_any : (a b c : Option (List Schema)) (d : Option Schema) (ms : List Schema) → by_kinds a b c d ≡ any_of ms → b ≡ Some ms
kinds_any a b c d ms h = grind arith

kinds_one : (a b c : Option (List Schema)) (d : Option Schema) (ms : List Schema) → by_kinds a b c d ≡ one_of ms → c ≡ Some ms
kinds_one a b c d ms h = grind arith

pub all_smaller : (s : Subschemas) (ms : List Schema) → kind_of s ≡ all_of ms → most size-Schema ms < size-Subschemas s
all_smaller s ms h = size_all s ms (kinds_all _ _ _ _ ms h)

pub any_smaller : (s : Subschemas) (ms : List Schema) → kind_of s ≡ any_of ms → most size-Schema ms < size-Subschemas s
any_smaller s ms h = size_any s ms (kinds_any _ _ _ _ ms h)

pub one_smaller : (s : Subschemas) (ms : List Schema) → kind_of s ≡ one_of ms → most size-Schema ms < size-Subschemas s
one_smaller s ms h = size_one s ms (kinds_one _ _ _ _ ms h)

pub member_smaller : (ms : List Schema) (i : ℕ) (m : Schema) → i < length ms → m ≡ get_or ms i m → size-Schema m ≤ most size-Schema ms
member_smaller ms i m h is = rw is (at_most size-Schema ms i m h)

-- the largest definition
abbrev pub largest : List (String Global × Schema) → ℕ
largest [] = 0
largest (e ∷ es) = max (size-Schema e.1) (largest es)

found_by : (es : List (String Global × Schema)) (e : String Global × Schema) (b : Bool) (schema : Schema) (rest : Option Schema) → cond b (Some e.1) rest ≡ Some schema
    → (rest ≡ Some schema → size-Schema schema ≤ largest es) → size-Schema schema ≤ largest (e ∷ es)
found_by es e true schema rest h later = let same : e.1 ≡ schema = cc h in rw (← same) (omega arith)
found_by es e false schema rest h later = omega (arith, later h)

no_larger : (es : List (String Global × Schema)) (name : List ℕ) (schema : Schema) → lookup (λ key. bytes_eq name (string_bytes key)) es ≡ Some schema → size-Schema schema ≤ largest es
no_larger [] name schema h = absurd (cc h)
no_larger (e ∷ es) name schema h =
    found_by es e (bytes_eq name (string_bytes e.0)) schema (lookup (λ key. bytes_eq name (string_bytes key)) es) h (λ later. no_larger es name schema later)

-- the measure of a walk: definitions not met, and the size of what lies ahead, at most k times that of a schema
abbrev pub ahead : List (String Global × Schema) → List (List ℕ) → ℕ → ℕ → ℕ
ahead es met k size = unmet es met * suc (k * largest es) + size

below_stride : (fewer_left left stride k size : ℕ) → fewer_left < left → k < stride → fewer_left * stride + k < left * stride + size
below_stride fewer_left left stride k size h less =
    let step : suc fewer_left * stride ≤ left * stride = grind arith in omega (arith, step)

-- a reference is followed
pub falls : (es : List (String Global × Schema)) (met : List (List ℕ)) (name : List ℕ) (schema : Schema) (k size : ℕ) → lookup (λ key. bytes_eq name (string_bytes key)) es ≡ Some schema
    → is_met met name ≡ false → ahead es (name ∷ met) k (k * size-Schema schema) < ahead es met k size
falls es met name schema k size found never =
    let small : k * size-Schema schema ≤ k * largest es = grind (arith, no_larger es name schema found) in
    below_stride (unmet es (name ∷ met)) (unmet es met) (suc (k * largest es)) (k * size-Schema schema) size (fewer es met name schema found never) (omega (arith, small))
