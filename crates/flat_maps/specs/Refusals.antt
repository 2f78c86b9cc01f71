-- What is told of a value that has no place in a map of texts, as a field of a struct or as the whole (OpenAPI 3.0.3,
-- Header Object, whose style `simple` writes scalar values alone). The words are this project's own.
use Rattle.std.specs.Prelude.{ℕ, ℤ, pos, negsuc, List, Option, Some, None, ◌++◌, codes, slice_get, option_and_then}
use Rattle.schema_values.specs.declared.json_value.Json.{Json, out-Json}
use Rattle.schema_values.specs.declared.json_value.Member.{Member}
use Rattle.schema_values.specs.declared.json_value.Json.TheOpen.{Json-F}
use Rattle.descriptors.specs.declared.desc.Desc.{Desc, out-Desc}
use Rattle.descriptors.specs.declared.desc.Desc.TheOpen.{Desc-F}
use Rattle.descriptors.specs.declared.desc.IntKind.TheVariants.{I64, U64}
use Rattle.descriptors.specs.declared.desc.Variant.{Variant}
use Rattle.descriptors.specs.declared.table.Definition.{Definition}
use Rattle.descriptors.specs.declared.tree.Tree.{Tree}
use Rattle.descriptors.specs.declared.tree.Tree.TheOpen.{Tree-F}
use Rattle.typed_values.specs.Levels.{DescLevel, TreeOf}
use Rattle.flat_maps.specs.Flat.{resolved}
use Rattle.scalar_texts.specs.Texts.{kind_name}

-- a value of a type that is no text
abbrev pub invalid_type : List ℕ → List ℕ
invalid_type name = codes "invalid type: " ++ name

-- a number in JSON is one of 64 bits, with a sign where it is below 0
abbrev pub number_refusal : ℤ → List ℕ
number_refusal (pos n) = invalid_type (kind_name U64)
number_refusal (negsuc n) = invalid_type (kind_name I64)

-- any JSON value, by its form
abbrev pub json_refusal : Json-F Json Member → List ℕ
json_refusal Json-F.Null = invalid_type (codes "unit")
json_refusal (Json-F.Bool b) = invalid_type (codes "bool")
json_refusal (Json-F.Int n) = number_refusal n
json_refusal (Json-F.Text text) = invalid_type (codes "str")
json_refusal (Json-F.List xs) = codes "cannot serialize a sequence"
json_refusal (Json-F.Object ms) = codes "cannot serialize a map"

-- what the tree of any value holds
abbrev pub whole_refusal : TreeOf Tree → List ℕ
whole_refusal (Tree-F.Any json) = json_refusal (out-Json json)
whole_refusal _ = invalid_type (codes "unit")

-- an option that is no field's
abbrev pub option_refusal : TreeOf Tree → List ℕ
option_refusal Tree-F.None = invalid_type (codes "none")
option_refusal _ = invalid_type (codes "some")

-- a variant, by what its payload is
abbrev pub payload_by : DescLevel → List ℕ
payload_by (Desc-F.Struct fs deny) = codes "cannot serialize a struct variant"
payload_by _ = invalid_type (codes "newtype_variant")

-- a payload that references lead to
abbrev pub payload_behind : Option Desc → List ℕ
payload_behind None = invalid_type (codes "newtype_variant")
payload_behind (Some d) = payload_by (out-Desc d)

-- a variant with its payload, or without one
abbrev pub payload_refusal : List Definition → Option Desc → List ℕ
payload_refusal table None = invalid_type (codes "unit_variant")
payload_refusal table (Some d) = payload_behind (resolved table d)

-- the payload of a variant that is there
abbrev pub payload_there : Option Variant → Option Desc
payload_there = option_and_then (λ v. v.payload)

-- the payload at the place that a choice has
abbrev pub chosen_payload : (ℕ → Option Desc) → TreeOf Tree → Option Desc
chosen_payload payload (Tree-F.Variant i x) = payload i
chosen_payload payload _ = None

-- one row for each descriptor that is no reference; what else there is has no value
abbrev pub refusal_by : List Definition → DescLevel → TreeOf Tree → List ℕ
refusal_by table Desc-F.Any t = whole_refusal t
refusal_by table Desc-F.Bool t = invalid_type (codes "bool")
refusal_by table Desc-F.Char t = invalid_type (codes "char")
refusal_by table (Desc-F.Int kind min max) t = invalid_type (kind_name kind)
refusal_by table (Desc-F.Text min max format) t = invalid_type (codes "str")
refusal_by table (Desc-F.Enumeration ns) t = invalid_type (codes "unit_variant")
refusal_by table (Desc-F.Option d) t = option_refusal t
refusal_by table (Desc-F.List d min max) t = codes "cannot serialize a sequence"
refusal_by table (Desc-F.Map d) t = codes "cannot serialize a map"
refusal_by table (Desc-F.Struct fs deny) t = codes "cannot serialize a struct"
refusal_by table (Desc-F.External vs) t = payload_refusal table (chosen_payload (λ i. payload_there (slice_get vs i)) t)
refusal_by table (Desc-F.Tagged tag vs) t = codes "cannot serialize a struct variant"
refusal_by table (Desc-F.Untagged ds) t = payload_refusal table (chosen_payload (slice_get ds) t)
refusal_by table _ t = invalid_type (codes "unit")
