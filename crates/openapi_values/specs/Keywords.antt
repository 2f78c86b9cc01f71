-- The members of a schema object, by their names (OpenAPI 3.0.3, Schema Object and Specification Extensions).
use Rattle.std.specs.Prelude.{ℕ, Bool, ◌||◌, List, [], ◌∷◌, if◌then◌else◌, is_some, bytes_eq, codes}
use Rattle.std.specs.List.{list_any}
use Rattle.request_words.specs.Prefixes.{after}
use Rattle.openapi_values.specs.declared.keywords.Keyword.{Keyword}
use Rattle.openapi_values.specs.declared.keywords.Keyword.TheVariants.{Reference, Nullable, Annotation, OfType, Format, Enum, Minimum, Maximum, ExclusiveMinimum, ExclusiveMaximum, MinLength, MaxLength, Items, MinItems, MaxItems, Properties, Required, AdditionalProperties, MinProperties, MaxProperties, AllOf, AnyOf, OneOf, Not, Other}

-- the names of members that are read as of no effect on what is admitted; `xml` and `externalDocs` are not
abbrev pub annotation_names : List (List ℕ)
annotation_names =
    codes "title" ∷ codes "description" ∷ codes "default" ∷ codes "readOnly" ∷ codes "writeOnly" ∷ codes "deprecated" ∷ codes "example" ∷ []

-- one of these names, or a name of an extension
unfoldable pub is_annotation : List ℕ → Bool
is_annotation name = list_any (bytes_eq name) annotation_names || is_some (after (codes "x-") name)

-- the bound of a number, a length or a count that a name stands for, or another keyword
unfoldable pub bound_or : Keyword → List ℕ → Keyword
bound_or other name =
    if bytes_eq name (codes "minimum") then Minimum else
    (if bytes_eq name (codes "maximum") then Maximum else
    (if bytes_eq name (codes "exclusiveMinimum") then ExclusiveMinimum else
    (if bytes_eq name (codes "exclusiveMaximum") then ExclusiveMaximum else
    (if bytes_eq name (codes "minLength") then MinLength else
    (if bytes_eq name (codes "maxLength") then MaxLength else
    (if bytes_eq name (codes "minItems") then MinItems else
    (if bytes_eq name (codes "maxItems") then MaxItems else
    (if bytes_eq name (codes "minProperties") then MinProperties else
    (if bytes_eq name (codes "maxProperties") then MaxProperties else
    other)))))))))

-- the keyword that any other name stands for
unfoldable pub part_of : List ℕ → Keyword
part_of name =
    if bytes_eq name (codes "$ref") then Reference else
    (if bytes_eq name (codes "nullable") then Nullable else
    (if bytes_eq name (codes "type") then OfType else
    (if bytes_eq name (codes "format") then Format else
    (if bytes_eq name (codes "enum") then Enum else
    (if bytes_eq name (codes "items") then Items else
    (if bytes_eq name (codes "properties") then Properties else
    (if bytes_eq name (codes "required") then Required else
    (if bytes_eq name (codes "additionalProperties") then AdditionalProperties else
    (if bytes_eq name (codes "allOf") then AllOf else
    (if bytes_eq name (codes "anyOf") then AnyOf else
    (if bytes_eq name (codes "oneOf") then OneOf else
    (if bytes_eq name (codes "not") then Not else
    Other))))))))))))

-- the keyword that a member's name stands for
abbrev pub keyword_of : List ℕ → Keyword
keyword_of name = if is_annotation name then Annotation else bound_or (part_of name) name
