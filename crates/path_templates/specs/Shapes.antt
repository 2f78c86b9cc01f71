-- Shapes of templates: two templates have one shape where they are equal after each variable is replaced by one sign.
use Rattle.std.specs.Prelude.{ℕ, List, [], Option, map, option_map}
use Rattle.path_templates.specs.Segments.{segments_of}
use Rattle.path_templates.specs.Templates.{template_text}
use Rattle.path_templates.specs.declared.segment.PathSegment.{PathSegment}
use Rattle.path_templates.specs.declared.segment.PathSegment.TheVariants.{Literal, VarnameSegment, VarnameWildcard}

-- the sign for a variable or a wildcard: one without a name
abbrev pub sign : PathSegment
sign = VarnameSegment []

-- a segment, where a variable is replaced by the sign
abbrev pub nameless : PathSegment → PathSegment
nameless (Literal text) = Literal text
nameless (VarnameSegment name) = sign
nameless (VarnameWildcard name) = sign

-- the text of a template, where each variable is replaced by the sign
abbrev pub shape_of : List PathSegment → List ℕ
shape_of segments = template_text (map nameless segments)

-- the shape of a path, if it is a template
abbrev pub path_shape : List ℕ → Option (List ℕ)
path_shape path = option_map shape_of (segments_of path)
