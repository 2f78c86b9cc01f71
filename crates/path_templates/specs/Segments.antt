-- The segments that a path is a template of, if it is one. All lists are of characters.
use Rattle.std.specs.Prelude.{◌==◌, ℕ, List, [], ◌∷◌, Option, Some, None, bytes_eq, codes, drop, find, if◌then◌else◌}
use Rattle.std.specs.Prelude.{length, option_and_then, option_map, take, take_while, unwrap_or}
use Rattle.path_templates.specs.Templates.{are_arranged, continues_name, is_literal, is_variable_name, is_wildcard}
use Rattle.path_templates.specs.Templates.{name_in, names_of, opening, slash, trimmed}
use Rattle.path_templates.specs.declared.segment.PathSegment.{PathSegment}
use Rattle.path_templates.specs.declared.segment.PathSegment.TheVariants.{Literal, VarnameSegment, VarnameWildcard}

-- a character before the first of some pieces
abbrev pub onto_first : ℕ → List (List ℕ) → List (List ℕ)
onto_first c [] = (c ∷ []) ∷ []
onto_first c (piece ∷ pieces) = (c ∷ piece) ∷ pieces

-- the pieces of a text between its slashes
abbrev pub pieces : List ℕ → List (List ℕ)
pieces [] = [] ∷ []
pieces (c ∷ cs) = if c == slash then [] ∷ pieces cs else onto_first c (pieces cs)

-- the pieces of what is left of a text behind a slash, if anything is
abbrev pub pieces_left : Option (List ℕ) → List (List ℕ)
pieces_left None = []
pieces_left (Some text) = pieces text

-- the variable of a name, by what stands behind the name: a brace, or `:.*` and a brace
abbrev pub closed_by : List ℕ → List ℕ → Option PathSegment
closed_by name ending =
    if bytes_eq ending (codes "}") then Some (VarnameSegment name)
    else if bytes_eq ending (codes ":.*}") then Some (VarnameWildcard name)
    else None

-- how many characters at the front may stand in a name
abbrev pub name_length : List ℕ → ℕ
name_length text = length (take_while continues_name text)

-- the variable of what stands behind an opening brace: as much as may stand in a name, and an ending
abbrev pub variable_of : List ℕ → Option PathSegment
variable_of text =
    let name = take (name_length text) text in
    if is_variable_name name then closed_by name (drop (name_length text) text) else None

-- a text as it is, if it is a literal
abbrev pub literal_of : List ℕ → Option PathSegment
literal_of text = if is_literal text then Some (Literal text) else None

-- the segment of a piece: a variable, or a literal
abbrev pub segment_of : List ℕ → Option PathSegment
segment_of [] = None
segment_of (c ∷ cs) = if c == opening then variable_of cs else literal_of (c ∷ cs)

-- a segment before others
abbrev pub before_others : PathSegment → Option (List PathSegment) → Option (List PathSegment)
before_others s others = option_map (λ ss. s ∷ ss) others

-- the segment of each piece, if each is one
abbrev pub segments_in : List (List ℕ) → Option (List PathSegment)
segments_in [] = Some []
segments_in (piece ∷ pieces) = option_and_then (λ s. before_others s (segments_in pieces)) (segment_of piece)

-- some segments, if they may stand together
abbrev pub if_arranged : List PathSegment → Option (List PathSegment)
if_arranged ss = if are_arranged ss then Some ss else None

-- the segments of what stands behind the first slash of a path
abbrev pub segments_behind : List ℕ → Option (List PathSegment)
segments_behind [] = Some []
segments_behind (c ∷ cs) = option_and_then if_arranged (segments_in (pieces (c ∷ cs)))

-- the segments of a path without a slash at its end
abbrev pub segments_trimmed : List ℕ → Option (List PathSegment)
segments_trimmed [] = None
segments_trimmed (c ∷ cs) = if c == slash then segments_behind cs else None

-- The segments of a path, if it is a template.
abbrev pub segments_of : List ℕ → Option (List PathSegment)
segments_of path = segments_trimmed (trimmed path)

-- the names of the variables of a path, in order; a path that is no template has none
abbrev pub template_names : List ℕ → List (List ℕ)
template_names path = unwrap_or (option_map names_of (segments_of path)) []

-- the name of the wildcard, if there is one
abbrev pub wildcard_of : List PathSegment → Option (List ℕ)
wildcard_of segments = option_and_then name_in (find is_wildcard segments)
