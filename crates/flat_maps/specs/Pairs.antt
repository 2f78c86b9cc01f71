-- Which struct pairs denote (URL Standard, section 5.1), by a rule on names that stand more than once. The rule is this
-- project's own: OpenAPI 3.0.3 says of no parameter what its name standing twice in a query means.
use Rattle.std.specs.Prelude.{◌≡◌, ℕ, List, [], ◌∷◌, Option, Some, None, option_map, if◌then◌else◌}
use Rattle.std.specs.declared.result.Result.TheVariants.{Ok}
use Rattle.schema_values.specs.declared.variables.VariableValue.TheVariants.{String}
use Rattle.request_words.specs.declared.pairs.NamedText.{NamedText}
use Rattle.request_words.specs.Pairs.{is_doubled, last_value}
use Rattle.descriptors.specs.declared.desc.Desc.{Desc}
use Rattle.descriptors.specs.declared.desc.Field.{Field}
use Rattle.descriptors.specs.declared.table.Definition.{Definition}
use Rattle.descriptors.specs.declared.tree.Tree.{Tree}
use Rattle.typed_values.specs.declared.fault.FaultKind.TheVariants.{Doubled}
use Rattle.typed_values.specs.declared.fault.Place.TheVariants.{Name}
use Rattle.typed_values.specs.Denotes.{Told, refused, below}
use Rattle.flat_maps.specs.declared.repeats.Repeats.{Repeats}
use Rattle.flat_maps.specs.declared.repeats.Repeats.TheVariants.{Refuse, Last}
use Rattle.flat_maps.specs.Given.{Names}
use Rattle.flat_maps.specs.Flat.{resolved, fields_told, flat_fields, looked_up, under_struct}

-- the last value of each name
abbrev pub last_values : List NamedText → Names
last_values pairs name = option_map String (last_value name pairs)

-- the first field whose name stands more than once
abbrev pub first_doubled : List NamedText → List Field → Option (List ℕ)
first_doubled pairs [] = None
first_doubled pairs (f ∷ fs) = if is_doubled pairs f.name then Some f.name else first_doubled pairs fs

-- a name that stands more than once is told before all else, at its own path
abbrev pub unless_doubled : Option (List ℕ) → Told → Told
unless_doubled None told = told
unless_doubled (Some name) told = below (Name name) (refused (Doubled name))

-- whether names may stand more than once
abbrev pub by_repeats : Repeats → Option (List ℕ) → Told → Told
by_repeats Refuse name told = unless_doubled name told
by_repeats Last name told = told

-- the fields of a struct, from pairs
abbrev pub pairs_fields : List Definition → Repeats → List NamedText → List Field → Told
pairs_fields table repeats pairs fs =
    by_repeats repeats (first_doubled pairs fs) (fields_told (looked_up table (last_values pairs)) fs)

-- what pairs denote: of each name the last one counts, and by the rule on repeats none of a field's may stand more than
-- once
abbrev pub pairs_told : List Definition → Repeats → List NamedText → Desc → Told
pairs_told table repeats pairs d = under_struct (pairs_fields table repeats pairs) (flat_fields (resolved table d))

-- the pairs denote the tree
abbrev pub PairsDenote : List Definition → Desc → Repeats → List NamedText → Tree → Type 0
PairsDenote table desc repeats pairs tree = pairs_told table repeats pairs desc ≡ Ok tree

-- each field's name stands at most once
abbrev pub StandOnce : List Definition → Desc → List NamedText → Type 0
StandOnce table desc pairs =
    (fs : List Field) → flat_fields (resolved table desc) ≡ Some fs → first_doubled pairs fs ≡ None
