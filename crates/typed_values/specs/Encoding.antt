-- The JSON value that a tree is written as. Fields stand in the order in which they are declared, and the pairs of a map in theirs.
use Rattle.std.specs.Prelude.{slice_get, ℕ, zero, suc, Bool, true, false, List, [], ◌∷◌, map, Option, Some, None}
use Rattle.schema_values.specs.declared.json_value.Json.TheOpen.{Json-F}
use Rattle.schema_values.specs.declared.json_value.Json.{Json, out-Json, Null, Bool as Truth, Int as Number, Text as Words, List as Items, Object}
use Rattle.schema_values.specs.declared.json_value.Member.{Member}
use Rattle.schema_values.specs.Member.{member}
use Rattle.descriptors.specs.declared.desc.Desc.{Desc, out-Desc}
use Rattle.descriptors.specs.declared.desc.Desc.TheOpen.{Desc-F}
use Rattle.descriptors.specs.declared.desc.Field.{Field}
use Rattle.descriptors.specs.declared.desc.Named.{Named}
use Rattle.descriptors.specs.declared.desc.TaggedVariant.{TaggedVariant}
use Rattle.descriptors.specs.declared.desc.Variant.{Variant}
use Rattle.descriptors.specs.declared.desc.Presence.{Presence}
use Rattle.descriptors.specs.declared.desc.Presence.TheVariants.{Required, Nullable, Skipped, Default}
use Rattle.descriptors.specs.declared.tree.Tree.{Tree}
use Rattle.descriptors.specs.declared.tree.Tree.TheOpen.{Tree-F}
use Rattle.descriptors.specs.declared.tree.Tree.TheFolds.{fold-Tree}
use Rattle.descriptors.specs.declared.table.Definition.{Definition}
use Rattle.descriptors.specs.Definitions.{definition, tagged_name}
use Rattle.typed_values.specs.Denotes.{room}
use Rattle.typed_values.specs.Fits.{field_desc, alternative_at, struct_of}
use Rattle.typed_values.specs.Levels.{DescLevel, TreeOf, PairOf, same_pair}

-- a tree as it is written: whether it is `None`, and its JSON with so many steps left under a descriptor
pub record Writing : Type 0 where
  pub is_none : Bool
  pub json : ℕ → Desc → Json

-- a field that may be skipped is left out where it is `None`
abbrev pub is_left_out : Presence → Bool → Bool
is_left_out Skipped is_none = is_none
is_left_out Required is_none = false
is_left_out Nullable is_none = false
is_left_out (Default tree) is_none = false

-- the member before others, unless it is left out
abbrev pub unless : Bool → Member → List Member → List Member
unless true m ms = ms
unless false m ms = m ∷ ms

-- the fields with their trees as members, without those that are left out
abbrev pub members_written : {X : Type 0} → (X → Bool) → (X → Desc → Json) → List Field → List X → List Member
members_written is_none written [] xs = []
members_written is_none written (f ∷ fs) [] = []
members_written is_none written (f ∷ fs) (x ∷ xs) =
    unless (is_left_out f.presence (is_none x)) (member f.name (written x (field_desc f))) (members_written is_none written fs xs)

-- what is written under a descriptor, null where there is none
abbrev pub written_if_there : (Desc → Json) → Option Desc → Json
written_if_there written None = Null
written_if_there written (Some d) = written d

-- What is written for trees that fit. Any other is written as null.
abbrev pub scalar_written : {X : Type 0} → TreeOf X → Json
scalar_written (Tree-F.Bool b) = Truth b
scalar_written (Tree-F.Int n) = Number n
scalar_written (Tree-F.Text text) = Words text
scalar_written _ = Null

-- any JSON value as it is
abbrev pub whole_written : {X : Type 0} → TreeOf X → Json
whole_written (Tree-F.Any json) = json
whole_written _ = Null

-- the name at a place, null where there is none
abbrev pub name_written : List Named → ℕ → Json
name_written [] i = Null
name_written (n ∷ ns) zero = Words n.name
name_written (n ∷ ns) (suc i) = name_written ns i

-- the name of an enumeration's tree
abbrev pub listed_written : {X : Type 0} → List Named → TreeOf X → Json
listed_written ns (Tree-F.Variant i x) = name_written ns i
listed_written ns _ = Null

-- the tree of an option that has one, else null
abbrev pub option_written : {X : Type 0} → (X → Json) → TreeOf X → Json
option_written written (Tree-F.Some x) = written x
option_written written _ = Null

-- each tree of a list, in order
abbrev pub items_written : {X : Type 0} → (X → Json) → TreeOf X → Json
items_written written (Tree-F.List xs) = Items (map written xs)
items_written written _ = Null

-- a pair as a member
abbrev pub pair_written : {X : Type 0} → (X → Json) → PairOf X → Member
pair_written written p = member p.key (written p.value)

-- the pairs of a map, as an object
abbrev pub entries_written : {X : Type 0} → (X → Json) → TreeOf X → Json
entries_written written (Tree-F.Map ps) = Object (map (pair_written written) ps)
entries_written written _ = Null

-- the trees of a struct, as an object
abbrev pub parts_written : {X : Type 0} → (X → Bool) → (X → Desc → Json) → List Field → TreeOf X → Json
parts_written is_none written fs (Tree-F.Fields xs) = Object (members_written is_none written fs xs)
parts_written is_none written fs _ = Null

-- the tree of an alternative, under the descriptor at its place
abbrev pub choice_written : {X : Type 0} → (X → Desc → Json) → List Desc → TreeOf X → Json
choice_written written ds (Tree-F.Variant i x) = written_if_there (written x) (alternative_at ds i)
choice_written written ds _ = Null

-- a variant: its name, or an object with what its payload is written as under its name
abbrev pub variant_written : (Desc → Json) → Variant → Json
variant_written written v = by_payload v.payload where
  by_payload : Option Desc → Json
  by_payload None = Words v.name
  by_payload (Some d) = Object (member v.name (written d) ∷ [])

-- the variant at a place, null where there is none
abbrev pub at_place : {X : Type 0} → (X → Json) → Option X → Json
at_place written None = Null
at_place written (Some x) = written x

-- a variant with its payload
abbrev pub external_written : {X : Type 0} → (X → Desc → Json) → List Variant → TreeOf X → Json
external_written written vs (Tree-F.Variant i x) = at_place (variant_written (written x)) (slice_get vs i)
external_written written vs _ = Null

-- the tag before the members of an object
abbrev pub with_tag : List ℕ → List ℕ → Json → Json
with_tag tag name json = by_kind (out-Json json) where
  by_kind : Json-F Json Member → Json
  by_kind (Json-F.Object ms) = Object (member tag (Words name) ∷ ms)
  by_kind _ = Null

-- the fields of a variant behind its tag
abbrev pub tagged_written : {X : Type 0} → (X → Desc → Json) → List ℕ → List TaggedVariant → TreeOf X → Json
tagged_written written tag vs (Tree-F.Variant i x) = at_place (λ v. with_tag tag (tagged_name v) (written x (struct_of v))) (slice_get vs i)
tagged_written written tag vs _ = Null

-- One row for each descriptor. `next` is how the same tree is written with one step less.
abbrev pub written_by : {X : Type 0} → List Definition → (X → Bool) → (X → Desc → Json) → (Desc → Json) → DescLevel → TreeOf X → Json
written_by table is_none written next Desc-F.Any tree = whole_written tree
written_by table is_none written next Desc-F.Never tree = Null
written_by table is_none written next Desc-F.Null tree = Null
written_by table is_none written next Desc-F.Bool tree = scalar_written tree
written_by table is_none written next Desc-F.Char tree = scalar_written tree
written_by table is_none written next (Desc-F.Int kind min max) tree = scalar_written tree
written_by table is_none written next (Desc-F.Text min max format) tree = scalar_written tree
written_by table is_none written next (Desc-F.Enumeration ns) tree = listed_written ns tree
written_by table is_none written next (Desc-F.Option d) tree = option_written (λ x. written x d) tree
written_by table is_none written next (Desc-F.List d min max) tree = items_written (λ x. written x d) tree
written_by table is_none written next (Desc-F.Map d) tree = entries_written (λ x. written x d) tree
written_by table is_none written next (Desc-F.Struct fs deny) tree = parts_written is_none written fs tree
written_by table is_none written next (Desc-F.External vs) tree = external_written written vs tree
written_by table is_none written next (Desc-F.Tagged tag vs) tree = tagged_written written tag vs tree
written_by table is_none written next (Desc-F.Untagged ds) tree = choice_written written ds tree
written_by table is_none written next (Desc-F.Ref name) tree = written_if_there next (definition table name)

-- whether a written tree is `None`
abbrev pub is_none_written : Writing → Bool
is_none_written x = x.is_none

-- with no step left null is written
unfoldable pub written_at : List Definition → ℕ → TreeOf Writing → ℕ → Desc → Json
written_at table room tree zero d = Null
written_at table room tree (suc n) d = written_by table is_none_written (λ x e. x.json room e) (written_at table room tree n) (out-Desc d) tree

-- whether one level of a tree is `None`
abbrev pub is_none_level : {X : Type 0} → TreeOf X → Bool
is_none_level Tree-F.None = true
is_none_level _ = false

-- one level, where each smaller tree stands as it is written
abbrev pub writing_step : List Definition → ℕ → TreeOf Writing → Writing
writing_step table room tree = record { is_none = is_none_level tree; json = written_at table room tree }

-- the steps are renewed at each smaller tree
abbrev pub writing : List Definition → ℕ → Tree → Writing
writing table room = fold-Tree Writing (PairOf Writing) (writing_step table room) same_pair

-- a tree under a descriptor that stands in a table or in a whole descriptor
unfoldable pub written_under : List Definition → Desc → Tree → Desc → Json
written_under table whole tree d = (writing table (room table whole) tree).json (room table whole) d

-- the JSON of a tree of a descriptor
abbrev pub json_of_tree : List Definition → Desc → Tree → Json
json_of_tree table desc tree = written_under table desc tree desc
