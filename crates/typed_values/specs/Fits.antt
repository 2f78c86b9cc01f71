-- Which trees are values of a descriptor.
use Rattle.std.specs.Prelude.{ℕ, zero, suc, ◌==◌, nat_lt, ℤ, Bool, true, false, IsTrue, ◌&&◌, List, [], ◌∷◌, length, map, Option, Some, None}
use Rattle.std.specs.Cmp.Lexicographic.{slice_cmp}
use Rattle.std.specs.Ordering.{nat_cmp}
use Rattle.std.specs.declared.cmp.Ordering.{Ordering}
use Rattle.std.specs.declared.cmp.Ordering.TheVariants.{Less}
use Rattle.schema_values.specs.SoundTest.{is_sound}
use Rattle.descriptors.specs.declared.desc.Desc.{Desc, Null as NullDesc, Option as OptionOf, Struct as StructOf, out-Desc}
use Rattle.descriptors.specs.declared.desc.Desc.TheOpen.{Desc-F}
use Rattle.descriptors.specs.declared.desc.Field.{Field}
use Rattle.descriptors.specs.declared.desc.Named.{Named}
use Rattle.descriptors.specs.declared.desc.IntKind.{IntKind}
use Rattle.descriptors.specs.declared.desc.TaggedVariant.{TaggedVariant}
use Rattle.descriptors.specs.declared.desc.Variant.{Variant}
use Rattle.descriptors.specs.declared.desc.Presence.{Presence}
use Rattle.descriptors.specs.declared.desc.Presence.TheVariants.{Required, Nullable, Skipped, Default}
use Rattle.descriptors.specs.declared.tree.Tree.{Tree}
use Rattle.descriptors.specs.declared.tree.Tree.TheOpen.{Tree-F}
use Rattle.descriptors.specs.declared.tree.Tree.TheFolds.{fold-Tree}
use Rattle.descriptors.specs.declared.table.Definition.{Definition}
use Rattle.descriptors.specs.Definitions.{definition, tagged_fields}
use Rattle.typed_values.specs.Bounds.{is_number_of, is_length_within}
use Rattle.typed_values.specs.Denotes.{room}
use Rattle.typed_values.specs.Levels.{DescLevel, TreeOf, PairOf, same_pair}

-- whether a tree fits, with so many steps left, a descriptor
abbrev pub Fitting : Type 0
Fitting = ℕ → Desc → Bool

-- any sound JSON value
abbrev pub whole_fits : {X : Type 0} → TreeOf X → Bool
whole_fits (Tree-F.Any json) = is_sound json
whole_fits _ = false

-- the tree of null
abbrev pub nought_fits : {X : Type 0} → TreeOf X → Bool
nought_fits Tree-F.Unit = true
nought_fits _ = false

-- a truth value
abbrev pub truth_fits : {X : Type 0} → TreeOf X → Bool
truth_fits (Tree-F.Bool b) = true
truth_fits _ = false

-- a number of the kind, within the bounds
abbrev pub number_fits : {X : Type 0} → IntKind → Option ℤ → Option ℤ → TreeOf X → Bool
number_fits kind min max (Tree-F.Int n) = is_number_of kind min max n
number_fits kind min max _ = false

-- a text whose length is within the bounds
abbrev pub words_fit : {X : Type 0} → Option ℕ → Option ℕ → TreeOf X → Bool
words_fit min max (Tree-F.Text text) = is_length_within min max (length text)
words_fit min max _ = false

-- a text of one character
abbrev pub character_fits : {X : Type 0} → TreeOf X → Bool
character_fits (Tree-F.Text text) = length text == 1
character_fits _ = false

-- the place of a name, with the tree of null
abbrev pub name_fits : {X : Type 0} → (X → Bool) → List Named → TreeOf X → Bool
name_fits is_nought ns (Tree-F.Variant i x) = nat_lt i (length ns) && is_nought x
name_fits is_nought ns _ = false

-- nothing, or a tree that fits
abbrev pub option_fits : {X : Type 0} → (X → Bool) → TreeOf X → Bool
option_fits fits Tree-F.None = true
option_fits fits (Tree-F.Some x) = fits x
option_fits fits _ = false

-- each of some trees fits
abbrev pub each_fits : {X : Type 0} → (X → Bool) → List X → Bool
each_fits fits [] = true
each_fits fits (x ∷ xs) = fits x && each_fits fits xs

-- a list whose length is within the bounds, and each of whose trees fits
abbrev pub items_fit : {X : Type 0} → (X → Bool) → Option ℕ → Option ℕ → TreeOf X → Bool
items_fit fits min max (Tree-F.List xs) = is_length_within min max (length xs) && each_fits fits xs
items_fit fits min max _ = false

-- a key before another in the order of characters
abbrev pub is_less : Ordering → Bool
is_less Less = true
is_less _ = false

-- each key stands before the next
abbrev pub are_ascending : List (List ℕ) → Bool
are_ascending [] = true
are_ascending (key ∷ []) = true
are_ascending (key ∷ other ∷ keys) = is_less (slice_cmp nat_cmp key other) && are_ascending (other ∷ keys)

-- the key of a pair
abbrev pub key_of : {X : Type 0} → PairOf X → List ℕ
key_of p = p.key

-- a map, whose keys ascend and each of whose values fits
abbrev pub entries_fit : {X : Type 0} → (X → Bool) → TreeOf X → Bool
entries_fit fits (Tree-F.Map ps) = are_ascending (map key_of ps) && each_fits (λ p. fits p.value) ps
entries_fit fits _ = false

-- a field's tree is one of an option where the field may be skipped
abbrev pub field_desc : Field → Desc
field_desc f = under f.presence where
  under : Presence → Desc
  under Required = f.desc
  under Nullable = f.desc
  under Skipped = OptionOf f.desc
  under (Default tree) = f.desc

-- one tree for each field, in order
abbrev pub fields_fit : {X : Type 0} → (X → Desc → Bool) → List Field → List X → Bool
fields_fit fits [] [] = true
fields_fit fits [] (x ∷ xs) = false
fields_fit fits (f ∷ fs) [] = false
fields_fit fits (f ∷ fs) (x ∷ xs) = fits x (field_desc f) && fields_fit fits fs xs

-- a struct, whose trees fit the fields
abbrev pub parts_fit : {X : Type 0} → (X → Desc → Bool) → List Field → TreeOf X → Bool
parts_fit fits fs (Tree-F.Fields xs) = fields_fit fits fs xs
parts_fit fits fs _ = false

-- the descriptor at a place
abbrev pub alternative_at : List Desc → ℕ → Option Desc
alternative_at [] i = None
alternative_at (d ∷ ds) zero = Some d
alternative_at (d ∷ ds) (suc i) = alternative_at ds i

-- a test of a descriptor, which fails where there is none
abbrev pub if_there : (Desc → Bool) → Option Desc → Bool
if_there fits None = false
if_there fits (Some d) = fits d

-- an alternative, whose tree fits the descriptor at its place
abbrev pub choice_fits : {X : Type 0} → (X → Desc → Bool) → List Desc → TreeOf X → Bool
choice_fits fits ds (Tree-F.Variant i x) = if_there (fits x) (alternative_at ds i)
choice_fits fits ds _ = false

-- the descriptor of a payload: without one the tree is that of null
abbrev pub payload_or_null : Option Desc → Desc
payload_or_null None = NullDesc
payload_or_null (Some d) = d

-- the descriptor of a variant's payload
abbrev pub payload_of : Variant → Desc
payload_of v = payload_or_null v.payload

-- the struct of a tagged variant's fields
abbrev pub struct_of : TaggedVariant → Desc
struct_of v = StructOf (tagged_fields v) false

-- One row for each descriptor. `next` is whether the same tree fits with one step less.
abbrev pub fits_by : {X : Type 0} → List Definition → (X → Desc → Bool) → (Desc → Bool) → DescLevel → TreeOf X → Bool
fits_by table fits next Desc-F.Any tree = whole_fits tree
fits_by table fits next Desc-F.Never tree = false
fits_by table fits next Desc-F.Null tree = nought_fits tree
fits_by table fits next Desc-F.Bool tree = truth_fits tree
fits_by table fits next Desc-F.Char tree = character_fits tree
fits_by table fits next (Desc-F.Int kind min max) tree = number_fits kind min max tree
fits_by table fits next (Desc-F.Text min max format) tree = words_fit min max tree
fits_by table fits next (Desc-F.Enumeration ns) tree = name_fits (λ x. fits x NullDesc) ns tree
fits_by table fits next (Desc-F.Option d) tree = option_fits (λ x. fits x d) tree
fits_by table fits next (Desc-F.List d min max) tree = items_fit (λ x. fits x d) min max tree
fits_by table fits next (Desc-F.Map d) tree = entries_fit (λ x. fits x d) tree
fits_by table fits next (Desc-F.Struct fs deny) tree = parts_fit fits fs tree
fits_by table fits next (Desc-F.External vs) tree = choice_fits fits (map payload_of vs) tree
fits_by table fits next (Desc-F.Tagged tag vs) tree = choice_fits fits (map struct_of vs) tree
fits_by table fits next (Desc-F.Untagged ds) tree = choice_fits fits ds tree
fits_by table fits next (Desc-F.Ref name) tree = if_there next (definition table name)

-- with no step left nothing fits
unfoldable pub fits_at : List Definition → ℕ → TreeOf Fitting → Fitting
fits_at table room tree zero d = false
fits_at table room tree (suc n) d = fits_by table (λ x e. x room e) (fits_at table room tree n) (out-Desc d) tree

-- the steps are renewed at each smaller tree
abbrev pub fits_within : List Definition → ℕ → Tree → Fitting
fits_within table room = fold-Tree Fitting (PairOf Fitting) (fits_at table room) same_pair

-- whether a tree fits a descriptor that stands in a table or in a whole descriptor
unfoldable pub fits_under : List Definition → Desc → Tree → Desc → Bool
fits_under table whole tree d = fits_within table (room table whole) tree (room table whole) d

-- the tree is a value of the descriptor
abbrev pub Fits : List Definition → Desc → Tree → Type 0
Fits table desc tree = IsTrue (fits_under table desc tree desc)
