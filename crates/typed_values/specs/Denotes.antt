-- Which tree a JSON value denotes under a descriptor, and which fault is told first where it denotes none.
use Rattle.std.specs.Option.{option_map}
use Rattle.std.specs.Prelude.{◌≡◌, ◌==◌, ℕ, zero, suc, ◌+◌, ℤ, Bool, true, false, not, List, [], ◌∷◌, length, map, filter, Option, Some, None, if◌then◌else◌, bytes_eq, sum}
use Rattle.std.specs.declared.result.Result.{Result}
use Rattle.std.specs.declared.result.Result.TheVariants.{Ok, Err}
use Rattle.std.specs.declared.cmp.Ordering.{Ordering}
use Rattle.std.specs.declared.cmp.Ordering.TheVariants.{Less, Equal, Greater}
use Rattle.std.specs.Ordering.{nat_cmp}
use Rattle.std.specs.Cmp.Lexicographic.{slice_cmp}
use Rattle.schema_values.specs.declared.json_value.Json.{Json, out-Json}
use Rattle.schema_values.specs.declared.json_value.Member.{Member}
use Rattle.schema_values.specs.declared.json_value.Json.TheOpen.{Json-F, Member-F}
use Rattle.schema_values.specs.Beside.{Beside, LevelBeside, MemberBeside, made_of, value_beside}
use Rattle.descriptors.specs.declared.desc.Desc.{Desc, out-Desc}
use Rattle.descriptors.specs.declared.desc.Desc.TheOpen.{Desc-F, Field-F, TaggedVariant-F, Variant-F}
use Rattle.descriptors.specs.declared.desc.Desc.TheFolds.{fold-Desc}
use Rattle.descriptors.specs.declared.desc.Field.{Field}
use Rattle.descriptors.specs.declared.desc.Named.{Named}
use Rattle.descriptors.specs.declared.desc.IntKind.{IntKind}
use Rattle.descriptors.specs.declared.desc.TaggedVariant.{TaggedVariant}
use Rattle.descriptors.specs.declared.desc.Variant.{Variant}
use Rattle.descriptors.specs.declared.desc.Presence.{Presence}
use Rattle.descriptors.specs.declared.desc.Presence.TheVariants.{Required, Nullable, Skipped, Default}
use Rattle.descriptors.specs.declared.tree.Tree.{Tree, Unit as Nought, Bool as Truth, Int as Number, Text as Words, None as Nothing, Some as Just, List as Items, Map as Entries, Fields as Parts, Variant as Choice, Any as Whole}
use Rattle.descriptors.specs.declared.tree.Pair.{Pair}
use Rattle.typed_values.specs.declared.fault.FaultKind.{FaultKind}
use Rattle.typed_values.specs.declared.fault.FaultKind.TheVariants.{Missing, Unknown, WrongKind, OutOfRange, BadLength, NotListed, NoAlternative}
use Rattle.typed_values.specs.declared.fault.Place.{Place}
use Rattle.typed_values.specs.declared.fault.Place.TheVariants.{Name, Item}
use Rattle.descriptors.specs.declared.table.Definition.{Definition}
use Rattle.descriptors.specs.Definitions.{definition, listed_name, tagged_fields, tagged_name, variant_name}
use Rattle.typed_values.specs.Bounds.{is_number_of, is_length_within}
use Rattle.typed_values.specs.Faults.{Trouble, at_root}
use Rattle.schema_values.specs.Order.{sorted_by}
use Rattle.typed_values.specs.Levels.{DescLevel}

-- a tree, or the fault that is told
abbrev pub Told : Type 0
Told = Result Tree Trouble

-- what a value denotes, with so many steps left, under a descriptor
abbrev pub Meaning : Type 0
Meaning = ℕ → Desc → Told

-- a member, where its value stands beside its meaning
abbrev pub NamedMeaning : Type 0
NamedMeaning = MemberBeside Meaning

-- one level of a JSON value, where each smaller value stands beside its meaning
abbrev pub Level : Type 0
Level = LevelBeside Meaning

-- the value of the first member of a name
abbrev pub value_named : {X : Type 0} → List (Member-F X (Unit {0})) → List ℕ → Option X
value_named [] name = None
value_named (m ∷ ms) name = if bytes_eq m.name name then Some m.value else value_named ms name

-- a fault below a place
abbrev pub below : Place → Told → Told
below place (Ok tree) = Ok tree
below place (Err trouble) = Err (record { path = place ∷ trouble.path; kind = trouble.kind })

-- a tree as the value of an option
abbrev pub just : Told → Told
just (Ok tree) = Ok (Just tree)
just (Err trouble) = Err trouble

-- one after the other: the first fault from the left is told
abbrev pub and_rest : {T : Type 0} → T → Result (List T) Trouble → Result (List T) Trouble
and_rest tree (Ok trees) = Ok (tree ∷ trees)
and_rest tree (Err trouble) = Err trouble

-- the tree of one part before those of the rest, or the first fault of all
abbrev pub and_then : {T : Type 0} → Result T Trouble → Result (List T) Trouble → Result (List T) Trouble
and_then (Ok tree) rest = and_rest tree rest
and_then (Err trouble) rest = Err trouble

-- the trees of some parts, or their pairs, where each is told with its place, or the first fault
abbrev pub all_told : {X T : Type 0} → (ℕ → X → Result T Trouble) → ℕ → List X → Result (List T) Trouble
all_told told i [] = Ok []
all_told told i (x ∷ xs) = and_then (told i x) (all_told told (i + 1) xs)

-- the tree that is made of some trees or pairs
abbrev pub as_tree : {T : Type 0} → (List T → Tree) → Result (List T) Trouble → Told
as_tree node (Ok trees) = Ok (node trees)
as_tree node (Err trouble) = Err trouble

-- a tree under a key
abbrev pub pair : List ℕ → Tree → Pair
pair key tree = record { key = key; value = tree }

-- what is told of a value, under its key
abbrev pub as_pair : List ℕ → Told → Result Pair Trouble
as_pair key (Ok tree) = Ok (pair key tree)
as_pair key (Err trouble) = Err trouble

-- a fault at this value
abbrev pub refused : FaultKind → Told
refused kind = Err (at_root kind)

-- what is told where a test holds, else a fault
abbrev pub if_holds : Bool → FaultKind → Told → Told
if_holds true kind told = told
if_holds false kind told = refused kind

-- null alone
abbrev pub nought : {X Y : Type 0} → Json-F X Y → Told
nought Json-F.Null = Ok Nought
nought _ = refused WrongKind

-- a truth value
abbrev pub truth : {X Y : Type 0} → Json-F X Y → Told
truth (Json-F.Bool b) = Ok (Truth b)
truth _ = refused WrongKind

-- a number of a kind, within bounds
abbrev pub number : {X Y : Type 0} → IntKind → Option ℤ → Option ℤ → Json-F X Y → Told
number kind min max (Json-F.Int n) = if_holds (is_number_of kind min max n) OutOfRange (Ok (Number n))
number kind min max _ = refused WrongKind

-- a text whose length is within bounds
abbrev pub words : {X Y : Type 0} → Option ℕ → Option ℕ → Json-F X Y → Told
words min max (Json-F.Text text) = if_holds (is_length_within min max (length text)) BadLength (Ok (Words text))
words min max _ = refused WrongKind

-- a text of one character
abbrev pub character : {X Y : Type 0} → Json-F X Y → Told
character (Json-F.Text text) = if_holds (length text == 1) BadLength (Ok (Words text))
character _ = refused WrongKind

-- the first thing of a name, and its place, counted from a place
abbrev pub named_from : {X : Type 0} → (X → List ℕ) → ℕ → List X → List ℕ → Option (ℕ × X)
named_from name_of i [] name = None
named_from name_of i (x ∷ xs) name = if bytes_eq (name_of x) name then Some (i, x) else named_from name_of (i + 1) xs name

-- what the thing found gives at its place, or what is told where a text is none of the names
abbrev pub where_found : {X : Type 0} → Told → (ℕ → X → Told) → Option (ℕ × X) → Told
where_found unlisted told None = unlisted
where_found unlisted told (Some found) = told found.0 found.1

-- a place alone
abbrev pub bare : {X : Type 0} → ℕ → X → Told
bare i x = Ok (Choice i Nought)

-- a text that is one of the names
abbrev pub one_of_names : {X Y : Type 0} → List Named → Json-F X Y → Told
one_of_names ns (Json-F.Text text) = where_found (refused NotListed) bare (named_from listed_name 0 ns text)
one_of_names ns _ = refused WrongKind

-- null, or what the value denotes under the inner descriptor
abbrev pub optional : {X Y : Type 0} → Json-F X Y → Told → Told
optional Json-F.Null inner = Ok Nothing
optional _ inner = just inner

-- a list of so many items, item by item
abbrev pub items_told : {X : Type 0} → (ℕ → X → Told) → Option ℕ → Option ℕ → List X → Told
items_told told min max xs = if_holds (is_length_within min max (length xs)) BadLength (as_tree Items (all_told told 0 xs))

-- a list, item by item; each item has all steps again
abbrev pub items : ℕ → Desc → Option ℕ → Option ℕ → Level → Told
items room d min max (Json-F.List xs) = items_told (λ i x. below (Item i) (x.made room d)) min max xs
items room d min max _ = refused WrongKind

-- the name of a member
abbrev pub member_name : {X : Type 0} → Member-F X (Unit {0}) → List ℕ
member_name m = m.name

-- the members in the order of their names, value by value
abbrev pub entries_told : {X : Type 0} → (X → Told) → List (Member-F X (Unit {0})) → Told
entries_told told ms = as_tree Entries (all_told (λ i m. as_pair m.name (below (Name m.name) (told m.value))) 0 (sorted_by member_name ms))

-- an object, value by value; each value has all steps again
abbrev pub entries : ℕ → Desc → Level → Told
entries room d (Json-F.Object ms) = entries_told (λ x. x.made room d) ms
entries room d _ = refused WrongKind

-- what a field that is absent gives
abbrev pub if_absent : Presence → List ℕ → Told
if_absent Required name = refused (Missing name)
if_absent Nullable name = Ok Nothing
if_absent Skipped name = Ok Nothing
if_absent (Default tree) name = Ok tree

-- what a field that is there gives
abbrev pub if_present : Presence → Told → Told
if_present Required told = told
if_present Nullable told = told
if_present Skipped told = just told
if_present (Default tree) told = told

-- the presence rule
abbrev pub by_presence : Field → Option Told → Told
by_presence f None = if_absent f.presence f.name
by_presence f (Some told) = if_present f.presence (below (Name f.name) told)

-- what a value denotes, where it is there
abbrev pub value_told : ℕ → Desc → Option (Beside Meaning) → Option Told
value_told room d None = None
value_told room d (Some x) = Some (x.made room d)

-- what a field gives among some members
abbrev pub field_told : ℕ → List NamedMeaning → Field → Told
field_told room ms f = by_presence f (value_told room f.desc (value_named ms f.name))

-- whether a name is that of a field
abbrev pub is_declared : List Field → List ℕ → Bool
is_declared [] name = false
is_declared (f ∷ fs) name = if bytes_eq f.name name then true else is_declared fs name

-- the lesser of two names, in the order of their characters
abbrev pub lesser : Ordering → List ℕ → List ℕ → List ℕ
lesser Less a b = a
lesser Equal a b = a
lesser Greater a b = b

-- the lesser of a name and the least of others
abbrev pub least_with : List ℕ → Option (List ℕ) → Option (List ℕ)
least_with name None = Some name
least_with name (Some other) = Some (lesser (slice_cmp nat_cmp name other) name other)

-- the least of some names, none of none
abbrev pub least_name : List (List ℕ) → Option (List ℕ)
least_name [] = None
least_name (name ∷ names) = least_with name (least_name names)

-- the first unknown name, in the order of names, where unknown names are denied
abbrev pub denied_name : {X : Type 0} → Bool → List Field → List (Member-F X (Unit {0})) → Option (List ℕ)
denied_name false fs ms = None
denied_name true fs ms = least_name (filter (λ name. not (is_declared fs name)) (map member_name ms))

-- the fields come first, and then unknown names
abbrev pub unless_denied : Option (List ℕ) → Told → Told
unless_denied None told = told
unless_denied (Some name) (Ok tree) = refused (Unknown name)
unless_denied (Some name) (Err trouble) = Err trouble

-- the struct of an object: its fields in order, and no unknown name where these are denied
abbrev pub fields : ℕ → List Field → Bool → Level → Told
fields room fs deny (Json-F.Object ms) = unless_denied (denied_name deny fs ms) (as_tree Parts (all_told (λ i f. field_told room ms f) 0 fs))
fields room fs deny _ = refused WrongKind

-- a tree at a place
abbrev pub chosen : ℕ → Told → Told
chosen i (Ok tree) = Ok (Choice i tree)
chosen i (Err trouble) = Err trouble

-- a variant by its name alone, which it must not have a payload for
abbrev pub without_payload : ℕ → Variant → Told
without_payload i v = by_payload v.payload where
  by_payload : Option Desc → Told
  by_payload None = bare i v
  by_payload (Some d) = refused NotListed

-- a variant with the value of its payload, below its name
abbrev pub with_payload : (Desc → Told) → ℕ → Variant → Told
with_payload told i v = by_payload v.payload where
  by_payload : Option Desc → Told
  by_payload None = refused NotListed
  by_payload (Some d) = chosen i (below (Name v.name) (told d))

-- The name of a variant without payload, or an object of one member, which has the name of a variant with payload.
abbrev pub external : {X : Type 0} → (X → Desc → Told) → List Variant → Json-F X (Member-F X (Unit {0})) → Told
external told vs (Json-F.Text text) = where_found (refused NotListed) without_payload (named_from variant_name 0 vs text)
external told vs (Json-F.Object (m ∷ [])) = where_found (refused NotListed) (with_payload (told m.value)) (named_from variant_name 0 vs m.name)
external told vs _ = refused WrongKind

-- the variant that a tag names, or a fault below the tag's name
abbrev pub at_tag : List ℕ → (ℕ → TaggedVariant → Told) → List TaggedVariant → Json → Told
at_tag tag told vs json = by_kind (out-Json json) where
  by_kind : Json-F Json Member → Told
  by_kind (Json-F.Text text) = where_found (below (Name tag) (refused NotListed)) told (named_from tagged_name 0 vs text)
  by_kind _ = below (Name tag) (refused WrongKind)

-- the variant that the member of the tag names, or a fault where there is no such member
abbrev pub by_tag : List ℕ → (Json → Told) → Option Json → Told
by_tag tag told None = refused (Missing tag)
by_tag tag told (Some json) = told json

-- an object whose tag names a variant, and the fields of that variant; `struct` is what its struct gives
abbrev pub tagged : {X : Type 0} → (X → Json) → (List Field → Told) → List ℕ → List TaggedVariant → Json-F X (Member-F X (Unit {0})) → Told
tagged value_of struct tag vs (Json-F.Object ms) =
    by_tag tag (at_tag tag (λ i v. chosen i (struct (tagged_fields v))) vs) (option_map value_of (value_named ms tag))
tagged value_of struct tag vs _ = refused WrongKind

-- what is told under the definition of a name; a name without one denotes nothing
abbrev pub at_definition : (Desc → Told) → Option Desc → Told
at_definition told None = refused WrongKind
at_definition told (Some d) = told d

-- the first alternative under which the value denotes anything
abbrev pub or_else : ℕ → Told → Told → Told
or_else i (Ok tree) rest = Ok (Choice i tree)
or_else i (Err trouble) rest = rest

-- the tree of the first alternative that has one, or a fault where none has
abbrev pub first_told : ℕ → (Desc → Told) → List Desc → Told
first_told i told [] = refused NoAlternative
first_told i told (d ∷ ds) = or_else i (told d) (first_told (i + 1) told ds)

-- One row for each descriptor. `json` is the value itself, and `next` what it denotes with one step less.
abbrev pub told_by : List Definition → ℕ → Json → Level → (Desc → Told) → DescLevel → Told
told_by table room json j next Desc-F.Any = Ok (Whole json)
told_by table room json j next Desc-F.Never = refused WrongKind
told_by table room json j next Desc-F.Null = nought j
told_by table room json j next Desc-F.Bool = truth j
told_by table room json j next Desc-F.Char = character j
told_by table room json j next (Desc-F.Int kind min max) = number kind min max j
told_by table room json j next (Desc-F.Text min max format) = words min max j
told_by table room json j next (Desc-F.Enumeration ns) = one_of_names ns j
told_by table room json j next (Desc-F.Option d) = optional j (next d)
told_by table room json j next (Desc-F.List d min max) = items room d min max j
told_by table room json j next (Desc-F.Map d) = entries room d j
told_by table room json j next (Desc-F.Struct fs deny) = fields room fs deny j
told_by table room json j next (Desc-F.External vs) = external (λ x d. x.made room d) vs j
told_by table room json j next (Desc-F.Tagged tag vs) = tagged value_beside (λ fs. fields room fs false j) tag vs j
told_by table room json j next (Desc-F.Untagged ds) = first_told 0 next ds
told_by table room json j next (Desc-F.Ref name) = at_definition next (definition table name)

-- with no step left nothing is denoted
unfoldable pub told_at : List Definition → ℕ → Json → Level → Meaning
told_at table room json j zero d = refused WrongKind
told_at table room json j (suc n) d = told_by table room json j (told_at table room json j n) (out-Desc d)

-- the steps are renewed at each smaller value
unfoldable pub told_within : List Definition → ℕ → Json → Meaning
told_within table room = made_of (told_at table room)

-- the number of descriptors at one level, where each smaller one stands as its number
abbrev pub nodes_step : Desc-F ℕ ℕ ℕ ℕ → ℕ
nodes_step (Desc-F.Option n) = suc n
nodes_step (Desc-F.List n min max) = suc n
nodes_step (Desc-F.Map n) = suc n
nodes_step (Desc-F.Struct ns deny) = suc (sum ns)
nodes_step (Desc-F.External ns) = suc (sum ns)
nodes_step (Desc-F.Tagged tag ns) = suc (sum ns)
nodes_step (Desc-F.Untagged ns) = suc (sum ns)
nodes_step _ = 1

-- a field has the descriptors of its type
abbrev pub field_nodes : Field-F ℕ ℕ ℕ ℕ → ℕ
field_nodes f = f.desc

-- a tagged variant has the descriptors of its fields
abbrev pub tagged_nodes : TaggedVariant-F ℕ ℕ ℕ ℕ → ℕ
tagged_nodes v = sum v.fields

-- a variant has the descriptors of its payload
abbrev pub variant_nodes : Variant-F ℕ ℕ ℕ ℕ → ℕ
variant_nodes v = elim v.payload [ None ↦ 0 | Some n ↦ n ]

-- the number of descriptors in a descriptor, with itself
abbrev pub nodes : Desc → ℕ
nodes = fold-Desc ℕ ℕ ℕ ℕ nodes_step field_nodes tagged_nodes variant_nodes

-- the number of descriptors in all definitions
abbrev pub nodes_of_table : List Definition → ℕ
nodes_of_table [] = 0
nodes_of_table (e ∷ es) = nodes e.desc + nodes_of_table es

-- one more than all descriptors together: so many steps are never spent where the table is guarded
unfoldable pub room : List Definition → Desc → ℕ
room table d = suc (nodes_of_table table + nodes d)

-- what a value denotes under a descriptor that stands in a table or in a whole descriptor
unfoldable pub told : List Definition → Desc → Json → Desc → Told
told table whole j d = told_within table (room table whole) j (room table whole) d

-- the value denotes the tree
abbrev pub JsonDenotes : List Definition → Desc → Json → Tree → Type 0
JsonDenotes table desc j tree = told table desc j desc ≡ Ok tree
