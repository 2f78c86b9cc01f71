-- Structs by their heads and the types of their fields.
use Rattle.std.proofs.Common.{◌≡◌, ℕ, Bool, true, false, List, [], ◌∷◌, map, refl, sym, ◌∙◌, ap, subst}
use Rattle.std.proofs.lemmas.List.{append-nil}
use Rattle.descriptors.specs.declared.desc.Desc.{Desc}
use Rattle.descriptors.specs.declared.desc.Desc.TheVariants as descs
use Rattle.descriptors.specs.declared.desc.Presence.{Presence}
use Rattle.descriptors.specs.declared.desc.Presence.TheVariants.{Required, Nullable, Skipped, Default}
use Rattle.descriptors.specs.declared.table.Definition.{Definition}
use Rattle.descriptors.specs.declared.tree.Tree.{Tree}
use Rattle.descriptors.specs.declared.tree.Tree.TheVariants as trees
use Rattle.typed_values.specs.Fits.{field_desc}
use Rattle.api_types.specs.declared.struct_head.FieldHead.{FieldHead}
use Rattle.api_types.specs.declared.struct_head.StructHead.{StructHead}
use Rattle.api_types.specs.Heads.{skips}
use Rattle.api_types.specs.Kinds.{Kind, kind_desc, is_left_out, tree_desc, definitions_behind, KindsReach, KindsFitEach, KindsFitOne}
use Rattle.api_types.specs.Structs.{Part, definitions_in, fields_in, AreParts, FieldsFitEach, FieldsFitOne}
use Rattle.api_types.specs.StructTypes.{field_with, fields_with, struct_definition, struct_definitions, struct_desc}
use Rattle.api_types.specs.Types.{FitsEach, FitsOne, ReachesExactly}
use Rattle.api_types.proofs.References.{ref_reaches, ref_each, ref_one}
use Rattle.api_types.proofs.Structs.{struct_reaches, struct_each, struct_one, struct_at}

-- the fields of some types, each after the definitions that it reaches
abbrev parts_with : List Kind → List FieldHead → List Part
parts_with [] heads = []
parts_with (k ∷ ks) [] = []
parts_with (k ∷ ks) (h ∷ hs) = (k.definitions, field_with h k.desc) ∷ parts_with ks hs

-- each field that is left out where it is none is an option of that kind
abbrev AreMatched : List Kind → List FieldHead → Type 0
AreMatched ks hs = map skips hs ≡ map is_left_out ks

first_matches : (k : Kind) (ks : List Kind) (h : FieldHead) (hs : List FieldHead) → AreMatched (k ∷ ks) (h ∷ hs) → skips h ≡ k.left_out
first_matches k ks h hs e = cc e

others_match : (k : Kind) (ks : List Kind) (h : FieldHead) (hs : List FieldHead) → AreMatched (k ∷ ks) (h ∷ hs) → AreMatched ks hs
others_match k ks h hs e = cc e

same_fields : (ks : List Kind) (hs : List FieldHead) → fields_in (parts_with ks hs) ≡ fields_with (map kind_desc ks) hs
same_fields [] hs = refl
same_fields (k ∷ ks) [] = refl
same_fields (k ∷ ks) (h ∷ hs) = rw (same_fields ks hs) refl

same_definitions : (ks : List Kind) (hs : List FieldHead) → AreMatched ks hs → definitions_in (parts_with ks hs) ≡ definitions_behind ks
same_definitions [] hs e = refl
same_definitions (k ∷ ks) [] e = absurd (cc e)
same_definitions (k ∷ ks) (h ∷ hs) e = rw (same_definitions ks hs (others_match k ks h hs e)) refl

same_desc : (h : FieldHead) (k : Kind) → skips h ≡ k.left_out → field_desc (field_with h k.desc) ≡ tree_desc k
same_desc h k e = under h.presence refl where
  under : (p : Presence) → h.presence ≡ p → field_desc (field_with h k.desc) ≡ tree_desc k
  under Required is = let q : k.left_out ≡ false = sym e ∙ rw is refl in rw (is, q) refl
  under Nullable is = let q : k.left_out ≡ false = sym e ∙ rw is refl in rw (is, q) refl
  under Skipped is = let q : k.left_out ≡ true = sym e ∙ rw is refl in rw (is, q) refl
  under (Default tree) is = let q : k.left_out ≡ false = sym e ∙ rw is refl in rw (is, q) refl

are_parts : (ks : List Kind) (hs : List FieldHead) → KindsReach ks → AreParts (parts_with ks hs)
are_parts [] hs reach = tt
are_parts (k ∷ ks) [] reach = tt
are_parts (k ∷ ks) (h ∷ hs) reach = (reach.0, are_parts ks hs reach.1)

each_fit : (ks : List Kind) (hs : List FieldHead) (ts : List Tree) → AreMatched ks hs → KindsFitEach ks ts → FieldsFitEach (parts_with ks hs) ts
each_fit [] hs [] e fit = tt
each_fit [] hs (t ∷ ts) e fit = absurd fit
each_fit (k ∷ ks) [] ts e fit = absurd (cc e)
each_fit (k ∷ ks) (h ∷ hs) [] e fit = absurd fit
each_fit (k ∷ ks) (h ∷ hs) (t ∷ ts) e fit = (
  subst (λ (d : Desc). FitsEach k.definitions d t) (sym (same_desc h k (first_matches k ks h hs e))) fit.0,
  each_fit ks hs ts (others_match k ks h hs e) fit.1,
)

one_fit : (ks : List Kind) (hs : List FieldHead) (ts : List Tree) → AreMatched ks hs → FieldsFitOne (parts_with ks hs) ts → KindsFitOne ks ts
one_fit [] hs [] e fit = tt
one_fit [] hs (t ∷ ts) e fit = absurd fit
one_fit (k ∷ ks) [] ts e fit = absurd (cc e)
one_fit (k ∷ ks) (h ∷ hs) [] e fit = absurd fit
one_fit (k ∷ ks) (h ∷ hs) (t ∷ ts) e fit = (
  subst (λ (d : Desc). FitsOne k.definitions d t) (same_desc h k (first_matches k ks h hs e)) fit.0,
  one_fit ks hs ts (others_match k ks h hs e) fit.1,
)

module _ (name : List ℕ) (head : StructHead) (ks : List Kind) (matched : AreMatched ks head.fields) where
  abbrev own : Definition
  own = struct_definition name head ks

  abbrev behind : List Definition
  behind = definitions_behind ks

  abbrev parts : List Part
  parts = parts_with ks head.fields

  abbrev of_parts : Desc
  of_parts = descs.Struct (fields_in parts) head.deny_unknown

  same_struct : of_parts ≡ own.desc
  same_struct = ap (λ fs. descs.Struct fs head.deny_unknown) (same_fields ks head.fields)

  fields_reach : KindsReach ks → ReachesExactly behind own.desc
  fields_reach reach =
      subst (λ (d : Desc). ReachesExactly behind d) same_struct
      (subst (λ (ds : List Definition). ReachesExactly ds of_parts) (same_definitions ks head.fields matched) (struct_reaches parts head.deny_unknown (are_parts ks head.fields reach)))

  fields_each : (ts : List Tree) → KindsFitEach ks ts → FitsEach behind own.desc (trees.Fields ts)
  fields_each ts fit =
      subst (λ (d : Desc). FitsEach behind d (trees.Fields ts)) same_struct
      (subst (λ (ds : List Definition). FitsEach ds of_parts (trees.Fields ts)) (same_definitions ks head.fields matched)
      (struct_each parts head.deny_unknown ts (each_fit ks head.fields ts matched fit)))

  fields_one : (t : Tree) → FitsOne behind own.desc t → FitsOne (definitions_in parts) of_parts t
  fields_one t one =
      subst (λ (ds : List Definition). FitsOne ds of_parts t) (sym (same_definitions ks head.fields matched))
      (subst (λ (d : Desc). FitsOne behind d t) (sym same_struct) one)

  pub type_reaches : (in_place : Bool) → KindsReach ks → ReachesExactly (struct_definitions in_place name head ks) (struct_desc in_place name head ks)
  type_reaches true reach = subst (λ (ds : List Definition). ReachesExactly ds own.desc) (sym (append-nil behind)) (fields_reach reach)
  type_reaches false reach = ref_reaches behind own (fields_reach reach)

  pub type_each : (in_place : Bool) (ts : List Tree) → KindsFitEach ks ts → FitsEach (struct_definitions in_place name head ks) (struct_desc in_place name head ks) (trees.Fields ts)
  type_each true ts fit = subst (λ (ds : List Definition). FitsEach ds own.desc (trees.Fields ts)) (sym (append-nil behind)) (fields_each ts fit)
  type_each false ts fit = ref_each behind own (trees.Fields ts) (fields_each ts fit)

  without_own : (in_place : Bool) (t : Tree) → FitsOne (struct_definitions in_place name head ks) (struct_desc in_place name head ks) t → FitsOne behind own.desc t
  without_own true t one = subst (λ (ds : List Definition). FitsOne ds own.desc t) (append-nil behind) one
  without_own false t one = ref_one behind own t one

  pub type_one : (in_place : Bool) (t : Tree) → FitsOne (struct_definitions in_place name head ks) (struct_desc in_place name head ks) t → (ts : List Tree) × (t ≡ trees.Fields ts)
  type_one in_place t one = struct_one parts head.deny_unknown t (fields_one t (without_own in_place t one))

  pub type_at : (in_place : Bool) (t : Tree) (ts : List Tree) → FitsOne (struct_definitions in_place name head ks) (struct_desc in_place name head ks) t → t ≡ trees.Fields ts → KindsFitOne ks ts
  type_at in_place t ts one is = one_fit ks head.fields ts matched (struct_at parts head.deny_unknown t ts (fields_one t (without_own in_place t one)) is)
