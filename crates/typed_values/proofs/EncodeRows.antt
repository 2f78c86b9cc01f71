-- What each arm of the encoder needs: its row.
use Rattle.std.proofs.Common.{◌≡◌, ◌<◌, ◌≤◌, ◌+◌, ◌++◌, ◌⊎◌, inl, inr, ℕ, zero, suc, ℤ, Bool, false, List, [], ◌∷◌, length, drop, get_or, Option, Some, None, refl, sym, ◌∙◌, ap, arith, min}
use Rattle.std.proofs.lemmas.List.{drop_more, append_assoc, append-nil}
use Rattle.std.proofs.Math.ListN.{drop_of_length-le}
use Rattle.std.specs.Prelude.{slice_get}
use Rattle.schema_values.specs.declared.json_value.Json.{Json, Null, Text as Words, Object}
use Rattle.schema_values.specs.declared.json_value.Json.TheVariants.{outs-Null, outs-Object}
use Rattle.schema_values.specs.declared.json_value.Member.{Member}
use Rattle.schema_values.specs.Member.{member}
use Rattle.descriptors.specs.declared.desc.Desc.{Desc, out-Desc}
use Rattle.descriptors.specs.declared.desc.Desc.TheOpen.{Desc-F}
use Rattle.descriptors.specs.declared.desc.Desc.TheVariants as desc
use Rattle.descriptors.specs.declared.desc.Field.{Field}
use Rattle.descriptors.specs.declared.desc.IntKind.{IntKind}
use Rattle.descriptors.specs.declared.desc.Named.{Named}
use Rattle.descriptors.specs.declared.desc.TaggedVariant.{TaggedVariant}
use Rattle.descriptors.specs.declared.desc.Variant.{Variant}
use Rattle.descriptors.specs.declared.tree.Tree.{Tree, Fields as Parts, Variant as Choice, out-Tree}
use Rattle.descriptors.specs.declared.tree.Tree.TheOpen.{Tree-F}
use Rattle.descriptors.specs.declared.tree.Tree.TheVariants.{outs-Fields, outs-Variant, rolls-Fields}
use Rattle.descriptors.specs.declared.tree.Tree.TheViews.{roll-Tree, roll-out-Tree}
use Rattle.descriptors.specs.declared.table.Definition.{Definition}
use Rattle.descriptors.specs.Definitions.{definition, tagged_fields, tagged_name}
use Rattle.typed_values.specs.Denotes.{room}
use Rattle.typed_values.specs.Encoding.{is_left_out, unless, members_written, scalar_written, whole_written, name_written, listed_written, option_written, items_written, entries_written, parts_written, choice_written, variant_written, at_place, external_written, with_tag, tagged_written, written_if_there, written_by, written_under}
use Rattle.typed_values.specs.Fits.{field_desc, struct_of}
use Rattle.typed_values.specs.Resting.{Rests}
use Rattle.typed_values.specs.Levels.{DescLevel, TreeOf}
use Rattle.typed_values.proofs.EncodeSteps.{struct_written, written_row, is_none_tree}
use Rattle.typed_values.proofs.FitRows.{alternative_is}

abbrev pub name_of_slot : Option Named → Json
name_of_slot None = Null
name_of_slot (Some n) = Words n.name

module _ (table : List Definition) (whole : Desc) (t : Tree) (d : Desc) (h : Rests table (room table whole) d) where
  row_at : (y : DescLevel) → out-Desc d ≡ y → written_under table whole t d ≡ written_by table is_none_tree (written_under table whole) (written_under table whole t) y (out-Tree t)
  row_at y e = written_row table whole t d h ∙ ap (λ (z : DescLevel). written_by table is_none_tree (written_under table whole) (written_under table whole t) z (out-Tree t)) e

  pub written_any : d ≡ desc.Any → written_under table whole t d ≡ whole_written (out-Tree t)
  written_any e = row_at Desc-F.Any (ap out-Desc e ∙ desc.outs-Any)

  pub written_null : ((d ≡ desc.Never) ⊎ (d ≡ desc.Null)) → written_under table whole t d ≡ Null
  written_null (inl e) = row_at Desc-F.Never (ap out-Desc e ∙ desc.outs-Never)
  written_null (inr e) = row_at Desc-F.Null (ap out-Desc e ∙ desc.outs-Null)

  written_bool : d ≡ desc.Bool → written_under table whole t d ≡ scalar_written (out-Tree t)
  written_bool e = row_at Desc-F.Bool (ap out-Desc e ∙ desc.outs-Bool)

  written_char : d ≡ desc.Char → written_under table whole t d ≡ scalar_written (out-Tree t)
  written_char e = row_at Desc-F.Char (ap out-Desc e ∙ desc.outs-Char)

  written_int : (kind : IntKind) (min max : Option ℤ) → d ≡ desc.Int kind min max → written_under table whole t d ≡ scalar_written (out-Tree t)
  written_int kind min max e = row_at (Desc-F.Int kind min max) (ap out-Desc e ∙ desc.outs-Int kind min max)

  written_text : (min max : Option ℕ) (format : Option (List ℕ)) → d ≡ desc.Text min max format → written_under table whole t d ≡ scalar_written (out-Tree t)
  written_text min max format e = row_at (Desc-F.Text min max format) (ap out-Desc e ∙ desc.outs-Text min max format)

  pub written_scalar : ((d ≡ desc.Bool) ⊎ ((d ≡ desc.Char) ⊎ (((kind : IntKind) × (min : Option ℤ) × (max : Option ℤ) × (d ≡ desc.Int kind min max)) ⊎ ((min : Option ℕ) × (max : Option ℕ) × (format : Option (List ℕ)) × (d ≡ desc.Text min max format))))) → written_under table whole t d ≡ scalar_written (out-Tree t)
  written_scalar (inl e) = written_bool e
  written_scalar (inr (inl e)) = written_char e
  written_scalar (inr (inr (inl e))) = written_int e.0 e.1 e.2 e.3
  written_scalar (inr (inr (inr e))) = written_text e.0 e.1 e.2 e.3

  pub written_enumeration : (ns : List Named) → d ≡ desc.Enumeration ns → written_under table whole t d ≡ listed_written ns (out-Tree t)
  written_enumeration ns e = row_at (Desc-F.Enumeration ns) (ap out-Desc e ∙ desc.outs-Enumeration ns)

  pub written_option : (x : Desc) → d ≡ desc.Option x → written_under table whole t d ≡ option_written (λ s. written_under table whole s x) (out-Tree t)
  written_option x e = row_at (Desc-F.Option x) (ap out-Desc e ∙ desc.outs-Option x)

  pub written_list : (x : Desc) (min max : Option ℕ) → d ≡ desc.List x min max → written_under table whole t d ≡ items_written (λ s. written_under table whole s x) (out-Tree t)
  written_list x min max e = row_at (Desc-F.List x min max) (ap out-Desc e ∙ desc.outs-List x min max)

  pub written_map : (x : Desc) → d ≡ desc.Map x → written_under table whole t d ≡ entries_written (λ s. written_under table whole s x) (out-Tree t)
  written_map x e = row_at (Desc-F.Map x) (ap out-Desc e ∙ desc.outs-Map x)

  pub written_struct : (fs : List Field) (deny : Bool) → d ≡ desc.Struct fs deny → written_under table whole t d ≡ parts_written is_none_tree (written_under table whole) fs (out-Tree t)
  written_struct fs deny e = row_at (Desc-F.Struct fs deny) (ap out-Desc e ∙ desc.outs-Struct fs deny)

  pub written_external : (vs : List Variant) → d ≡ desc.External vs → written_under table whole t d ≡ external_written (written_under table whole) vs (out-Tree t)
  written_external vs e = row_at (Desc-F.External vs) (ap out-Desc e ∙ desc.outs-External vs)

  pub written_tagged : (tag : List ℕ) (vs : List TaggedVariant) → d ≡ desc.Tagged tag vs → written_under table whole t d ≡ tagged_written (written_under table whole) tag vs (out-Tree t)
  written_tagged tag vs e = row_at (Desc-F.Tagged tag vs) (ap out-Desc e ∙ desc.outs-Tagged tag vs)

  pub written_untagged : (ds : List Desc) → d ≡ desc.Untagged ds → written_under table whole t d ≡ choice_written (written_under table whole) ds (out-Tree t)
  written_untagged ds e = row_at (Desc-F.Untagged ds) (ap out-Desc e ∙ desc.outs-Untagged ds)

  pub written_ref : (name : List ℕ) (o : Option Desc) → d ≡ desc.Ref name → definition table name ≡ o → written_under table whole t d ≡ written_if_there (written_under table whole t) o
  written_ref name o e f = row_at (Desc-F.Ref name) (ap out-Desc e ∙ desc.outs-Ref name) ∙ ap (written_if_there (written_under table whole t)) f

name_is : (ns : List Named) (i : ℕ) → name_written ns i ≡ name_of_slot (slice_get ns i)
name_is [] i = refl
name_is (n ∷ ns) zero = refl
name_is (n ∷ ns) (suc i) = name_is ns i

-- an enumeration's tree, with the name at its place
pub named_row : (ns : List Named) (t : Tree) (i : ℕ) (x : Tree) (o : Option Named) → t ≡ Choice i x → slice_get ns i ≡ o → listed_written ns (out-Tree t) ≡ name_of_slot o
named_row ns t i x o e f = ap (listed_written ns) (ap out-Tree e ∙ outs-Variant i x) ∙ name_is ns i ∙ ap name_of_slot f

-- a choice, with the alternative at its place
pub chosen_row : (written : Tree → Desc → Json) (ds : List Desc) (t : Tree) (i : ℕ) (x : Tree) (o : Option Desc) → t ≡ Choice i x → slice_get ds i ≡ o → choice_written written ds (out-Tree t) ≡ written_if_there (written x) o
chosen_row written ds t i x o e f = ap (choice_written written ds) (ap out-Tree e ∙ outs-Variant i x) ∙ ap (written_if_there (written x)) (alternative_is ds i ∙ f)

-- a variant of its place, with its payload
pub external_row : (written : Tree → Desc → Json) (vs : List Variant) (t : Tree) (i : ℕ) (x : Tree) (o : Option Variant) → t ≡ Choice i x → slice_get vs i ≡ o → external_written written vs (out-Tree t) ≡ at_place (variant_written (written x)) o
external_row written vs t i x o e f = ap (external_written written vs) (ap out-Tree e ∙ outs-Variant i x) ∙ ap (at_place (variant_written (written x))) f

-- the fields of a variant behind its tag
pub tagged_row : (written : Tree → Desc → Json) (tag : List ℕ) (vs : List TaggedVariant) (t : Tree) (i : ℕ) (x : Tree) (o : Option TaggedVariant) → t ≡ Choice i x → slice_get vs i ≡ o
    → tagged_written written tag vs (out-Tree t) ≡ at_place (λ v. with_tag tag (tagged_name v) (written x (struct_of v))) o
tagged_row written tag vs t i x o e f = ap (tagged_written written tag vs) (ap out-Tree e ∙ outs-Variant i x) ∙ ap (at_place (λ v. with_tag tag (tagged_name v) (written x (struct_of v)))) f

pub tag_before : (tag name : List ℕ) (ms : List Member) → with_tag tag name (Object ms) ≡ Object (member tag (Words name) ∷ ms)
tag_before tag name ms = rw (outs-Object ms) refl

no_tag : (tag name : List ℕ) → with_tag tag name Null ≡ Null
no_tag tag name = rw outs-Null refl

no_parts : (written : Tree → Desc → Json) (fs : List Field) (x : TreeOf Tree) (t : Tree) → roll-Tree x ≡ t → ((xs : List Tree) → t ≡ Parts xs → ⊥) → parts_written is_none_tree written fs x ≡ Null
no_parts written fs (Tree-F.Fields xs) t is other = absurd (other xs (sym is ∙ rolls-Fields xs))
no_parts written fs _ t is other = refl

module _ (table : List Definition) (whole : Desc) (t : Tree) (tag : List ℕ) (v : TaggedVariant) where
  behind_tag : (xs : List Tree) → t ≡ Parts xs
      → with_tag tag (tagged_name v) (written_under table whole t (struct_of v)) ≡ Object (member tag (Words (tagged_name v)) ∷ members_written is_none_tree (written_under table whole) (tagged_fields v) xs)
  behind_tag xs e =
      ap (with_tag tag (tagged_name v)) (struct_written table whole t (tagged_fields v) false ∙ ap (parts_written is_none_tree (written_under table whole) (tagged_fields v)) (ap out-Tree e ∙ outs-Fields xs))
      ∙ tag_before tag (tagged_name v) (members_written is_none_tree (written_under table whole) (tagged_fields v) xs)

  -- the members of a variant's fields behind its tag
  pub tagged_members : (xs : List Tree) → t ≡ Parts xs → (label name : List ℕ) (first all : List Member) (fs : List Field) (ts : List Tree)
      → label ≡ tag → name ≡ tagged_name v → first ≡ member label (Words name) ∷ [] → fs ≡ tagged_fields v → ts ≡ xs
      → all ≡ first ++ members_written is_none_tree (written_under table whole) fs ts → Object all ≡ with_tag tag (tagged_name v) (written_under table whole t (struct_of v))
  tagged_members xs is label name first all fs ts a b f g h e =
      ap Object (rw (← a, ← b, ← g, ← h) (e ∙ ap (λ (ms : List Member). ms ++ members_written is_none_tree (written_under table whole) fs ts) f))
      ∙ sym (behind_tag xs is)

  -- what is no struct has no tag
  pub untagged : ((xs : List Tree) → t ≡ Parts xs → ⊥) → with_tag tag (tagged_name v) (written_under table whole t (struct_of v)) ≡ Null
  untagged other =
      ap (with_tag tag (tagged_name v)) (struct_written table whole t (tagged_fields v) false ∙ no_parts (written_under table whole) (tagged_fields v) (out-Tree t) t (roll-out-Tree t) other)
      ∙ no_tag tag (tagged_name v)

one_past : (i a b : ℕ) → i ≡ min a b → (a ≤ i) ⊎ (b ≤ i)
one_past i a b e = grind arith

module _ {X : Type 0} (is_none : X → Bool) (written : X → Desc → Json) (fs : List Field) (xs : List X) where
  -- the members that are left from a field and its tree on
  members_more : (i : ℕ) (f : Field) (x : X) → i < length fs → i < length xs → f ≡ get_or fs i f → x ≡ get_or xs i x
      → members_written is_none written (drop i fs) (drop i xs)
      ≡ unless (is_left_out f.presence (is_none x)) (member f.name (written x (field_desc f))) (members_written is_none written (drop (i + 1) fs) (drop (i + 1) xs))
  members_more i f x h k e g =
      ap (λ (gs : List Field). members_written is_none written gs (drop i xs)) (drop_more fs i f h ∙ ap (λ (y : Field). y ∷ drop (i + 1) fs) (sym e))
      ∙ ap (members_written is_none written (f ∷ drop (i + 1) fs)) (drop_more xs i x k ∙ ap (λ (y : X). y ∷ drop (i + 1) xs) (sym g))

  -- one more member is written
  pub members_kept : (i j : ℕ) (f : Field) (x : X) → j ≡ i + 1 → i < length fs → i < length xs → f ≡ get_or fs i f → x ≡ get_or xs i x → is_left_out f.presence (is_none x) ≡ false
      → (whole before after : List Member) (m : Member) → m ≡ member f.name (written x (field_desc f)) → after ≡ before ++ m ∷ []
      → whole ≡ before ++ members_written is_none written (drop i fs) (drop i xs)
      → whole ≡ after ++ members_written is_none written (drop j fs) (drop j xs)
  members_kept i j f x next h k e g kept whole before after m is grown so_far =
      so_far
      ∙ ap (λ (ms : List Member). before ++ ms) (members_more i f x h k e g ∙ ap (λ (b : Bool). unless b (member f.name (written x (field_desc f))) rest) kept ∙ ap (λ (n : Member). n ∷ rest) (sym is))
      ∙ sym (append_assoc before (m ∷ []) rest)
      ∙ ap (λ (ms : List Member). ms ++ rest) (sym grown)
      ∙ ap (λ (n : ℕ). after ++ members_written is_none written (drop n fs) (drop n xs)) (sym next)
    where
      rest : List Member
      rest = members_written is_none written (drop (i + 1) fs) (drop (i + 1) xs)

  no_trees : (gs : List Field) → members_written is_none written gs [] ≡ []
  no_trees [] = refl
  no_trees (g ∷ gs) = refl

  past_one : (i : ℕ) → (length fs ≤ i) ⊎ (length xs ≤ i) → members_written is_none written (drop i fs) (drop i xs) ≡ []
  past_one i (inl h) = ap (λ (gs : List Field). members_written is_none written gs (drop i xs)) (drop_of_length-le fs h)
  past_one i (inr h) = ap (members_written is_none written (drop i fs)) (drop_of_length-le xs h) ∙ no_trees (drop i fs)

  -- nothing is left
  pub members_end : (i : ℕ) → i ≡ min (length fs) (length xs) → (whole so_far : List Member) → whole ≡ so_far ++ members_written is_none written (drop i fs) (drop i xs) → so_far ≡ whole
  members_end i e whole so_far h = sym (h ∙ ap (λ (ms : List Member). so_far ++ ms) (past_one i (one_past i (length fs) (length xs) e)) ∙ append-nil so_far)
