-- A reference to a definition that refers to itself and to no other.
use Rattle.std.proofs.Common.{◌≡◌, ℕ, Bool, List, [], ◌∷◌, Some, None, sym, ◌∙◌, ap, subst, inl, inr, arith}
use Rattle.std.specs.Prelude.{Contains}
use Rattle.std.specs.List.{AllByRecursion}
use Rattle.descriptors.specs.declared.desc.Desc.{Desc, out-Desc}
use Rattle.descriptors.specs.declared.desc.Desc.TheOpen.{Desc-F}
use Rattle.descriptors.specs.declared.desc.Desc.TheVariants as descs
use Rattle.descriptors.specs.declared.desc.Field.{Field}
use Rattle.descriptors.specs.declared.table.Definition.{Definition}
use Rattle.descriptors.specs.declared.tree.Tree.{Tree}
use Rattle.descriptors.specs.Definitions.{entry_of}
use Rattle.typed_values.specs.Levels.{DescLevel}
use Rattle.typed_values.specs.Reached.{Mentions, IsReached, directly, through}
use Rattle.schema_values.proofs.CallerLemmas.{contains_cases, contains_first}
use Rattle.typed_values.proofs.CallerLemmas.{SomeChild, parts_at}
use Rattle.api_types.specs.Types.{FitsEach, FitsOne, ReachesExactly}
use Rattle.api_types.proofs.AddedInOrder.{only_one}
use Rattle.api_types.proofs.References.{itself, only_itself, defined_each, defined_one}

-- a descriptor mentions no other name
abbrev pub MentionsOnly : List ℕ → Desc → Type 0
MentionsOnly own desc = (name : List ℕ) → Mentions desc name → own ≡ name

-- what a descriptor that is no reference mentions, a child of it does
in_child : (d : Desc) (z : DescLevel) → out-Desc d ≡ z → ((name : List ℕ) → Desc-F.Ref name ≡ z → ⊥) → (name : List ℕ) → Mentions d name → SomeChild (λ x. Mentions x name) z
in_child d z e other name m = (parts_at (λ x. out-Desc x ≡ Desc-F.Ref name) d z e (λ q. other name (sym q ∙ e))).0 m

module _ (own : List ℕ) where
  pub only_ref : MentionsOnly own (descs.Ref own)
  only_ref = only_itself own

  -- what reaches no name mentions none
  pub only_reached : (desc : Desc) → ReachesExactly [] desc → MentionsOnly own desc
  only_reached desc reaches name m =
      let none = (reaches [] (λ e c. absurd (omega (arith, c.1))) name).0 (directly name m) in absurd (omega (arith, none.1))

  pub only_list : (d : Desc) → MentionsOnly own d → MentionsOnly own (descs.List d None None)
  only_list d only name m = only name (in_child (descs.List d None None) (Desc-F.List d None None) (descs.outs-List d None None) (λ n q. absurd (cc q)) name m)

  only_fields : (fs : List Field) → AllByRecursion (λ f. MentionsOnly own f.desc) fs → (f : Field) → Contains fs f → MentionsOnly own f.desc
  only_fields [] all f c = absurd (omega (arith, c.1))
  only_fields (first ∷ fs) all f c =
      elim (contains_cases first fs f c) [
        | inl same ↦ subst (λ (g : Field). MentionsOnly own g.desc) same all.0
        | inr later ↦ only_fields fs all.1 f later
      ]

  pub only_struct : (fs : List Field) (deny : Bool) → AllByRecursion (λ f. MentionsOnly own f.desc) fs → MentionsOnly own (descs.Struct fs deny)
  only_struct fs deny all name m =
      let (f, c, inside) = in_child (descs.Struct fs deny) (Desc-F.Struct fs deny) (descs.outs-Struct fs deny) (λ n q. absurd (cc q)) name m in
      only_fields fs all f c name inside

module _ (e : Definition) where
  abbrev alone : List Definition
  alone = e ∷ []

  abbrev refers : Desc
  refers = descs.Ref e.name

  first : Contains alone e
  first = contains_first e []

  module _ {table : List Definition} (held : entry_of table e.name ≡ Some e) (only : MentionsOnly e.name e.desc) where
    forth : (name : List ℕ) → IsReached table refers name → e.name ≡ name
    forth _ (directly name m) = only_itself e.name name m
    forth _ (through other name x r f m) =
        let q : Some e ≡ Some x = sym held ∙ ap (entry_of table) (forth other r) ∙ f in
        let same : e ≡ x = cc q in
        only name (subst (λ (y : Definition). Mentions y.desc name) (sym same) m)

  pub own_reaches : MentionsOnly e.name e.desc → ReachesExactly alone refers
  own_reaches only table held name = (
    λ r. subst (Contains (e.name ∷ [])) (forth (held e first) only name r) (contains_first e.name []),
    λ c. subst (IsReached table refers) (only_one e.name name c) (directly e.name (itself e.name)),
  )

  pub own_each : (t : Tree) → FitsEach alone e.desc t → FitsEach alone refers t
  own_each = defined_each alone alone e first (λ d c. c)

  pub own_one : (t : Tree) → FitsOne alone refers t → FitsOne alone e.desc t
  own_one = defined_one alone alone e first (λ d c. c)
