-- A reference to a definition, which stands behind those that it reaches itself.
use Rattle.std.proofs.Common.{◌≡◌, ℕ, List, [], ◌∷◌, ◌++◌, map, option_map, Some, refl, sym, ◌∙◌, ap, subst, ◌⊎◌, inl, inr}
use Rattle.std.proofs.lemmas.List.{map-append}
use Rattle.std.proofs.lemmas.List.Elements.{Contains-append_left, Contains-append_right, Contains-append_cases}
use Rattle.std.specs.Prelude.{Contains}
use Rattle.descriptors.specs.declared.desc.Desc.{Desc, out-Desc}
use Rattle.descriptors.specs.declared.desc.Desc.TheOpen.{Desc-F}
use Rattle.descriptors.specs.declared.desc.Desc.TheVariants as descs
use Rattle.descriptors.specs.declared.table.Definition.{Definition}
use Rattle.descriptors.specs.declared.tree.Tree.{Tree}
use Rattle.descriptors.specs.Definitions.{entry_of, definition_name}
use Rattle.typed_values.specs.Fits.{fits_under}
use Rattle.typed_values.specs.Parts.{the_whole, IsPart, of_table}
use Rattle.typed_values.specs.Reached.{Mentions, IsReached, directly, through}
use Rattle.schema_values.proofs.CallerLemmas.{contains_first}
use Rattle.descriptors.proofs.CallerLemmas.{same_or_not, definition_is}
use Rattle.typed_values.proofs.CallerLemmas.{fits_ref, entry_inside, parts_at}
use Rattle.api_types.specs.Types.{IsTableOf, FitsEach, FitsOne, ReachesExactly}
use Rattle.api_types.proofs.AddedInOrder.{only_one}
use Rattle.api_types.proofs.Inner.{part_each, part_one}
use Rattle.api_types.proofs.Reaching.{rests}

pub itself : (name : List ℕ) → Mentions (descs.Ref name) name
itself name = (descs.Ref name, the_whole, descs.outs-Ref name)

pub only_itself : (name other : List ℕ) → Mentions (descs.Ref name) other → name ≡ other
only_itself name other m =
    elim (same_or_not name other) [
      | inl same ↦ same
      | inr differ ↦
          absurd
          ((parts_at (λ d. out-Desc d ≡ Desc-F.Ref other) (descs.Ref name) (Desc-F.Ref name) (descs.outs-Ref name)
          (λ q. let levels : Desc-F.Ref name ≡ Desc-F.Ref other = sym (descs.outs-Ref name) ∙ q in let same : name ≡ other = cc levels in differ same)).0
          m)
    ]

module _ {table : List Definition} (e : Definition) (held : entry_of table e.name ≡ Some e) where
  forth : (name : List ℕ) → IsReached table (descs.Ref e.name) name → (e.name ≡ name) ⊎ IsReached table e.desc name
  forth _ (directly name m) = inl (only_itself e.name name m)
  forth _ (through other name x r f m) =
      elim (forth other r) [
        | inl same ↦ let q : Some e ≡ Some x = sym held ∙ ap (entry_of table) same ∙ f in let own : e ≡ x = cc q in inr (directly name (subst (λ (y : Definition). Mentions y.desc name) (sym own) m))
        | inr inside ↦ inr (through other name x inside f m)
      ]

  back : (name : List ℕ) → IsReached table e.desc name → IsReached table (descs.Ref e.name) name
  back _ (directly name m) = through e.name name e (directly e.name (itself e.name)) held m
  back _ (through other name x r f m) = through other name x (back other r) f m

-- a definition among some, which hold those that its descriptor needs
module _ (all ds : List Definition) (e : Definition) (inside : Contains all e) (before : (d : Definition) → Contains ds d → Contains all d) where
  abbrev refers : Desc
  refers = descs.Ref e.name

  part_of : (table : List Definition) → IsTableOf all refers table → IsPart table refers e.desc
  part_of table is = of_table e (entry_inside table e.name e (is.holds e inside)) the_whole

  ref_row : (t : Tree) (table : List Definition) → IsTableOf all refers table → fits_under table refers t refers ≡ fits_under table refers t e.desc
  ref_row t table is = fits_ref table refers t refers (rests is) e.name (Some e.desc) refl (definition_is table e.name ∙ ap (option_map (λ (d : Definition). d.desc)) (is.holds e inside))

  pub defined_each : (t : Tree) → FitsEach ds e.desc t → FitsEach all refers t
  defined_each t each table is = ref_row t table is ∙ part_each all ds refers e.desc before part_of t each table is

  pub defined_one : (t : Tree) → FitsOne all refers t → FitsOne ds e.desc t
  defined_one t (table, is, fit) = part_one all ds refers e.desc before part_of t table is (sym (ref_row t table is) ∙ fit)

-- a definition behind those that its descriptor reaches
module _ (ds : List Definition) (e : Definition) where
  abbrev and_own : List Definition
  and_own = ds ++ e ∷ []

  before : (d : Definition) → Contains ds d → Contains and_own d
  before d c = Contains-append_left ds (e ∷ []) d c

  last : Contains and_own e
  last = Contains-append_right ds (e ∷ []) e (contains_first e [])

  names_split : map definition_name and_own ≡ map definition_name ds ++ e.name ∷ []
  names_split = map-append definition_name ds (e ∷ [])

  pub ref_reaches : ReachesExactly ds e.desc → ReachesExactly and_own (descs.Ref e.name)
  ref_reaches reaches table held name =
      let names = map definition_name ds in
      let there = reaches table (λ d c. held d (before d c)) name in (
        λ r. subst (λ (ns : List (List ℕ)). Contains ns name) (sym names_split)
            (elim (forth e (held e last) name r) [
              | inl same ↦ subst (Contains (names ++ e.name ∷ [])) same (Contains-append_right names (e.name ∷ []) e.name (contains_first e.name []))
              | inr inside ↦ Contains-append_left names (e.name ∷ []) name (there.0 inside)
            ]),
        λ c. elim (Contains-append_cases names (e.name ∷ []) name (subst (λ (ns : List (List ℕ)). Contains ns name) names_split c)) [
          | inl inside ↦ back e (held e last) name (there.1 inside)
          | inr own ↦ subst (IsReached table (descs.Ref e.name)) (only_one e.name name own) (directly e.name (itself e.name))
        ],
      )

  pub ref_each : (t : Tree) → FitsEach ds e.desc t → FitsEach and_own (descs.Ref e.name) t
  ref_each = defined_each and_own ds e last before

  pub ref_one : (t : Tree) → FitsOne and_own (descs.Ref e.name) t → FitsOne ds e.desc t
  ref_one = defined_one and_own ds e last before
