-- A JSON value denotes at most one configuration, since different configurations have different trees.
use Rattle.std.proofs.Common.{◌≡◌, ℕ, Bool, List, [], ◌∷◌, Option, Some, None, arith, map, refl, sym, ap, ap₂, ◌∙◌}
use Rattle.std.specs.Prelude.{Ok}
use Rattle.schema_values.specs.declared.json_value.Json.{Json}
use Rattle.descriptors.specs.declared.tree.Pair.{Pair}
use Rattle.descriptors.specs.declared.tree.Tree.{Tree, out-Tree}
use Rattle.descriptors.specs.declared.tree.Tree.TheOpen.{Tree-F}
use Rattle.descriptors.specs.declared.tree.Tree.TheVariants as trees
use Rattle.api_types.specs.Maps.{pair_of}
use Rattle.api_types.specs.Options.{option_tree}
use Rattle.tag_config.specs.Configurations.{Configuration, DenotesConfiguration, configuration_tree}
use Rattle.tag_config.specs.Details.{details_tree, docs_tree}
use Rattle.tag_config.specs.Policies.{policy_place, policy_tree}
use Rattle.tag_config.specs.declared.details.TagDetails.{TagDetails}
use Rattle.tag_config.specs.declared.details.TagExternalDocs.{TagExternalDocs}
use Rattle.tag_config.specs.declared.policy.EndpointTagPolicy.{EndpointTagPolicy}
use Rattle.tag_config.specs.declared.policy.EndpointTagPolicy.TheVariants.{Any, AtLeastOne, ExactlyOne}

-- what is seen of equal trees is equal
level_same : (t u : Tree) (x y : Tree-F Tree Pair) → out-Tree t ≡ x → out-Tree u ≡ y → t ≡ u → x ≡ y
level_same t u x y first second e = sym first ∙ ap out-Tree e ∙ second

truth_same : (a b : Bool) → trees.Bool a ≡ trees.Bool b → a ≡ b
truth_same a b e = let q = level_same _ _ _ _ (trees.outs-Bool a) (trees.outs-Bool b) e in cc q

text_same : (a b : List ℕ) → trees.Text a ≡ trees.Text b → a ≡ b
text_same a b e = let q = level_same _ _ _ _ (trees.outs-Text a) (trees.outs-Text b) e in cc q

parts_same : (xs ys : List Tree) → trees.Fields xs ≡ trees.Fields ys → xs ≡ ys
parts_same xs ys e = let q = level_same _ _ _ _ (trees.outs-Fields xs) (trees.outs-Fields ys) e in cc q

entries_same : (xs ys : List Pair) → trees.Map xs ≡ trees.Map ys → xs ≡ ys
entries_same xs ys e = let q = level_same _ _ _ _ (trees.outs-Map xs) (trees.outs-Map ys) e in cc q

module _ {T : Type 0} (tree_of : T → Tree) (same : (a b : T) → tree_of a ≡ tree_of b → a ≡ b) where
  option_same : (a b : Option T) → option_tree tree_of a ≡ option_tree tree_of b → a ≡ b
  option_same None None e = refl
  option_same None (Some b) e =
      let q = level_same _ _ _ _ trees.outs-None (trees.outs-Some (tree_of b)) e in absurd (cc q)
  option_same (Some a) None e =
      let q = level_same _ _ _ _ (trees.outs-Some (tree_of a)) trees.outs-None e in absurd (cc q)
  option_same (Some a) (Some b) e =
      let q = level_same _ _ _ _ (trees.outs-Some (tree_of a)) (trees.outs-Some (tree_of b)) e in
      let inner : tree_of a ≡ tree_of b = cc q in
      ap Some (same a b inner)

docs_same : (a b : TagExternalDocs) → docs_tree a ≡ docs_tree b → a ≡ b
docs_same a b e =
    let parts = parts_same _ _ e in
    let first : option_tree trees.Text a.description ≡ option_tree trees.Text b.description = cc parts in
    let second : trees.Text a.url ≡ trees.Text b.url = cc parts in
    ap₂ (λ (d : Option (List ℕ)) (u : List ℕ). record { description = d; url = u })
    (option_same trees.Text text_same a.description b.description first) (text_same a.url b.url second)

details_same : (a b : TagDetails) → details_tree a ≡ details_tree b → a ≡ b
details_same a b e =
    let parts = parts_same _ _ e in
    let first : option_tree trees.Text a.description ≡ option_tree trees.Text b.description = cc parts in
    let second : option_tree docs_tree a.external_docs ≡ option_tree docs_tree b.external_docs = cc parts in
    ap₂ (λ (d : Option (List ℕ)) (x : Option TagExternalDocs). record { description = d; external_docs = x })
    (option_same trees.Text text_same a.description b.description first)
    (option_same docs_tree docs_same a.external_docs b.external_docs second)

tags_same : (xs ys : List (List ℕ × TagDetails)) → map (pair_of details_tree) xs ≡ map (pair_of details_tree) ys
    → xs ≡ ys
tags_same [] [] e = refl
tags_same [] (b ∷ ys) e = absurd (cc e)
tags_same (a ∷ xs) [] e = absurd (cc e)
tags_same (a ∷ xs) (b ∷ ys) e =
    let head : pair_of details_tree a ≡ pair_of details_tree b = cc e in
    let rest : map (pair_of details_tree) xs ≡ map (pair_of details_tree) ys = cc e in
    let name : a.0 ≡ b.0 = ap (λ (p : Pair). p.key) head in
    let tree : details_tree a.1 ≡ details_tree b.1 = ap (λ (p : Pair). p.value) head in
    ap₂ (λ (t : List ℕ × TagDetails) (ts : List (List ℕ × TagDetails)). t ∷ ts)
    (ap₂ (λ (n : List ℕ) (d : TagDetails). (n, d)) name (details_same a.1 b.1 tree)) (tags_same xs ys rest)

-- policies have different places
policy_same : (p q : EndpointTagPolicy) → policy_place p ≡ policy_place q → p ≡ q
policy_same Any Any e = refl
policy_same Any AtLeastOne e = absurd (omega (arith, e))
policy_same Any ExactlyOne e = absurd (omega (arith, e))
policy_same AtLeastOne Any e = absurd (omega (arith, e))
policy_same AtLeastOne AtLeastOne e = refl
policy_same AtLeastOne ExactlyOne e = absurd (omega (arith, e))
policy_same ExactlyOne Any e = absurd (omega (arith, e))
policy_same ExactlyOne AtLeastOne e = absurd (omega (arith, e))
policy_same ExactlyOne ExactlyOne e = refl

place_same : (p q : EndpointTagPolicy) → policy_tree p ≡ policy_tree q → policy_place p ≡ policy_place q
place_same p q e =
    let places = level_same _ _ _ _ (trees.outs-Variant (policy_place p) trees.Unit)
    (trees.outs-Variant (policy_place q) trees.Unit) e in
    cc places

configuration_same : (config other : Configuration) → configuration_tree config ≡ configuration_tree other
    → config ≡ other
configuration_same config other e =
    let parts = parts_same _ _ e in
    let first : trees.Bool config.allow_other_tags ≡ trees.Bool other.allow_other_tags = cc parts in
    let second : policy_tree config.policy ≡ policy_tree other.policy = cc parts in
    let third : trees.Map (map (pair_of details_tree) config.tags)
    ≡ trees.Map (map (pair_of details_tree) other.tags) = cc parts in
    let allow = truth_same config.allow_other_tags other.allow_other_tags first in
    let policy = policy_same config.policy other.policy (place_same config.policy other.policy second) in
    let tags = tags_same config.tags other.tags (entries_same _ _ third) in
    ap₂ (λ (a : Bool) (rest : EndpointTagPolicy × List (List ℕ × TagDetails)).
    record { allow_other_tags = a; policy = rest.0; tags = rest.1 }) allow
    (ap₂ (λ (p : EndpointTagPolicy) (ts : List (List ℕ × TagDetails)). (p, ts)) policy tags)

pub one_denoted : (json : Json) (config other : Configuration) → DenotesConfiguration json config
    → DenotesConfiguration json other → config ≡ other
one_denoted json config other first second =
    let both : Ok (configuration_tree config) ≡ Ok (configuration_tree other) = sym first ∙ second in
    let trees_same : configuration_tree config ≡ configuration_tree other = cc both in
    configuration_same config other trees_same
