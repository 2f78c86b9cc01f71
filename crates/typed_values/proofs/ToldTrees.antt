-- What is told is a tree, and a given one where a fact holds.
use Rattle.std.proofs.Common.{◌≡◌, ℕ, zero, suc, ◌+◌, List, [], ◌∷◌, Some, refl, ◌∙◌, ap}
use Rattle.std.specs.declared.result.Result.{Result}
use Rattle.std.specs.declared.result.Result.TheVariants.{Ok, Err}
use Rattle.descriptors.specs.declared.desc.Desc.{Desc}
use Rattle.descriptors.specs.declared.tree.Tree.{Tree, Some as Just}
use Rattle.typed_values.specs.Denotes.{Told, below, just, and_rest, and_then, as_tree, pair, as_pair, or_else, first_told}
use Rattle.typed_values.specs.Faults.{Trouble}
use Rattle.typed_values.specs.Fits.{alternative_at}

module _ (Exact : Type 0) where
  abbrev pub Gives : {T : Type 0} → Result T Trouble → T → Type 0
  Gives {T} told tree = (read : T) × (told ≡ Ok read) × (Exact → read ≡ tree)

  pub gives_below : (place : _) (told : Told) (tree : Tree) → Gives told tree → Gives (below place told) tree
  gives_below place told tree (read, is, same) = (read, ap (below place) is, same)

  pub gives_just : (told : Told) (tree : Tree) → Gives told tree → Gives (just told) (Just tree)
  gives_just told tree (read, is, same) = (Just read, ap just is, λ h. ap Just (same h))

  pub gives_pair : (key : List ℕ) (told : Told) (tree : Tree) → Gives told tree → Gives (as_pair key told) (pair key tree)
  gives_pair key told tree (read, is, same) = (pair key read, ap (as_pair key) is, λ h. ap (pair key) (same h))

  pub gives_then : {T : Type 0} (told : Result T Trouble) (rest : Result (List T) Trouble) (tree : T) (trees : List T) → Gives told tree → Gives rest trees → Gives (and_then told rest) (tree ∷ trees)
  gives_then {T} told rest tree trees (read, is, same) (others, are, alike) =
      (read ∷ others, ap (λ (o : Result T Trouble). and_then o rest) is ∙ ap (and_rest read) are, λ h. ap (λ (t : T). t ∷ others) (same h) ∙ ap (λ (ts : List T). tree ∷ ts) (alike h))

  pub gives_tree : {T : Type 0} (node : List T → Tree) (told : Result (List T) Trouble) (trees : List T) → Gives told trees → Gives (as_tree node told) (node trees)
  gives_tree node told trees (read, is, same) = (node read, ap (as_tree node) is, λ h. ap node (same h))

-- where an alternative tells a tree, a choice does: that of the first that tells any
first_by : (told : Desc → Told) (i : ℕ) (o : Told) (ds : List Desc) → ((s : Tree) × (first_told (i + 1) told ds ≡ Ok s)) → (s : Tree) × (or_else i o (first_told (i + 1) told ds) ≡ Ok s)
first_by told i (Ok t) ds later = (_, refl)
first_by told i (Err k) ds later = later

pub first_tells : (told : Desc → Told) (i : ℕ) (ds : List Desc) (place : ℕ) (d : Desc) (read : Tree) → alternative_at ds place ≡ Some d → told d ≡ Ok read → (s : Tree) × (first_told i told ds ≡ Ok s)
first_tells told i [] place d read there is = absurd (cc there)
first_tells told i (x ∷ ds) zero d read there is =
    let same : x ≡ d = cc there in
    (_, ap (λ (o : Told). or_else i o (first_told (i + 1) told ds)) (ap told same ∙ is))
first_tells told i (x ∷ ds) (suc place) d read there is = first_by told i (told x) ds (first_tells told (i + 1) ds place d read there is)
