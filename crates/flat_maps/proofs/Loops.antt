-- What a loop has decoded, before what is left.
use Rattle.std.proofs.Common.{◌≡◌, ℕ, None, ◌+◌, ◌<◌, ◌≤◌, List, [], ◌∷◌, ◌++◌, refl, sym, ◌∙◌, ap, length, drop, get_or}
use Rattle.std.proofs.lemmas.List.{drop_more}
use Rattle.std.proofs.Math.ListN.{drop_of_length-le}
use Rattle.std.specs.declared.result.Result.{Result}
use Rattle.std.specs.declared.result.Result.TheVariants.{Ok, Err}
use Rattle.descriptors.specs.declared.desc.Field.{Field}
use Rattle.descriptors.specs.declared.tree.Tree.{Tree}
use Rattle.request_words.specs.declared.pairs.NamedText.{NamedText}
use Rattle.typed_values.specs.declared.fault.Stop.{Stop}
use Rattle.typed_values.specs.declared.fault.Stop.TheVariants as stop
use Rattle.typed_values.specs.Answer.{Tells, trouble}
use Rattle.typed_values.specs.Denotes.{Told, and_rest, and_then, all_told}
use Rattle.typed_values.specs.Faults.{Trouble}
use Rattle.flat_maps.specs.Pairs.{first_doubled}

-- the trees so far, before those of the rest
abbrev pub after : List Tree → Result (List Tree) Trouble → Result (List Tree) Trouble
after [] rest = rest
after (t ∷ ts) rest = and_rest t (after ts rest)

after-append : (ts : List Tree) (t : Tree) (rest : Result (List Tree) Trouble) → after (ts ++ t ∷ []) rest ≡ after ts (and_rest t rest)
after-append [] t rest = refl
after-append (u ∷ ts) t rest = ap (and_rest u) (after-append ts t rest)

after_fault : (ts : List Tree) (e : Trouble) → after ts (Err e) ≡ Err e
after_fault [] e = refl
after_fault (t ∷ ts) e = ap (and_rest t) (after_fault ts e)

after_all : (ts : List Tree) → after ts (Ok []) ≡ Ok ts
after_all [] = refl
after_all (t ∷ ts) = ap (and_rest t) (after_all ts)

module _ {X : Type 0} (f : ℕ → X → Told) (whole : Result (List Tree) Trouble) (xs : List X) (i : ℕ) (ts : List Tree) (e : whole ≡ after ts (all_told f i (drop i xs))) where
  module _ (x : X) (h : i < length xs) (is : x ≡ get_or xs i x) where
    next_told : whole ≡ after ts (and_then (f i x) (all_told f (i + 1) (drop (i + 1) xs)))
    next_told = e ∙ ap (λ (r : List X). after ts (all_told f i r)) (drop_more xs i x h ∙ ap (λ (y : X). y ∷ drop (i + 1) xs) (sym is))

    pub all_step : (t : Tree) → f i x ≡ Ok t → whole ≡ after (ts ++ t ∷ []) (all_told f (i + 1) (drop (i + 1) xs))
    all_step t ok =
        next_told
        ∙ ap (λ (o : Told). after ts (and_then o (all_told f (i + 1) (drop (i + 1) xs)))) ok
        ∙ sym (after-append ts t (all_told f (i + 1) (drop (i + 1) xs)))

    all_fault : (k : Trouble) → f i x ≡ Err k → whole ≡ Err k
    all_fault k bad =
        next_told
        ∙ ap (λ (o : Told). after ts (and_then o (all_told f (i + 1) (drop (i + 1) xs)))) bad
        ∙ after_fault ts k

    pub all_err : (wrap : Result (List Tree) Trouble → Told) → ((k : Trouble) → wrap (Err k) ≡ Err k) → (k : Stop) → Tells {T = Tree} (Err k) (f i x) → Tells {T = Tree} (Err k) (wrap whole)
    all_err wrap keeps (stop.Misfit m) bad = ap wrap (all_fault (trouble m) bad) ∙ keeps (trouble m)
    all_err wrap keeps stop.OutOfMemory bad = tt

  pub all_end : length xs ≤ i → whole ≡ Ok ts
  all_end h = e ∙ ap (λ (r : List X). after ts (all_told f i r)) (drop_of_length-le xs h) ∙ after_all ts

pub none_left : (pairs : List NamedText) (fs : List Field) (i : ℕ) → length fs ≤ i → first_doubled pairs (drop i fs) ≡ None
none_left pairs fs i h = ap (first_doubled pairs) (drop_of_length-le fs h)
