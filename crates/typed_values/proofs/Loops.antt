-- What a loop has decoded, before what is left.
use Rattle.std.proofs.Common.{◌≡◌, ℕ, Bool, true, Option, Some, None, MatchOption, ◌+◌, ◌<◌, ◌≤◌, List, [], ◌∷◌, ◌++◌, refl, sym, ◌∙◌, ap, length, drop, get_or, subst}
use Rattle.std.proofs.lemmas.List.{drop_more}
use Rattle.std.proofs.Math.ListN.{drop_of_length-le}
use Rattle.std.specs.declared.result.Result.{Result}
use Rattle.std.specs.declared.result.Result.TheVariants.{Ok, Err}
use Rattle.typed_values.specs.declared.fault.FaultKind.TheVariants.{BadLength}
use Rattle.typed_values.specs.declared.fault.Stop.{Stop}
use Rattle.typed_values.specs.declared.fault.Stop.TheVariants as stop
use Rattle.descriptors.specs.declared.desc.Desc.{Desc}
use Rattle.descriptors.specs.declared.tree.Tree.{List as Items}
use Rattle.typed_values.specs.Answer.{Pushes, Tells, trouble}
use Rattle.typed_values.specs.Bounds.{is_length_within}
use Rattle.typed_values.specs.Faults.{Trouble}
use Rattle.typed_values.specs.Denotes.{Told, and_rest, and_then, all_told, as_tree, if_holds, items_told, or_else, first_told}

-- a part that was put behind the others was told
pub pushed : {T U : Type 0} (answer : Result T Stop) (done : U) (old new : List T) (told : Result T Trouble) → Pushes answer (Ok done) old new → Tells answer told → (part : T) × (told ≡ Ok part) × (new ≡ old ++ part ∷ [])
pushed (Ok part) done old new told put is = (part, is, put)
pushed (Err fault) done old new told put is = absurd put

-- what stops a loop was told of its part, or memory ran out
pub not_pushed : {T : Type 0} (answer : Result T Stop) (stop : Stop) (old new : List T) (told : Result T Trouble) → Pushes {U = Unit {0}} answer (Err stop) old new → Tells answer told → Tells {T = T} (Err stop) told
not_pushed (Ok part) stop old new told put is = subst (λ (end : Stop). Tells (Err end) told) (sym put) tt
not_pushed (Err fault) stop old new told put is = subst (λ (end : Stop). Tells (Err end) told) (sym put) is

module _ {T : Type 0} where
  abbrev pub after : List T → Result (List T) Trouble → Result (List T) Trouble
  after [] rest = rest
  after (t ∷ ts) rest = and_rest t (after ts rest)

  after-append : (ts : List T) (t : T) (rest : Result (List T) Trouble) → after (ts ++ (t ∷ [])) rest ≡ after ts (and_rest t rest)
  after-append [] t rest = refl
  after-append (u ∷ ts) t rest = ap (and_rest u) (after-append ts t rest)

  after_fault : (ts : List T) (e : Trouble) → after ts (Err e) ≡ Err e
  after_fault [] e = refl
  after_fault (t ∷ ts) e = ap (and_rest t) (after_fault ts e)

  after_all : (ts : List T) → after ts (Ok []) ≡ Ok ts
  after_all [] = refl
  after_all (t ∷ ts) = ap (and_rest t) (after_all ts)

  module _ {X : Type 0} (f : ℕ → X → Result T Trouble) (whole : Result (List T) Trouble) (xs : List X) (i : ℕ) (ts : List T) (e : whole ≡ after ts (all_told f i (drop i xs))) where
    next_told : (x : X) → i < length xs → x ≡ get_or xs i x → whole ≡ after ts (and_then (f i x) (all_told f (i + 1) (drop (i + 1) xs)))
    next_told x h is = e ∙ ap (λ (r : List X). after ts (all_told f i r)) (drop_more xs i x h ∙ ap (λ (y : X). y ∷ drop (i + 1) xs) (sym is))

    pub all_step : (x : X) (t : T) → i < length xs → x ≡ get_or xs i x → f i x ≡ Ok t → whole ≡ after (ts ++ (t ∷ [])) (all_told f (i + 1) (drop (i + 1) xs))
    all_step x t h is ok =
        next_told x h is
        ∙ ap (λ (o : Result T Trouble). after ts (and_then o (all_told f (i + 1) (drop (i + 1) xs)))) ok
        ∙ sym (after-append ts t (all_told f (i + 1) (drop (i + 1) xs)))

    all_fault : (x : X) (k : Trouble) → i < length xs → x ≡ get_or xs i x → f i x ≡ Err k → whole ≡ Err k
    all_fault x k h is bad =
        next_told x h is
        ∙ ap (λ (o : Result T Trouble). after ts (and_then o (all_told f (i + 1) (drop (i + 1) xs)))) bad
        ∙ after_fault ts k

    pub all_err : (wrap : Result (List T) Trouble → Told) → ((k : Trouble) → wrap (Err k) ≡ Err k) → (x : X) (k : Stop) → i < length xs → x ≡ get_or xs i x → Tells (Err k) (f i x) → Tells (Err k) (wrap whole)
    all_err wrap keeps x (stop.Misfit m) h is bad = ap wrap (all_fault x (trouble m) h is bad) ∙ keeps (trouble m)
    all_err wrap keeps x stop.OutOfMemory h is bad = tt

    pub all_end : length xs ≤ i → whole ≡ Ok ts
    all_end h = e ∙ ap (λ (r : List X). after ts (all_told f i r)) (drop_of_length-le xs h) ∙ after_all ts

pub items_within : {X : Type 0} (f : ℕ → X → Told) (min max : Option ℕ) (xs : List X) → is_length_within min max (length xs) ≡ true → items_told f min max xs ≡ as_tree Items (all_told f 0 xs)
items_within f min max xs e = ap (λ (b : Bool). if_holds b BadLength (as_tree Items (all_told f 0 xs))) e

-- what an alternative leaves that settles nothing
pub unsettled : {A Left : Type 0} (Settled : A → Type 0) (settled : Option A) → ((a : A) → settled ≡ Some a → ⊥) → MatchOption settled Left Settled → Left
unsettled Settled None none h = h
unsettled Settled (Some a) none h = absurd (none a refl)

module _ (f : Desc → Told) (whole : Told) (ds : List Desc) (i : ℕ) (e : whole ≡ first_told i f (drop i ds)) where
  -- what the alternative at the place of the loop settles
  pub next_first : (d : Desc) → i < length ds → d ≡ get_or ds i d → whole ≡ or_else i (f d) (first_told (i + 1) f (drop (i + 1) ds))
  next_first d h is = e ∙ ap (first_told i f) (drop_more ds i d h ∙ ap (λ (y : Desc). y ∷ drop (i + 1) ds) (sym is))
