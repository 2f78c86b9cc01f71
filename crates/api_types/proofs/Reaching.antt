-- What a descriptor says on a table that passes with it, and the names that it reaches.
use Rattle.std.proofs.Common.{◌≡◌, ℕ, List, [], subst, arith}
use Rattle.descriptors.specs.declared.desc.Desc.{Desc, out-Desc}
use Rattle.descriptors.specs.declared.desc.Desc.TheOpen.{Desc-F}
use Rattle.descriptors.specs.declared.table.Definition.{Definition}
use Rattle.typed_values.specs.Denotes.{room}
use Rattle.typed_values.specs.Parts.{the_whole, of_whole}
use Rattle.typed_values.specs.Reached.{Mentions, IsReached, directly, through}
use Rattle.typed_values.specs.Resting.{Rests}
use Rattle.typed_values.specs.Levels.{DescLevel}
use Rattle.typed_values.proofs.CallerLemmas.{guarded_rests, SomeChild, parts_at}
use Rattle.api_types.specs.Types.{IsTableOf, ReachesExactly}

-- steps are never spent
pub rests : {ds : List Definition} {desc : Desc} {table : List Definition} → IsTableOf ds desc table → Rests table (room table desc) desc
rests {desc = desc} {table = table} is = guarded_rests table desc is.table_passes.guarded desc (of_whole the_whole)

-- what mentions more reaches more
pub reached_by : {table : List Definition} {a b : Desc} → ((name : List ℕ) → Mentions a name → Mentions b name) → (name : List ℕ) → IsReached table a name → IsReached table b name
reached_by more _ (directly name m) = directly name (more name m)
reached_by more _ (through other name e r f m) = through other name e (reached_by more other r) f m

unreached : {table : List Definition} {a : Desc} → ((name : List ℕ) → Mentions a name → ⊥) → (name : List ℕ) → IsReached table a name → ⊥
unreached none _ (directly name m) = none name m
unreached none _ (through other name e r f m) = unreached none other r

-- a descriptor that is made of none, and is no reference, reaches no name
pub reaches_none : (desc : Desc) (z : DescLevel) → out-Desc desc ≡ z → ((Q : Desc → Type 0) → SomeChild Q z → ⊥) → ((name : List ℕ) → z ≡ Desc-F.Ref name → ⊥) → ReachesExactly [] desc
reaches_none desc z e bare other table held name = (
  λ r. absurd (unreached (λ n m. bare _ ((parts_at (λ d. out-Desc d ≡ Desc-F.Ref n) desc z e (λ q. other n (subst (λ (y : DescLevel). y ≡ Desc-F.Ref n) e q))).0 m)) name r),
  λ c. absurd (omega (arith, c.1)),
)
