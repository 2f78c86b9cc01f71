-- How long the chains are along which a schema leads on at one value.
use Rattle.std.proofs.Common.{ℕ, zero, suc, ◌≤◌, arith}
use Rattle.schema_values.specs.declared.schema.Schema.{Schema}
use Rattle.schema_meaning.specs.Definitions.{NamedSchemas}
use Rattle.schema_meaning.specs.Reached.{LeadsTo, LeadsOnTo, at_once, through}

-- fewer than n steps lead on from a schema at one value
unfoldable pub Rests : NamedSchemas → ℕ → Schema → Type 0
Rests definitions zero s = ⊥
Rests definitions (suc n) s = (t : Schema) → LeadsTo definitions s t → Rests definitions n t

pub rests_more : (definitions : NamedSchemas) (n m : ℕ) (s : Schema) → n ≤ m → Rests definitions n s → Rests definitions m s
unfolding Rests
rests_more definitions zero m s le h = absurd h
rests_more definitions (suc n) zero s le h = absurd (omega (arith, le))
rests_more definitions (suc n) (suc m) s le h = λ t l. rests_more definitions n m t (omega (arith, le)) (h t l)

pub go_on : (definitions : NamedSchemas) (y s t : Schema) → LeadsOnTo definitions y s → LeadsTo definitions s t → LeadsOnTo definitions y t
go_on definitions y s t (at_once u l) k = through _ t l (at_once t k)
go_on definitions y s t (through u v l c) k = through u t l (go_on definitions u s t c k)
