-- Lemmas that a ghost field cites: a descriptor rests in one way at most, so that the field can say it.
use Rattle.std.specs.Prelude.{ℕ, zero, suc, ⊤, List, [], ◌∷◌, Option, Some, None, refl, MatchOption}
use Rattle.descriptors.specs.declared.desc.Desc.{Desc, out-Desc}
use Rattle.descriptors.specs.declared.desc.Desc.TheOpen.{Desc-F}
use Rattle.descriptors.specs.declared.table.Definition.{Definition}
use Rattle.descriptors.specs.Definitions.{definition}
use Rattle.typed_values.specs.Denotes.{room}
use Rattle.typed_values.specs.Resting.{EachRests, RestsBy, Rests, AllRest}
use Rattle.typed_values.specs.Levels.{DescLevel}

-- there is one way at most to say it of the definition of a name
once_found : (Next : Desc → Type 0) → ((d : Desc) → IsProp (Next d)) → (o : Option Desc) → IsProp (MatchOption o ⊤ Next)
once_found Next p None = λ a b. refl
once_found Next p (Some d) = p d

-- there is one way at most to say it of each of some descriptors
once_each : (Next : Desc → Type 0) → ((d : Desc) → IsProp (Next d)) → (ds : List Desc) → IsProp (EachRests Next ds)
once_each Next p [] = λ a b. refl
once_each Next p (d ∷ ds) = λ a b i. (p d a.0 b.0 i, once_each Next p ds a.1 b.1 i)

-- there is one way at most to say it of a descriptor of any form
once_by : (table : List Definition) (Next : Desc → Type 0) → ((d : Desc) → IsProp (Next d)) → (x : DescLevel) → IsProp (RestsBy table Next x)
once_by table Next p Desc-F.Any = λ a b. refl
once_by table Next p Desc-F.Never = λ a b. refl
once_by table Next p Desc-F.Null = λ a b. refl
once_by table Next p Desc-F.Bool = λ a b. refl
once_by table Next p Desc-F.Char = λ a b. refl
once_by table Next p (Desc-F.Int kind min max) = λ a b. refl
once_by table Next p (Desc-F.Text min max format) = λ a b. refl
once_by table Next p (Desc-F.Enumeration ns) = λ a b. refl
once_by table Next p (Desc-F.Option d) = p d
once_by table Next p (Desc-F.List d min max) = λ a b. refl
once_by table Next p (Desc-F.Map d) = λ a b. refl
once_by table Next p (Desc-F.Struct fs deny) = λ a b. refl
once_by table Next p (Desc-F.External vs) = λ a b. refl
once_by table Next p (Desc-F.Tagged tag vs) = λ a b. refl
once_by table Next p (Desc-F.Untagged ds) = once_each Next p ds
once_by table Next p (Desc-F.Ref name) = once_found Next p (definition table name)

-- a descriptor rests in one way at most
once_rests : (table : List Definition) (n : ℕ) (d : Desc) → IsProp (Rests table n d)
unfolding Rests
once_rests table zero d = λ a b. absurd a
once_rests table (suc n) d = once_by table (Rests table n) (once_rests table n) (out-Desc d)

-- each descriptor of a table and of a whole one rests in one way at most
pub once_all_rest : (table : List Definition) (whole : Desc) → IsProp (AllRest table whole)
once_all_rest table whole = λ a b i d p. once_rests table (room table whole) d (a d p) (b d p) i
