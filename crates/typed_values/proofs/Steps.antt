-- On a sound table the steps are never spent: each row of the definition holds with no steps in it.
use Rattle.std.proofs.Common.{◌≡◌, ℕ, zero, suc, ◌+◌, List, [], ◌∷◌, Option, Some, None, refl, sym, ◌∙◌, ap, MatchOption}
use Rattle.std.specs.Prelude.{⊤}
use Rattle.schema_values.specs.declared.json_value.Json.{Json, out-Json}
use Rattle.schema_values.specs.Beside.{level_with}
use Rattle.schema_values.proofs.CallerLemmas.{made-out}
use Rattle.descriptors.specs.declared.desc.Desc.{Desc, out-Desc}
use Rattle.descriptors.specs.declared.desc.Desc.TheOpen.{Desc-F}
use Rattle.descriptors.specs.declared.table.Definition.{Definition}
use Rattle.descriptors.specs.Definitions.{definition}
use Rattle.typed_values.specs.Denotes.{Told, Meaning, Level, told_by, first_told, or_else, told_at, told_within, room, told, optional, at_definition}
use Rattle.typed_values.specs.Resting.{EachRests, RestsBy, Rests}
use Rattle.typed_values.specs.Levels.{DescLevel}

-- one level of a JSON value, where each smaller value stands beside what it denotes
abbrev pub level : List Definition → Desc → Json → Level
level table whole j = level_with (told_within table (room table whole)) (out-Json j)

at_definition_same : (Next : Desc → Type 0) (f g : Desc → Told) → ((d : Desc) → Next d → f d ≡ g d) → (o : Option Desc) → MatchOption o ⊤ Next → at_definition f o ≡ at_definition g o
at_definition_same Next f g same None h = refl
at_definition_same Next f g same (Some d) h = same d h

first_told_same : (Next : Desc → Type 0) (f g : Desc → Told) → ((d : Desc) → Next d → f d ≡ g d) → (i : ℕ) (ds : List Desc) → EachRests Next ds → first_told i f ds ≡ first_told i g ds
first_told_same Next f g same i [] h = refl
first_told_same Next f g same i (d ∷ ds) h =
    ap (λ (o : Told). or_else i o (first_told (i + 1) f ds)) (same d h.0) ∙ ap (or_else i (g d)) (first_told_same Next f g same (i + 1) ds h.1)

-- what follows a step matters only where that step is one
told_by_same : (table : List Definition) (r : ℕ) (j : Json) (v : Level) (Next : Desc → Type 0) (f g : Desc → Told) → ((d : Desc) → Next d → f d ≡ g d) → (x : DescLevel) → RestsBy table Next x → told_by table r j v f x ≡ told_by table r j v g x
told_by_same table r j v Next f g same Desc-F.Any h = refl
told_by_same table r j v Next f g same Desc-F.Never h = refl
told_by_same table r j v Next f g same Desc-F.Null h = refl
told_by_same table r j v Next f g same Desc-F.Bool h = refl
told_by_same table r j v Next f g same Desc-F.Char h = refl
told_by_same table r j v Next f g same (Desc-F.Int kind min max) h = refl
told_by_same table r j v Next f g same (Desc-F.Text min max format) h = refl
told_by_same table r j v Next f g same (Desc-F.Enumeration ns) h = refl
told_by_same table r j v Next f g same (Desc-F.Option d) h = ap (λ (o : Told). optional v o) (same d h)
told_by_same table r j v Next f g same (Desc-F.List d min max) h = refl
told_by_same table r j v Next f g same (Desc-F.Map d) h = refl
told_by_same table r j v Next f g same (Desc-F.Struct fs deny) h = refl
told_by_same table r j v Next f g same (Desc-F.External vs) h = refl
told_by_same table r j v Next f g same (Desc-F.Tagged tag vs) h = refl
told_by_same table r j v Next f g same (Desc-F.Untagged ds) h = first_told_same Next f g same 0 ds h
told_by_same table r j v Next f g same (Desc-F.Ref name) h = at_definition_same Next f g same (definition table name) h

-- a descriptor that rests after n steps needs no more
told_at_enough : (table : List Definition) (r : ℕ) (j : Json) (v : Level) (n : ℕ) (d : Desc) → Rests table n d → told_at table r j v (suc n) d ≡ told_at table r j v n d
unfolding Rests told_at
told_at_enough table r j v zero d h = absurd h
told_at_enough table r j v (suc n) d h = told_by_same table r j v (Rests table n) (told_at table r j v (suc n)) (told_at table r j v n) (told_at_enough table r j v n) (out-Desc d) h

told_level : (table : List Definition) (whole : Desc) (j : Json) (d : Desc) → told table whole j d ≡ told_at table (room table whole) j (level table whole j) (room table whole) d
unfolding told told_within
told_level table whole j d = ap (λ (m : Meaning). m (room table whole) d) (made-out (told_at table (room table whole)) j)

told_more : (table : List Definition) (whole : Desc) (j : Json) (m : ℕ) → room table whole ≡ suc m → (d : Desc) → Rests table m d → told_at table (room table whole) j (level table whole j) m d ≡ told table whole j d
told_more table whole j m e d h =
    sym (told_at_enough table (room table whole) j (level table whole j) m d h)
    ∙ ap (λ (n : ℕ). told_at table (room table whole) j (level table whole j) n d) (sym e)
    ∙ sym (told_level table whole j d)

-- the row of a descriptor, with no steps
pub told_row : (table : List Definition) (whole : Desc) (j : Json) (d : Desc) → Rests table (room table whole) d → told table whole j d ≡ told_by table (room table whole) j (level table whole j) (told table whole j) (out-Desc d)
unfolding Rests told_at
told_row table whole j d h = go (room table whole) refl h
  where
    go : (n : ℕ) → room table whole ≡ n → Rests table n d → told table whole j d ≡ told_by table (room table whole) j (level table whole j) (told table whole j) (out-Desc d)
    go zero e h = absurd h
    go (suc m) e h =
        told_level table whole j d
        ∙ ap (λ (n : ℕ). told_at table (room table whole) j (level table whole j) n d) e
        ∙ told_by_same table (room table whole) j (level table whole j) (Rests table m) (told_at table (room table whole) j (level table whole j) m) (told table whole j) (told_more table whole j m e) (out-Desc d) h
