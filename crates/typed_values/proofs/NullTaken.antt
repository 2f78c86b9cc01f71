-- Null denotes something only under what takes null.
use Rattle.std.proofs.Common.{◌≡◌, ℕ, zero, suc, ◌+◌, List, [], ◌∷◌, Option, Some, None, refl, sym, ◌∙◌, MatchOption}
use Rattle.std.specs.Prelude.{⊤, Contains}
use Rattle.std.specs.declared.result.Result.TheVariants.{Ok, Err}
use Rattle.schema_values.specs.declared.json_value.Json.{Json, out-Json}
use Rattle.schema_values.specs.declared.json_value.Json.TheOpen.{Json-F}
use Rattle.descriptors.specs.declared.desc.Desc.{Desc, out-Desc}
use Rattle.descriptors.specs.declared.desc.Desc.TheOpen.{Desc-F}
use Rattle.descriptors.specs.declared.table.Definition.{Definition}
use Rattle.descriptors.specs.declared.tree.Tree.{Tree}
use Rattle.typed_values.specs.Checks.{TakesNull, any_value, null_itself, an_option, a_reference, an_alternative}
use Rattle.descriptors.specs.Definitions.{definition}
use Rattle.typed_values.specs.Denotes.{Told, room, told, or_else, first_told, at_definition}
use Rattle.typed_values.specs.Rows.{row}
use Rattle.typed_values.specs.Resting.{RestsBy, Rests, AllRest}
use Rattle.typed_values.specs.Levels.{DescLevel}
use Rattle.schema_values.proofs.CallerLemmas.{contains_first, contains_later}
use Rattle.typed_values.proofs.Needed.{IsNeeded, needed_part, alternative_needed, definition_needed}
use Rattle.typed_values.proofs.Rows.{row_at}
use Rattle.typed_values.proofs.Soundness.{each_of}

-- the alternative under which a choice is told
abbrev SomeTells : (Desc → Told) → List Desc → Type 0
SomeTells f ds = (d : Desc) × Contains ds d × (s : Tree) × (f d ≡ Ok s)

teller_by : (f : Desc → Told) (i : ℕ) (d : Desc) (ds : List Desc) (o : Told) (t : Tree) → f d ≡ o → (first_told (i + 1) f ds ≡ Ok t → SomeTells f ds) → or_else i o (first_told (i + 1) f ds) ≡ Ok t → SomeTells f (d ∷ ds)
teller_by f i d ds (Ok s) t is later e = (d, contains_first d ds, s, is)
teller_by f i d ds (Err k) t is later e = let (x, c, s, h) = later e in (x, contains_later d ds x c, s, h)

teller : (f : Desc → Told) (i : ℕ) (ds : List Desc) (t : Tree) → first_told i f ds ≡ Ok t → SomeTells f ds
teller f i [] t e = absurd (cc e)
teller f i (d ∷ ds) t e = teller_by f i d ds (f d) t refl (teller f (i + 1) ds t) e

module _ (table : List Definition) (whole : Desc) (sound : AllRest table whole) (j : Json) (null : out-Json j ≡ Json-F.Null) where
  abbrev TakesWhere : Desc → Type 0
  TakesWhere d = (t : Tree) → told table whole j d ≡ Ok t → TakesNull table d

  taken_behind : (n : ℕ) → ((d : Desc) → Rests table n d → IsNeeded table whole d → TakesWhere d) → (d : Desc) (name : List ℕ) → IsNeeded table whole d → out-Desc d ≡ Desc-F.Ref name
      → (o : Option Desc) → definition table name ≡ o → MatchOption o ⊤ (Rests table n) → (t : Tree) → at_definition (told table whole j) o ≡ Ok t → TakesNull table d
  taken_behind n next d name need e None f rests t is = absurd (cc is)
  taken_behind n next d name need e (Some y) f rests t is = a_reference name y e f (next y rests (definition_needed table whole d name y e f need) t is)

  taken_by : (n : ℕ) → ((d : Desc) → Rests table n d → IsNeeded table whole d → TakesWhere d) → (d : Desc) → IsNeeded table whole d → (y : DescLevel) → out-Desc d ≡ y → RestsBy table (Rests table n) y
      → (t : Tree) → row table whole j Json-F.Null y ≡ Ok t → TakesNull table d
  taken_by n next d need Desc-F.Any e rests t is = any_value e
  taken_by n next d need Desc-F.Never e rests t is = absurd (cc is)
  taken_by n next d need Desc-F.Null e rests t is = null_itself e
  taken_by n next d need Desc-F.Bool e rests t is = absurd (cc is)
  taken_by n next d need Desc-F.Char e rests t is = absurd (cc is)
  taken_by n next d need (Desc-F.Int kind min max) e rests t is = absurd (cc is)
  taken_by n next d need (Desc-F.Text min max format) e rests t is = absurd (cc is)
  taken_by n next d need (Desc-F.Enumeration ns) e rests t is = absurd (cc is)
  taken_by n next d need (Desc-F.Option x) e rests t is = an_option x e
  taken_by n next d need (Desc-F.List x min max) e rests t is = absurd (cc is)
  taken_by n next d need (Desc-F.Map x) e rests t is = absurd (cc is)
  taken_by n next d need (Desc-F.Struct fs deny) e rests t is = absurd (cc is)
  taken_by n next d need (Desc-F.External vs) e rests t is = absurd (cc is)
  taken_by n next d need (Desc-F.Tagged tag vs) e rests t is = absurd (cc is)
  taken_by n next d need (Desc-F.Untagged ds) e rests t is =
      let (x, c, s, h) = teller (told table whole j) 0 ds t is in
      an_alternative ds x e c (next x (each_of (Rests table n) ds x rests c) (alternative_needed table whole d ds x e c need) s h)
  taken_by n next d need (Desc-F.Ref name) e rests t is = taken_behind n next d name need e (definition table name) refl rests t is

  taken_within : (n : ℕ) (d : Desc) → Rests table n d → IsNeeded table whole d → TakesWhere d
  unfolding Rests
  taken_within zero d rests need t e = absurd rests
  taken_within (suc n) d rests need t e =
      taken_by n (taken_within n) d need (out-Desc d) refl rests t (sym (row_at table whole j d Json-F.Null (out-Desc d) (sound d (needed_part table whole d need)) null refl) ∙ e)

  pub null_taken : (d : Desc) → IsNeeded table whole d → TakesWhere d
  null_taken d need = taken_within (room table whole) d (sound d (needed_part table whole d need)) need
