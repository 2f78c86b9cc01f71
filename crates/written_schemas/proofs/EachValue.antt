-- The agreement at each sound value, from that at its smaller values.
use Rattle.std.proofs.Common.{◌≡◌, ℕ, ◌≤◌, List, [], ◌∷◌, refl, sym, ◌∙◌, ap, subst}
use Rattle.std.specs.List.{AllByRecursion}
use Rattle.schema_values.specs.declared.json_value.Json.{Json, out-Json}
use Rattle.schema_values.specs.declared.json_value.Json.TheOpen.{Json-F}
use Rattle.schema_values.specs.declared.json_value.Json.TheVariants as json
use Rattle.schema_values.specs.declared.json_value.Json.TheViews.{roll-Json, roll-out-Json}
use Rattle.schema_values.specs.declared.json_value.Member.{Member}
use Rattle.schema_values.specs.Sound.{IsSound as IsSoundValue}
use Rattle.schema_values.specs.SoundMembers.{HasSoundValue}
use Rattle.schema_values.proofs.CallerLemmas.{IsSound-List, IsSound-Object, OfParts, by_parts}
use Rattle.descriptors.specs.declared.desc.Desc.{Desc}
use Rattle.descriptors.specs.declared.table.Definition.{Definition}
use Rattle.typed_values.specs.Checks.{TablePasses, DescPasses}
use Rattle.typed_values.specs.Denotes.{room}
use Rattle.typed_values.specs.Resting.{AllRest}
use Rattle.typed_values.proofs.CallerLemmas.{IsNeeded, needed_part}
use Rattle.written_schemas.specs.Reached.{DefinesReached}
use Rattle.written_schemas.proofs.Costs.{cost}
use Rattle.written_schemas.proofs.AtOneValue.{Agrees, Below}
use Rattle.written_schemas.proofs.Agreement.{agree_at}

module _ (table : List Definition) (whole : Desc) (doc : Json) (q : ℕ) (passes : TablePasses table) (right : DescPasses table whole) (sound : AllRest table whole) (defines : DefinesReached doc table whole) (some : 1 ≤ q)
    (bounded : (d : Desc) → IsNeeded table whole d → cost table (room table whole) d ≤ q) where
  abbrev AgreesSound : Json → Type 0
  AgreesSound j = IsSoundValue j → Agrees table whole doc q j

  items_agree : (js : List Json) → AllByRecursion AgreesSound js → AllByRecursion IsSoundValue js → AllByRecursion (Agrees table whole doc q) js
  items_agree [] agree h = tt
  items_agree (j ∷ js) agree h = (agree.0 h.0, items_agree js agree.1 h.1)

  members_agree : (ms : List Member) → AllByRecursion (λ m. AgreesSound m.value) ms → AllByRecursion HasSoundValue ms → AllByRecursion (λ m. Agrees table whole doc q m.value) ms
  members_agree [] agree h = tt
  members_agree (m ∷ ms) agree h = (agree.0 h.0, members_agree ms agree.1 h.1)

  below_of : (j : Json) (x : Json-F Json Member) → out-Json j ≡ x → OfParts AgreesSound x → IsSoundValue j → Below table whole doc q x
  below_of j Json-F.Null e agree h = tt
  below_of j (Json-F.Bool b) e agree h = tt
  below_of j (Json-F.Int i) e agree h = tt
  below_of j (Json-F.Text w) e agree h = tt
  below_of j (Json-F.List js) e agree h = items_agree js agree ((IsSound-List js).0 (subst IsSoundValue (sym (roll-out-Json j) ∙ ap roll-Json e ∙ json.rolls-List js) h))
  below_of j (Json-F.Object ms) e agree h =
      let members = (IsSound-Object ms).0 (subst IsSoundValue (sym (roll-out-Json j) ∙ ap roll-Json e ∙ json.rolls-Object ms) h) in
      (members_agree ms agree members.0, members.1)

  pub agree : (j : Json) → AgreesSound j
  agree = by_parts AgreesSound (λ j parts h d need.
      agree_at table whole doc q passes right sound defines some j (below_of j (out-Json j) refl parts h) (room table whole) d (sound d (needed_part table whole d need)) need q (bounded d need))
