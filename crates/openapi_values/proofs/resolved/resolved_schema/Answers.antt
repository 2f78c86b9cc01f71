use Rattle.std.proofs.Common.{◌≡◌, ◌∙◌, suc, List, Option, Some, None, IfSome, option_map, Bor, refl, sym, arith}
use Rattle.std.specs.List.{AllByRecursion}
use Rattle.schema_values.specs.declared.json_value.Member.{Member}
use Rattle.schema_values.specs.SoundMembers.{HasSoundValue}
use Rattle.openapi_values.specs.Room.{room}
use Rattle.openapi_values.specs.Steps.{left}
use Rattle.openapi_values.proofs.ResolvedSteps.{resolved-suc, resolved_sound}
use Rattle.openapi_values.proofs.StepsLeft.{left_end, of_one}
use Rattle.openapi_values.proofs.resolved.resolved_schema.Goals as goal

told_sound : (r : Option (Bor (List Member))) → ((ms : List Member) → option_map (λ (m : Bor (List Member)). m.now) r ≡ Some ms → AllByRecursion HasSoundValue ms) → IfSome r (λ members. AllByRecursion HasSoundValue members.now)
told_sound None h = tt
told_sound (Some members) h = h members.now refl

pub returns : goal.returns
returns c =
    let doc = c.args.doc.now in
    let schema = c.args.schema.now in
    let of_schema = of_one schema _ _ _ c.from_ref.ensures.value c.of_items-of_schema.ensures in
    let of_both = of_one doc _ _ _ c.from_ref-2.ensures.value c.of_items-of_both.ensures in
    let whole : suc (left c.of_items-of_both.result) ≡ room doc schema = omega (arith, of_schema, of_both, left_end) in
    let same = c.step.ensures ∙ resolved-suc doc (left c.of_items-of_both.result) (room doc schema) schema whole in
    record { schema = same; sound = told_sound c.step.result (λ ms e. resolved_sound doc c.requires.doc (room doc schema) schema c.requires.schema ms (sym same ∙ e)) }
