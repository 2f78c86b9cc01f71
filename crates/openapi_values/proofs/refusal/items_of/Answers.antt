use Rattle.std.proofs.Common.{◌≡◌, Bor, Option, Some, None, option_map, option_copied, refl, ap, ◌∙◌}
use Rattle.schema_values.specs.declared.schema.Items.{Items}
use Rattle.openapi_values.specs.Refusal.{items_within}
use Rattle.openapi_values.proofs.RefusalLevels.{array-is}
use Rattle.openapi_values.proofs.refusal.items_of.Goals as goal

lent : (items : Option (Bor Items)) → option_map (λ i. items_within i.now) items ≡ option_map items_within (option_copied items)
lent None = refl
lent (Some items) = refl

pub returns-in-Some : goal.returns-in-Some
returns-in-Some c = rw (c.in-Some.is, array-is c.in-Some.array) (lent c.as_ref.result ∙ ap (option_map items_within) c.as_ref.ensures.value)
