use Rattle.std.proofs.Common.{◌≡◌, refl, sym, ap, ◌∙◌}
use Rattle.descriptors.specs.declared.desc.Desc.{Desc, out-Desc}
use Rattle.descriptors.specs.declared.desc.Desc.TheOpen.{Desc-F}
use Rattle.descriptors.specs.declared.desc.Desc.TheVariants as desc
use Rattle.descriptors.specs.declared.desc.Desc.TheViews.{roll-Desc, roll-out-Desc}
use Rattle.typed_values.specs.Levels.{DescLevel}
use Rattle.typed_values.specs.Schemas.{in_query}
use Rattle.typed_values.proofs.schemas.shown_in_query.Goals as goal

-- in a query stands what is no option
same_in_query : (d : Desc) → ((x : Desc) → d ≡ desc.Option x → ⊥) → (y : DescLevel) → out-Desc d ≡ y → in_query d ≡ d
same_in_query d no_option (Desc-F.Option x) e = absurd (no_option x (sym (roll-out-Desc d) ∙ ap roll-Desc e ∙ desc.rolls-Option x))
same_in_query d no_option _ e = rw e refl

pub returns-in_default : goal.returns-in_default
returns-in_default c = sym (same_in_query c.args.desc.now c.in_default.not-Option (out-Desc c.args.desc.now) refl)
