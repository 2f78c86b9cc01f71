use Rattle.std.proofs.Common.{◌≡◌, ℕ, List, ◌∙◌, ap, sym, refl, Some, true, false}
use Rattle.std.specs.Str.{chars}
use Rattle.descriptors.specs.Definitions.{definition_with}
use Rattle.descriptors.proofs.Found.{entry_name}
use Rattle.descriptors.proofs.table.new_name_for.Goals as goal

pub returns-then-says-clause-there : goal.returns-then-says-clause-there
returns-then-says-clause-there c =
    let here = c.in-Ok.ensures.found in
    let named = entry_name c.args.definitions.now (chars c.args.name.now) c.in-Ok.entry.now here in
    let same = c.if-says.ensures.0 refl ∙ ap (λ (n : List ℕ). definition_with n c.args.description.now c.args.desc.now) named in
    here ∙ ap Some same

pub returns-in_ok-from_str-in-Ok-clause-refused : goal.returns-in_ok-from_str-in-Ok-clause-refused
returns-in_ok-from_str-in-Ok-clause-refused c =
    let here = c.in-Ok.ensures.found in
    let named = entry_name c.args.definitions.now (chars c.args.name.now) c.in-Ok.entry.now here in
    let apart : c.in-Ok.entry.now ≡ definition_with (chars c.args.name.now) c.args.description.now c.args.desc.now → ⊥ =
    λ h. let same : false ≡ true = c.if-says.ensures.1 (h ∙ ap (λ (n : List ℕ). definition_with n c.args.description.now c.args.desc.now) (sym named)) in cc same in
    (c.in_ok-from_str-in-Ok.ensures, (c.in-Ok.entry.now, here, apart))
