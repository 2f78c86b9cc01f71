use Rattle.descriptors.specs.declared.desc.Desc.{Null}
use Rattle.typed_values.specs.Fits.{fits_under}
use Rattle.typed_values.proofs.FitRows.{place_row}
use Rattle.typed_values.proofs.FitSteps.{nought_row}
use Rattle.typed_values.proofs.scope.Scope.name_fits.Goals as goal

pub returns-then-place-names : goal.returns-then-place-names
returns-then-place-names c =
    rw (place_row (λ t. fits_under c.args.self.now.table.now c.args.self.now.whole.now t Null) c.args.names.now c.args.tree.now c.in-Variant.place c.in-Variant.tree c.in-Variant.is c.if-place-names.true, nought_row c.args.self.now.table.now c.args.self.now.whole.now c.in-Variant.tree, ← c.get.ensures) c.nought_fits.ensures
