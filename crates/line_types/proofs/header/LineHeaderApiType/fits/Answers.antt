use Rattle.descriptors.specs.declared.tree.Tree.TheVariants as trees
use Rattle.line_types.proofs.Headers.{line_each}
use Rattle.line_types.proofs.header.LineHeaderApiType.fits.Goals as goal

pub returns : goal.returns
returns c =
    line_each (trees.Text c.args.self.now.name) (trees.Text c.args.self.now.value) c.fits.ensures c.fits-2.ensures
