use Rattle.std.proofs.Common.{Some, None, sym, ◌∙◌, ap, arith}
use Rattle.descriptors.specs.declared.desc.Desc.{out-Desc}
use Rattle.descriptors.specs.declared.desc.Desc.TheVariants as desc
use Rattle.scalar_texts.proofs.CallerLemmas.{definition_passes, fewer_behind}
use Rattle.flat_maps.proofs.ResolveSteps.{at_name, here}
use Rattle.flat_maps.proofs.resolve.+resolve.Goals as goal

pub resolve-requires : goal.resolve-requires
resolve-requires t c =
    let name = c.in-Ref.name in
    let found = sym c.in-Some.ensures in
    let less = fewer_behind c.args.table.now c.requires.table.guarded c.args.desc.now name c.in-Some.definition.now (ap out-Desc c.in-Ref.is ∙ desc.outs-Ref name) found in
    (omega (arith, c.decreases, less), (c.requires.table, definition_passes c.args.table.now c.requires.table name c.in-Some.definition.now found))

pub returns-in-Some-clause-resolved : goal.returns-in-Some-clause-resolved
returns-in-Some-clause-resolved t c =
    c.resolve.ensures.resolved ∙ sym (at_name c.args.table.now c.requires.table.guarded c.args.desc.now c.in-Ref.name (Some c.in-Some.definition.now) c.in-Ref.is (sym c.in-Some.ensures))

pub returns-in-None-clause-resolved : goal.returns-in-None-clause-resolved
returns-in-None-clause-resolved t c = sym (at_name c.args.table.now c.requires.table.guarded c.args.desc.now c.in-Ref.name None c.in-Ref.is (sym c.in-None.ensures))

pub returns-in_default : goal.returns-in_default
returns-in_default t c = record {
  resolved = sym (here c.args.table.now c.requires.table.guarded c.args.desc.now c.in_default.not-Ref);
  passes = c.requires.desc;
}
