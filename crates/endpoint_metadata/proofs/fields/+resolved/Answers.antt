use Rattle.std.proofs.Common.{Some, None, sym, ◌∙◌, ap, arith}
use Rattle.descriptors.specs.declared.desc.Desc.{out-Desc}
use Rattle.descriptors.specs.declared.desc.Desc.TheVariants as desc
use Rattle.flat_maps.proofs.CallerLemmas.{at_name, fewer_behind, here}
use Rattle.endpoint_metadata.proofs.fields.+resolved.Goals as goal

pub resolved-requires : goal.resolved-requires
resolved-requires t c =
    let name = c.in-Ref.name in
    let less =
    fewer_behind c.args.table.now c.requires.guarded c.args.desc.now name c.in-Some.definition.now
    (ap out-Desc c.in-Ref.is ∙ desc.outs-Ref name) (sym c.in-Some.ensures) in
    (omega (arith, c.decreases, less), c.requires)

pub returns-in-Some : goal.returns-in-Some
returns-in-Some t c =
    c.resolved.ensures
    ∙ sym (at_name c.args.table.now c.requires.guarded c.args.desc.now c.in-Ref.name
    (Some c.in-Some.definition.now) c.in-Ref.is (sym c.in-Some.ensures))

pub returns-in-None : goal.returns-in-None
returns-in-None t c =
    sym (at_name c.args.table.now c.requires.guarded c.args.desc.now c.in-Ref.name None c.in-Ref.is
    (sym c.in-None.ensures))

pub returns-in_default : goal.returns-in_default
returns-in_default t c = sym (here c.args.table.now c.requires.guarded c.args.desc.now c.in_default.not-Ref)
