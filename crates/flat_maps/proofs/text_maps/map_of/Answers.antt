use Rattle.std.proofs.Common.{List, map, subst, ap, sym, ◌∙◌}
use Rattle.std.specs.Prelude.{Contains}
use Rattle.schema_values.specs.Sound.{AreDistinct}
use Rattle.descriptors.specs.declared.desc.Desc.{out-Desc}
use Rattle.descriptors.specs.declared.desc.Desc.TheVariants as desc
use Rattle.descriptors.specs.declared.desc.Field.{Field}
use Rattle.descriptors.specs.Definitions.{field_name}
use Rattle.typed_values.specs.Parts.{the_whole}
use Rattle.typed_values.proofs.CallerLemmas.{fields_distinct}
use Rattle.scalar_texts.proofs.CallerLemmas.{fields_pass}
use Rattle.flat_maps.proofs.TextLoops.{written_distinct}
use Rattle.flat_maps.proofs.text_maps.map_of.Goals as goal

pub field_texts-requires-clause-fields : goal.field_texts-requires-clause-fields
field_texts-requires-clause-fields c f inside =
    fields_pass c.args.table.now c.requires.table c.args.desc.now c.requires.desc c.in-Struct-Fields.fields c.in-Struct-Fields.deny_unknown-0 c.in-Struct-Fields.is-0 f (subst (λ (fs : List Field). Contains fs f) c.as_slice.ensures inside)

pub collected-requires : goal.collected-requires
collected-requires c =
    let fs = c.in-Struct-Fields.fields in
    let deny = c.in-Struct-Fields.deny_unknown-0 in
    let apart = fields_distinct c.args.table.now c.args.desc.now fs deny (ap out-Desc c.in-Struct-Fields.is-0 ∙ desc.outs-Struct fs deny) (c.requires.desc c.args.desc.now the_whole) in
    rw c.as_slice-in-Struct-Fields-2.ensures
    (written_distinct c.args.table.now c.as_slice.result.now c.as_slice-in-Struct-Fields.result.now _ (subst (λ (gs : List Field). AreDistinct (map field_name gs)) (sym c.as_slice.ensures) apart) c.in_ok-entries-in-Struct-Fields.ensures)
