use Rattle.std.proofs.Common.{◌≡◌, sym, ◌∙◌}
use Rattle.std.specs.declared.result.Result.TheVariants.{Ok}
use Rattle.typed_values.specs.Denotes.{told, JsonDenotes}
use Rattle.typed_values.specs.Parts.{the_whole, of_whole}
use Rattle.typed_values.proofs.decode.decode_json.Goals as goal
use Rattle.typed_values.proofs.DenotedFits.{denoted_fits}

pub decode_at-requires : goal.decode_at-requires
decode_at-requires c = rw c.new.ensures.whole (of_whole the_whole)

pub returns-in-Ok-clause-fits : goal.returns-in-Ok-clause-fits
returns-in-Ok-clause-fits c sound =
    let same_table : c.new.result.table.now ≡ c.args.table.now = c.new.ensures.table in
    let same_whole : c.new.result.whole.now ≡ c.args.desc.now = c.new.ensures.whole in
    let here : told c.new.result.table.now c.new.result.whole.now c.args.json.now c.args.desc.now ≡ Ok c.in-Ok.tree = c.in-Ok.ensures in
    let denotes : JsonDenotes c.args.table.now c.args.desc.now c.args.json.now c.in-Ok.tree =
    sym (λ i. told (same_table i) (same_whole i) c.args.json.now c.args.desc.now) ∙ here in
    denoted_fits c.args.table.now c.args.desc.now c.args.json.now c.in-Ok.tree c.requires.table c.requires.desc sound denotes
