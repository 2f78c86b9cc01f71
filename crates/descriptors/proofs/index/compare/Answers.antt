use Rattle.std.proofs.Common.{◌∙◌, sym, ap₂, chars, nat_cmp}
use Rattle.std.proofs.lemmas.Str.{encodes-chars}
use Rattle.std.specs.Cmp.Lexicographic.{slice_cmp}
use Rattle.schema_values.proofs.CallerLemmas.{cmp-encodes}
use Rattle.descriptors.proofs.index.compare.Goals as goal

pub returns : goal.returns
returns c =
    let left = c.args.text.now in
    let right = c.args.other.now in
    c.cmp.ensures ∙ ap₂ (slice_cmp nat_cmp) (sym (encodes-chars left c.utf8.text)) (sym (encodes-chars right c.utf8.other)) ∙ cmp-encodes (chars left) (chars right)
