use Rattle.std.proofs.Common.{rules, ℕ, ◌≤◌, ◌∙◌, sym, ap, List, length, chars, nat_cmp}
use Rattle.std.proofs.lemmas.Str.{chars-nil}
use Rattle.std.specs.Cmp.Lexicographic.{slice_cmp}
use Rattle.descriptors.proofs.Indexing.{name_past}
use Rattle.descriptors.proofs.index.compare_at.Goals as goal

pub returns-in-None : goal.returns-in-None
returns-in-None c =
    let past : length c.args.definitions.now ≤ c.args.place = search rules in
    c.compare-in-None.ensures ∙ ap (λ (name : List ℕ). slice_cmp nat_cmp name (chars c.args.name.now)) (chars-nil ∙ sym (name_past c.args.definitions.now c.args.place past))
