use Rattle.std.proofs.Common.{◌≡◌, false, bytes_eq, codes, sym, ap, ◌∙◌}
use Rattle.std.proofs.lemmas.Cmp.{nat_list_eq_equiv}
use Rattle.request_words.proofs.media.is_json_type.Goals as goal

pub returns-else-eq : goal.returns-else-eq
returns-else-eq c =
    let media = c.args.media.now in
    let other : bytes_eq (codes "application/json") media ≡ false =
    nat_list_eq_equiv.symm (codes "application/json") media ∙ ap (bytes_eq media) (sym c.as_slice.ensures) ∙ sym c.eq.ensures ∙ c.if-eq.false in
    rw other c.has_json_suffix.ensures
