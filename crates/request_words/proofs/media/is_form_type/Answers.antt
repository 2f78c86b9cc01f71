use Rattle.std.proofs.Common.{bytes_eq, codes, sym, ap, ◌∙◌}
use Rattle.std.proofs.lemmas.Cmp.{nat_list_eq_equiv}
use Rattle.request_words.proofs.media.is_form_type.Goals as goal

pub returns : goal.returns
returns c = c.eq.ensures ∙ ap (bytes_eq c.args.media.now) c.as_slice.ensures ∙ sym (nat_list_eq_equiv.symm (codes "application/x-www-form-urlencoded") c.args.media.now)
