use Rattle.std.proofs.Common.{◌∙◌, ap}
use Rattle.std.proofs.lemmas.Result.{err_from_is_err_and}
use Rattle.std.proofs.lemmas.Str.{encodes-chars}
use Rattle.std.specs.Str.{encode_utf8_all}
use Rattle.api_extract.specs.PageQueries.{as_choice, bytes_told}
use Rattle.api_extract.proofs.Told.{choice_err}
use Rattle.api_extract.proofs.pages.decode_later_page.Goals as goal

pub returns-in_err-tree : goal.returns-in_err-tree
returns-in_err-tree c =
    let token = ap encode_utf8_all c.as_str.ensures ∙ encodes-chars c.as_str.result.now c.as_str.utf8 in
    let p = err_from_is_err_and c.from_residual.result c.from_residual.ensures.1 in
    rw (token, p.1, p.2) (choice_err 1 (bytes_told c.args.selector_table.now c.args.selector.now c.as_str.result.now) c.in_err-tree.field-0.0 c.in_err-tree.ensures)

pub returns : goal.returns
returns c =
    let token = ap encode_utf8_all c.as_str.ensures ∙ encodes-chars c.as_str.result.now c.as_str.utf8 in
    rw (token, c.in_ok-new.ensures) (ap (as_choice 1) c.in_ok-tree.ensures)
