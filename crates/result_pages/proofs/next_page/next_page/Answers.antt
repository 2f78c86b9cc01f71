use Rattle.std.proofs.Common.{[]}
use Rattle.api_types.specs.Additions.{with_all}
use Rattle.page_tokens.specs.Forms.{v1}
use Rattle.result_pages.specs.NextPages.{Selects}
use Rattle.page_tokens.specs.Tokens.{token_of}
use Rattle.result_pages.proofs.NextPages.{no_token_told, selects_last}
use Rattle.result_pages.proofs.next_page.next_page.Goals as goal

pub returns-in_err-selector_token-in-Some-clause-refused : goal.returns-in_err-selector_token-in-Some-clause-refused
returns-in_err-selector_token-in-Some-clause-refused g c =
    let selector = c.in_ok-selector-in-Some.selector in
    no_token_told (Selects g.F.Fn c.args.get_page_selector c.args.scan_params.now) (λ p. token_of v1 (with_all [] g.P.ApiType.definitions_of) g.P.ApiType.desc_of (g.P.ApiType.tree_of p)) c.args.items.now selector
    (selects_last g.F.Fn c.args.get_page_selector c.args.alloc c.args.scan_params c.args.items.now c.in-Some.item selector c.in-Some.ensures.value c.in_ok-selector-in-Some.ensures)
    c.from_residual-in_err-selector_token-in-Some.result c.in_err-selector_token-in-Some.field-0.0 c.from_residual-in_err-selector_token-in-Some.ensures.1 c.in_err-selector_token-in-Some.ensures.refused

pub returns-in-Some-clause-next_page : goal.returns-in-Some-clause-next_page
returns-in-Some-clause-next_page g c =
    let selector = c.in_ok-selector-in-Some.selector in (
      selector,
      selects_last g.F.Fn c.args.get_page_selector c.args.alloc c.args.scan_params c.args.items.now c.in-Some.item selector c.in-Some.ensures.value c.in_ok-selector-in-Some.ensures,
      c.in_ok-selector_token-in-Some.ensures.token,
      c.in_ok-selector_token-in-Some.ensures.small,
    )
