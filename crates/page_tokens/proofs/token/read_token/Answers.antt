use Rattle.std.proofs.Common.{◌≡◌, ◌≤◌, ◌∙◌, ap, length, List, rules, subst, sym, ℕ}
use Rattle.std.proofs.lemmas.Result.{IfErr-weaker}
use Rattle.std.specs.declared.result.Result.TheVariants.{Ok}
use Rattle.base64.specs.Engines.{url_safe}
use Rattle.base64.specs.GeneralPurpose.{decode_of}
use Rattle.page_tokens.specs.Forms.{v1}
use Rattle.page_tokens.specs.Tokens.{HoldsStart}
use Rattle.page_tokens.proofs.Held.{token_refused, tree_told}
use Rattle.page_tokens.proofs.token.read_token.Goals as goal

pub returns-clause-complete : goal.returns-clause-complete
returns-clause-complete c tree reads =
    let same : reads.bytes ≡ c.deref.result.now = cc (reads.decodes, c.in_ok-bytes.ensures.ok ∙ ap Ok (sym c.deref.ensures.value)) in
    tree_told c.args.table.now c.args.selector.now c.deref.result.now tree (subst (λ (bytes : List ℕ). HoldsStart v1 c.args.table.now c.args.selector.now bytes tree) same reads.holds)
    c.held_tree.result c.held_tree.ensures.holds c.held_tree.ensures.refused

pub returns-clause-refused : goal.returns-clause-refused
returns-clause-refused c =
    let decodes : decode_of url_safe c.args.token.now ≡ Ok c.deref.result.now = c.in_ok-bytes.ensures.ok ∙ ap Ok (sym c.deref.ensures.value) in
    let small : length c.args.token.now ≤ 512 = search rules in
    IfErr-weaker c.held_tree.result _ _
    (λ error refused. token_refused v1 c.args.table.now c.args.selector.now c.args.token.now c.deref.result.now decodes small error refused) c.held_tree.ensures.refused
