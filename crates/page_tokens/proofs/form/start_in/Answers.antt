use Rattle.std.proofs.Common.{◌∙◌, ap, sym, Some}
use Rattle.page_tokens.proofs.Starts.{no_version, other_version, start_found}
use Rattle.page_tokens.proofs.form.start_in.Goals as goal

pub returns-in-None : goal.returns-in-None
returns-in-None c = no_version c.args.object.now (sym c.in-None.ensures)

pub returns-then-is_text : goal.returns-then-is_text
returns-then-is_text c =
    start_found (λ start. start.now) c.member-then-is_text.result c.args.object.now (sym c.in-Some.ensures ∙ ap Some (c.is_text.ensures.0 c.if-is_text.true)) c.member-then-is_text.ensures

pub returns-else-is_text : goal.returns-else-is_text
returns-else-is_text c =
    other_version c.args.object.now c.in-Some.version.now (sym c.in-Some.ensures) (λ is. absurd (cc (c.is_text.ensures.1 is, c.if-is_text.false)))
