use Rattle.std.specs.Prelude.{IfOk, OnOk}
use Rattle.std.specs.declared.result.Result.{Result}
use Rattle.std.specs.declared.result.Result.TheVariants.{Ok, Err}
use Rattle.std.proofs.lemmas.Result.{IfOk-weaker, err_from_is_err_and}
use Rattle.request_lines.proofs.SaidLemmas.{line_length, two_say}
use Rattle.request_lines.proofs.request_head.line_of.Goals as goal

both_ok : {T E : Type 0} (r : Result T E) (P : Type 0) (Q : T → Type 0) → OnOk r P → IfOk r Q
    → IfOk r (λ x. P × Q x)
both_ok (Ok x) P Q p q = (p, q)
both_ok (Err e) P Q p q = tt

pub returns-in_ok-value-in-Some-clause-line : goal.returns-in_ok-value-in-Some-clause-line
returns-in_ok-value-in-Some-clause-line c =
    let name = c.in_ok-name-in-Some.name in
    let value = c.in_ok-value-in-Some.value in
    let says = two_say c.args.json c.in-List.items c.in-Some.name c.in-Some.value c.in-List.is c.in-Some.ensures.two
    name value c.in_ok-name-in-Some.ensures.text c.in_ok-value-in-Some.ensures.text in
    IfOk-weaker c.header_line.result _ _ (λ made is. ((name, value), says, is))
    (both_ok c.header_line.result _ _ c.header_line.ensures.field c.header_line.ensures.line)

pub returns-in_err-name-in-Some-clause-memory : goal.returns-in_err-name-in-Some-clause-memory
returns-in_err-name-in-Some-clause-memory c memory =
    let made = err_from_is_err_and c.from_residual.result c.from_residual.ensures.1 in
    absurd (cc (made.1, made.2, memory, c.in_err-name-in-Some.ensures.told))

pub returns-in_err-value-in-Some-clause-memory : goal.returns-in_err-value-in-Some-clause-memory
returns-in_err-value-in-Some-clause-memory c memory =
    let residual = c.from_residual-in_err-value-in-Some in
    let made = err_from_is_err_and residual.result residual.ensures.1 in
    absurd (cc (made.1, made.2, memory, c.in_err-value-in-Some.ensures.told))

pub returns-in_ok-value-in-Some-clause-memory : goal.returns-in_ok-value-in-Some-clause-memory
returns-in_ok-value-in-Some-clause-memory c memory =
    let name = c.in_ok-name-in-Some.name in
    let value = c.in_ok-value-in-Some.value in (
      (name, value),
      two_say c.args.json c.in-List.items c.in-Some.name c.in-Some.value c.in-List.is c.in-Some.ensures.two name value
          c.in_ok-name-in-Some.ensures.text c.in_ok-value-in-Some.ensures.text,
    )

pub returns-in-None-clause-bad : goal.returns-in-None-clause-bad
returns-in-None-clause-bad c bad made of =
    let (line, says, field) = of in
    c.in-None.ensures.other (line_length c.args.json c.in-List.items line c.in-List.is says)
