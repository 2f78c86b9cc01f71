use Rattle.std.proofs.Common.{◌≡◌, ◌≤◌, ◌<◌, ◌+◌, ◌-◌, ◌++◌, ℕ, length, get_or, take, drop, chars, refl, sym, ap, ◌∙◌, subst, arith}
use Rattle.std.proofs.Transfers.{starts_with_of_eq, starts_with_trans}
use Rattle.std.specs.List.{flat_map}
use Rattle.std.proofs.lemmas.Str.{IsCharBoundary-start, IsCharBoundary-after_ascii}
use Rattle.schema_values.specs.Print.{escape}
use Rattle.schema_values.specs.Quoting.{IsUnescaped}
use Rattle.schema_values.proofs.Begun.{begins_more}
use Rattle.schema_values.proofs.Results.{on_err}
use Rattle.schema_values.proofs.Quoted.{low_mark, run_ends, run_joined, run_written}
use Rattle.schema_values.proofs.quoting.write_characters.Goals as goal

pub loop-out-init : goal.loop-out-init
loop-out-init c = (omega arith, IsCharBoundary-start c.args.text.now c.utf8.text, refl, starts_with_of_eq c.args.out.now c.args.out.now refl)

pub returns-then-at-text-clause-ok : goal.returns-then-at-text-clause-ok
returns-then-at-text-clause-ok c =
    let l = c.loop-out in
    let text = c.args.text.now in
    let ran = c.end_of_run-at.ensures in
    let plain : (k : ℕ) → l.from ≤ k → k < c.end_of_run-at.result → IsUnescaped (get_or text k 0) = λ k a b. subst (λ bs. IsUnescaped (get_or bs k 0)) c.as_bytes.ensures.value (ran.unescaped k a b) in
    let run = ap chars c.range.ensures.value ∙ sym (run_ends text l.from c.end_of_run-at.result c.utf8.text ran.from c.if-at-text.true l.invariant.1 plain) in
    c.in_ok-push_str.ensures.ok ∙ ap (λ more. l.out ++ more) run ∙ l.invariant.2

pub loop-out-preserved : goal.loop-out-preserved
loop-out-preserved c =
    let l = c.loop-out in
    let text = c.args.text.now in
    let at = c.end_of_run-at.result in
    let ran = c.end_of_run-at.ensures in
    let same = c.as_bytes.ensures.value in
    let plain : (k : ℕ) → l.from ≤ k → k < at → IsUnescaped (get_or text k 0) = λ k a b. subst (λ bs. IsUnescaped (get_or bs k 0)) same (ran.unescaped k a b) in
    let within : at < length text = omega (arith, ran.within, c.if-at-text.false, ap (λ bs. length bs) same) in
    let marked : IsUnescaped (get_or text at 0) → ⊥ = subst (λ bs. IsUnescaped (get_or bs at 0) → ⊥) same (ran.marked (omega (arith, within, ap (λ bs. length bs) same))) in
    let low = low_mark (get_or text at 0) marked in
    let mark : c.from.result ≡ get_or text at 0 = c.from.ensures ∙ ap (λ bs. get_or bs at 0) c.as_bytes-in-loop-out.ensures.value in
    let rest = flat_map escape (chars (drop (at + 1) text)) in
    let written : c.write_escaped.new.out ≡ (l.out ++ chars (take (at - l.from) (drop l.from text))) ++ escape (get_or text at 0) =
    c.in_ok-write_escaped.ensures.ok ∙ ap (λ out. out ++ escape c.from.result) (c.in_ok-push_str.ensures.ok ∙ ap (λ bs. l.out ++ chars bs) c.range.ensures.value)
    ∙ ap (λ b. (l.out ++ chars (take (at - l.from) (drop l.from text))) ++ escape b) mark in (
      omega (arith, within),
      IsCharBoundary-after_ascii text at c.utf8.text within low,
      ap (λ out. out ++ rest) written ∙ run_joined l.out _ _ rest
          ∙ ap (λ more. l.out ++ more) (sym (run_written text l.from at c.utf8.text ran.from within l.invariant.1 low plain)) ∙ l.invariant.2,
      begins_more c.args.out.now c.push_str.new.self _ c.write_escaped.new.out c.in_ok-write_escaped.ensures.ok
          (begins_more c.args.out.now l.out _ c.push_str.new.self c.in_ok-push_str.ensures.ok l.invariant.3),
    )

pub returns-in_err-push_str-clause-err : goal.returns-in_err-push_str-clause-err
returns-in_err-push_str-clause-err c =
    on_err c.from_residual.result _ (λ _. rw c.in_err-push_str.ensures.err c.loop-out.invariant.3)

pub returns-in_err-write_escaped-clause-err : goal.returns-in_err-write_escaped-clause-err
returns-in_err-write_escaped-clause-err c =
    let begun =
    begins_more c.args.out.now c.loop-out.out _ c.push_str.new.self c.in_ok-push_str.ensures.ok c.loop-out.invariant.3 in
    on_err c.from_residual-in_err-write_escaped.result _ (λ _.
    starts_with_trans c.write_escaped.new.out c.push_str.new.self c.args.out.now c.in_err-write_escaped.ensures.err begun)
