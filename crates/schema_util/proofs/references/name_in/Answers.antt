use Rattle.std.proofs.Common.{◌≡◌, ℕ, List, Bor, Option, Some, None, MatchOption, Bool, true, false, cond, length, drop, sym, ap, ◌∙◌, subst}
use Rattle.std.proofs.lemmas.Str.Pattern.{starts_text}
use Rattle.std.specs.Option.{option_copied}
use Rattle.std.specs.Str.{IsCharBoundary}
use Rattle.std.specs.Str.Pattern.{FindsTextPrefix, StripsPrefix}
use Rattle.schema_util.specs.References.{name_in, definitions_prefix}
use Rattle.schema_util.proofs.references.name_in.Goals as goal

stripped : (text : List ℕ) (r : Option (Bor (List ℕ))) → MatchOption r (FindsTextPrefix definitions_prefix text None) (λ x. StripsPrefix (FindsTextPrefix definitions_prefix) text x.now) → option_copied r ≡ name_in text
stripped text None h = ap (λ (b : Bool). cond b (Some (drop (length definitions_prefix) text)) None) (starts_text false definitions_prefix text h)
stripped text (Some x) (k, (at_end, front, cut), rest, len) =
    ap Some (rest ∙ ap (λ (n : ℕ). drop n text) at_end)
    ∙ ap (λ (b : Bool). cond b (Some (drop (length definitions_prefix) text)) None) (starts_text true definitions_prefix text (k, (at_end, front, cut), subst (IsCharBoundary text) (sym at_end) cut))

pub returns : goal.returns
returns c = stripped c.args.reference.now c.strip_prefix.result c.strip_prefix.ensures.cases
