use Rattle.std.proofs.Common.{◌≡◌, ◌≢◌, Some, None, sym, ◌∙◌, [], ◌∷◌, ◌++◌, arith, ap}
use Rattle.std.proofs.lemmas.Str.Pattern.{strip_suffix_char}
use Rattle.path_templates.proofs.Slashes.{trimmed-append, trimmed-other}
use Rattle.path_templates.proofs.template.without_slash.Goals as goal

pub returns-in-Some : goal.returns-in-Some
returns-in-Some c =
    let ends : c.args.path.now ≡ c.in-Some.front.now ++ 47 ∷ [] = strip_suffix_char 47 c.args.path.now (Some c.in-Some.front) c.in-Some.ensures.cases (omega arith) in
    let some : c.in-Some.front.now ≢ [] = λ e. grind (arith, c.if-eq.ensures, ends ∙ ap (λ front. front ++ 47 ∷ []) e) in
    rw ends (sym (trimmed-append c.in-Some.front.now some))

pub returns-in-None : goal.returns-in-None
returns-in-None c = sym (trimmed-other c.args.path.now (strip_suffix_char 47 c.args.path.now None c.in-None.ensures.cases (omega arith)))
