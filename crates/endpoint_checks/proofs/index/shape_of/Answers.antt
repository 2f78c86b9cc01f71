use Rattle.std.proofs.Common.{[], ◌∷◌, ◌++◌, List, ℕ, ap, sym, ◌∙◌}
use Rattle.path_templates.specs.Shapes.{path_shape}
use Rattle.api_declarations.specs.Keys.{key_if}
use Rattle.api_declarations.specs.Values.{DeclarationValue}
use Rattle.endpoint_checks.proofs.index.shape_of.Goals as goal

pub returns-in_ok-push-in-Some : goal.returns-in_ok-push-in-Some
returns-in_ok-push-in-Some c =
    let has = sym c.in-Some.is ∙ c.in_ok-shape.ensures ∙ ap (λ (d : DeclarationValue). path_shape d.path) c.endpoint.view_is in
    c.in_ok-push-in-Some.ensures.ok ∙ ap (λ (keys : List (List ℕ)). keys ++ c.in-Some.shape ∷ []) c.new-keys.ensures ∙ ap key_if has

pub returns-in-None : goal.returns-in-None
returns-in-None c =
    let none = sym c.in-None.is ∙ c.in_ok-shape.ensures ∙ ap (λ (d : DeclarationValue). path_shape d.path) c.endpoint.view_is in
    c.new-keys.ensures ∙ ap key_if none
