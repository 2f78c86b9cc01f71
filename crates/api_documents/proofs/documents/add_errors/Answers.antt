use Rattle.std.proofs.Common.{ℕ, List, [], Option, Bor, sym, ◌∙◌}
use Rattle.handler_shapes.specs.ShapeChecks.{ShapePasses}
use Rattle.path_templates.specs.Places.{first_at}
use Rattle.api_declarations.specs.Values.{DeclarationValue}
use Rattle.api_documents.specs.Places.{has_method}
use Rattle.api_documents.proofs.DocumentParts.{first_passes}
use Rattle.api_documents.proofs.ErrorLoops.{none_added, one_added}
use Rattle.api_documents.proofs.documents.add_errors.Goals as goal
use Rattle.api_documents.proofs.documents.add_errors.Goals.{in-Some+in_ok-add_error, in_default}

pub add_error-requires : goal.add_error-requires
add_error-requires c =
    (first_passes (λ d. ShapePasses d.shape) _ c.args.declarations.now c.requires c.args.places.now
    c.in-Some.declaration.now (sym c.in-Some.ensures)).table

pub loop-method-preserved : goal.loop-method-preserved
loop-method-preserved c =
    let found : List ℕ → Option DeclarationValue =
    λ method. first_at (has_method method) c.args.declarations.now c.args.places.now in
    let text : Bor (List ℕ) → List ℕ = λ m. m.now in
    let none : Bor (List ℕ) = record { ref_ptr = (0, 0); now = [] } in
    let i = c.loop-method.method-index in
    let named = c.loop-method.named in
    elim c.match-at_method.branch [
      | in-Some+in_ok-add_error w ↦
          c.loop-method.invariant
          ∙ one_added found text _ i none c.loop-method-test.true named w.in-Some.declaration.now
          c.match-at_method.named
          (sym w.in-Some.ensures) (w.named-is ∙ w.in_ok-add_error.ensures)
      | in_default w ↦
          c.loop-method.invariant
          ∙ none_added found text _ i none c.loop-method-test.true named c.match-at_method.named
          (sym w.in_default.ensures) w.named-is
    ]
