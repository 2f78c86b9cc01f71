-- The index of some endpoints, and of one more.
use Rattle.std.proofs.Common.{◌≡◌, ℕ, List, [], ◌∷◌, ◌++◌, length, map, sym, subst, ◌∙◌}
use Rattle.std.specs.Prelude.{All, IsTrue}
use Rattle.std.proofs.lemmas.List.{length-map, map-append}
use Rattle.path_templates.specs.Places.{IsIndexOf, places_at, with_place}
use Rattle.path_templates.specs.Templates.{trimmed}
use Rattle.path_templates.proofs.CallerLemmas.{index-kept, index-push}
use Rattle.api_declarations.specs.Keys.{shape_keys, template_keys}
use Rattle.api_declarations.specs.Values.{DeclarationValue}
use Rattle.endpoint_checks.specs.EndpointIndexes.{HasPlace, IsAsBefore, IsIndexed, StandsAt}
use Rattle.endpoint_checks.specs.declared.index.EndpointIndex.{EndpointIndex}
use Rattle.endpoint_checks.proofs.Covering.{Keeps, covers_more, covers_still, keeps_same}
use Rattle.endpoint_checks.proofs.StandIns.{definitions_more, definitions_still}

-- it stays theirs, where it is as before
pub indexed_still : (es : List DeclarationValue) (old new : EndpointIndex) → IsIndexed es old → IsAsBefore old new → IsIndexed es new
indexed_still es old new is same = record {
  templates = index-kept (map template_keys es) old.templates new.templates same.templates is.templates;
  shapes = covers_still shape_keys es old.shapes new.shapes (keeps_same old.shapes new.shapes same.shapes) is.shapes;
  definitions = definitions_still es old.definitions new.definitions (keeps_same old.definitions new.definitions same.definitions) is.definitions;
}

module _ (es : List DeclarationValue) (old new : EndpointIndex) (is : IsIndexed es old) (shapes : Keeps old.shapes new.shapes) (definitions : Keeps old.definitions new.definitions) where
  -- it is that of one more, whose place is added at its template, stands at its shape, and at the names of its definitions, unless others stand for it there
  pub indexed_more : (e : DeclarationValue) (place : ℕ) → place ≡ length es → ((q : List ℕ) → places_at new.templates q ≡ with_place (places_at old.templates) (trimmed e.path) place q)
      → StandsAt new.shapes (shape_keys e) place → (IsTrue e.visible → All (HasPlace es new.definitions place e) e.shape.table) → IsIndexed (es ++ e ∷ []) new
  indexed_more e place is_end added at_shape has_places = record {
    templates =
        subst (λ (keys : List (List (List ℕ))). IsIndexOf keys new.templates) (sym (map-append template_keys es (e ∷ [])))
        (index-push (map template_keys es) (trimmed e.path) old.templates new.templates
        (subst (λ (n : ℕ). (q : List ℕ) → places_at new.templates q ≡ with_place (places_at old.templates) (trimmed e.path) n q) (is_end ∙ sym (length-map es template_keys)) added) is.templates);
    shapes = covers_more shape_keys es old.shapes new.shapes shapes is.shapes e (subst (StandsAt new.shapes (shape_keys e)) is_end at_shape);
    definitions =
        definitions_more es old.definitions new.definitions definitions is.definitions e
        (subst (λ (n : ℕ). IsTrue e.visible → All (HasPlace es new.definitions n e) e.shape.table) is_end has_places);
  }
