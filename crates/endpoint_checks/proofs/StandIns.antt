-- Endpoints that have a place at the names of their definitions, or another that stands for them there.
use Rattle.std.proofs.Common.{inl, inr, ℕ, List, [], ◌∷◌, ◌++◌, length, map, sym, ◌∙◌, ap, subst}
use Rattle.std.specs.Prelude.{All, Contains, IsTrue, option_map}
use Rattle.std.proofs.lemmas.List.Elements.{All-weaker}
use Rattle.std.proofs.lemmas.Option.{slice_get-map, slice_get_within}
use Rattle.descriptors.specs.declared.table.Definition.{Definition}
use Rattle.path_templates.specs.Places.{places_at}
use Rattle.path_templates.specs.declared.place_index.PlaceIndex.{PlaceIndex}
use Rattle.api_declarations.specs.Values.{DeclarationValue}
use Rattle.endpoint_parameters.specs.Firsts.{IsSuchAtOneOf}
use Rattle.endpoint_checks.specs.EndpointIndexes.{CoversDefinitions, HasPlace, IsNamedOrStoodFor, IsStoodFor, StandsFor}
use Rattle.endpoint_checks.proofs.Covering.{Keeps, before_or_last, stands_before}

-- an endpoint that has its place stands for one behind all of them
pub stood_for : {A : Type 0} (declared : A → DeclarationValue) (before : List A) (index : PlaceIndex) (e : DeclarationValue) (d : Definition)
    → IsSuchAtOneOf (λ x. StandsFor e d (declared x)) before (places_at index d.name) → IsStoodFor (map declared before) index (length before) e d
stood_for declared before index e d found =
    let other = found.2 in record {
      earlier = found.0;
      before = slice_get_within before found.0 other.thing other.found;
      stands = found.1;
      other = record {
        thing = declared other.thing;
        found = slice_get-map declared before found.0 ∙ ap (option_map declared) other.found;
        holds = other.holds;
      };
    }

module _ (es : List DeclarationValue) (old new : PlaceIndex) (kept : Keeps old new) where
  -- a place stays, where none is lost
  pub place_still : (place : ℕ) (e : DeclarationValue) (d : Definition) → HasPlace es old place e d → HasPlace es new place e d
  place_still place e d has = elim has [
    | inl at ↦ inl (kept d.name place at)
    | inr s ↦ inr record { earlier = s.earlier; before = s.before; stands = kept d.name s.earlier s.stands; other = s.other }
  ]

  -- it stands where the name is one at which it was added, or another stands for it there
  pub place_or_stand_in : (place : ℕ) (e : DeclarationValue) (names : List (List ℕ)) → ((name : List ℕ) → Contains names name → Contains (places_at new name) place)
      → (d : Definition) → IsNamedOrStoodFor es old place e names d → HasPlace es new place e d
  place_or_stand_in place e names added d has = elim has [
    | inl named ↦ inl (added d.name named)
    | inr s ↦ place_still place e d (inr s)
  ]

  module _ (covers : CoversDefinitions es old) where
    pub definitions_still : CoversDefinitions es new
    definitions_still place e found visible = All-weaker (HasPlace es old place e) (HasPlace es new place e) (place_still place e) e.shape.table (covers place e found visible)

    -- with one endpoint more, which has places too
    pub definitions_more : (x : DeclarationValue) → (IsTrue x.visible → All (HasPlace es new (length es) x) x.shape.table) → CoversDefinitions (es ++ x ∷ []) new
    definitions_more x added place e found visible =
        let Before = λ (n : ℕ) (y : DeclarationValue) (d : Definition). HasPlace es new n y d in
        elim (before_or_last es x place e found) [
          | inl before ↦ All-weaker (Before place e) (HasPlace (es ++ x ∷ []) new place e) more e.shape.table (definitions_still place e before visible)
          | inr last ↦
              let own : All (Before (length es) e) e.shape.table =
              subst (λ (y : DeclarationValue). IsTrue y.visible → All (Before (length es) y) y.shape.table) last.1 added visible in
              All-weaker (Before place e) (HasPlace (es ++ x ∷ []) new place e) more e.shape.table (subst (λ (n : ℕ). All (Before n e) e.shape.table) (sym last.0) own)
        ]
      where
        more : (d : Definition) → HasPlace es new place e d → HasPlace (es ++ x ∷ []) new place e d
        more d has = elim has [
          | inl at ↦ inl at
          | inr s ↦ inr record {
            earlier = s.earlier;
            before = s.before;
            stands = s.stands;
            other = record { thing = s.other.thing; found = stands_before es (x ∷ []) s.earlier s.other.thing s.other.found; holds = s.other.holds };
          }
        ]
