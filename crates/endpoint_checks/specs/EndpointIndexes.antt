-- What an index of endpoints has: their places, by their templates, by the shapes of these, and by the names of the
-- definitions that documents show with them.
use Rattle.std.specs.Prelude.{◌≡◌, ◌⊎◌, ◌<◌, ℕ, IsTrue, List, map, All, Some, Contains, slice_get}
use Rattle.descriptors.specs.declared.table.Definition.{Definition}
use Rattle.descriptors.specs.Definitions.{entry_of}
use Rattle.path_templates.specs.Places.{IsIndexOf, places_at}
use Rattle.path_templates.specs.declared.place_index.PlaceIndex.{PlaceIndex}
use Rattle.api_declarations.specs.Keys.{shape_keys, template_keys}
use Rattle.api_declarations.specs.Values.{DeclarationValue}
use Rattle.endpoint_parameters.specs.Firsts.{IsSuchAt}
use Rattle.endpoint_checks.specs.declared.index.EndpointIndex.{EndpointIndex}

-- a place stands in an index at each of some keys
abbrev pub StandsAt : PlaceIndex → List (List ℕ) → ℕ → Type 0
StandsAt index keys place = All (λ key. Contains (places_at index key) place) keys

-- each of some things has its place in an index, at each of its keys; other places may stand there too
abbrev pub Covers : {A : Type 0} → (A → List (List ℕ)) → List A → PlaceIndex → Type 0
Covers {A} keys_of things index =
    (place : ℕ) (thing : A) → slice_get things place ≡ Some thing → StandsAt index (keys_of thing) place

-- each key has the places of before
abbrev pub HasSamePlaces : PlaceIndex → PlaceIndex → Type 0
HasSamePlaces old new = (key : List ℕ) → places_at new key ≡ places_at old key

-- so it is at each template, at each shape, and at each name of a definition
pub record IsAsBefore (old new : EndpointIndex) : Type 0 where
  pub templates : HasSamePlaces old.templates new.templates
  pub shapes : HasSamePlaces old.shapes new.shapes
  pub definitions : HasSamePlaces old.definitions new.definitions

-- documents show another endpoint in the versions of an endpoint, and it has the same definition
pub record StandsFor (e : DeclarationValue) (d : Definition) (other : DeclarationValue) : Type 0 where
  pub visible : IsTrue other.visible
  pub versions : other.versions ≡ e.versions
  pub same : entry_of other.shape.table d.name ≡ Some d

-- an endpoint before a place stands for the one there, and has its own place at the name of a definition
pub record IsStoodFor (es : List DeclarationValue) (index : PlaceIndex) (place : ℕ) (e : DeclarationValue) (d : Definition) : Type 0 where
  pub earlier : ℕ
  pub before : earlier < place
  pub stands : Contains (places_at index d.name) earlier
  pub other : IsSuchAt (StandsFor e d) es earlier

-- the place of an endpoint stands at the name of a definition, or an earlier endpoint stands for it
abbrev pub HasPlace : List DeclarationValue → PlaceIndex → ℕ → DeclarationValue → Definition → Type 0
HasPlace es index place e d = Contains (places_at index d.name) place ⊎ IsStoodFor es index place e d

-- so it is for each definition of each endpoint that documents show; other places may stand there too
abbrev pub CoversDefinitions : List DeclarationValue → PlaceIndex → Type 0
CoversDefinitions es index =
    (place : ℕ) (e : DeclarationValue) → slice_get es place ≡ Some e → IsTrue e.visible
    → All (HasPlace es index place e) e.shape.table

-- the name of a definition is among some names, or an earlier endpoint stands there for the one at a place
abbrev pub IsNamedOrStoodFor : List DeclarationValue → PlaceIndex → ℕ → DeclarationValue → List (List ℕ) → Definition → Type 0
IsNamedOrStoodFor es index place e names d = Contains names d.name ⊎ IsStoodFor es index place e d

-- An index is that of some endpoints: at each template it has the places of those that have it, and no others; at each
-- shape those at least, and at the name of each definition those that others do not stand for.
pub record IsIndexed (es : List DeclarationValue) (index : EndpointIndex) : Type 0 where
  pub templates : IsIndexOf (map template_keys es) index.templates
  pub shapes : Covers shape_keys es index.shapes
  pub definitions : CoversDefinitions es index.definitions
