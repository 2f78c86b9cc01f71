-- Each of the answers is the only one.
use Rattle.std.proofs.Common.{◌≡◌, ℕ, List, [], ◌∷◌, Option, Some, None, Result, Ok, Err, IfOk, refl, sym, subst}
use Rattle.schema_values.specs.declared.schema.Schema.{Schema}
use Rattle.schema_util.specs.References.{Unresolved, Names, follow, reference_of, ComesTo, stays, breaks, goes_on}
use Rattle.schema_util.specs.Scalars.{Asked, texts}
use Rattle.schema_util.specs.Scalars as scalars

-- what a schema comes to, by its reference and the step along it
module _ (names : Names) (met : List (List ℕ)) where
  abbrev pub Next : (List (List ℕ) → Schema → Type 0) → (Unresolved → Type 0) → Result (List ℕ × Schema) Unresolved → Type 0
  Next goes unresolved (Ok (name, next)) = goes (name ∷ met) next
  Next goes unresolved (Err why) = unresolved why

  abbrev EndOf : Schema → Result Schema Unresolved → Option (List ℕ) → Type 0
  EndOf schema end None = end ≡ Ok schema
  EndOf schema end (Some text) = Next (λ more next. ComesTo names more next end) (λ why. end ≡ Err why) (follow names met text)

  ends : {schema : Schema} {end : Result Schema Unresolved} → ComesTo names met schema end → EndOf schema end (reference_of schema)
  ends (stays e) = rw e refl
  ends (breaks text why e f) = rw (e, f) refl
  ends (goes_on text name next end e f more) = rw (e, f) more

pub comes_to_once : (names : Names) {met : List (List ℕ)} {schema : Schema} {one other : Result Schema Unresolved} → ComesTo names met schema one → ComesTo names met schema other → one ≡ other
comes_to_once names {met} (stays e) second = sym (rw e at (ends names met second))
comes_to_once names {met} (breaks text why e f) second = sym (rw (e, f) at (ends names met second))
comes_to_once names {met} (goes_on text name next end e f more) second = comes_to_once names more (rw (e, f) at (ends names met second))

-- what a schema comes to is no reference
pub no_reference : (names : Names) {met : List (List ℕ)} {schema : Schema} {end : Result Schema Unresolved} → ComesTo names met schema end → IfOk end (λ found. reference_of found ≡ None)
no_reference names (stays e) = e
no_reference names (breaks text why e f) = tt
no_reference names (goes_on text name next end e f more) = no_reference names more

-- the first fault of a schema, by what a test finds in it
module _ (asked : Asked) (names : Names) (met : List (List ℕ)) where
  abbrev FaultBy : Option scalars.Fault → scalars.SchemaFinding → Type 0
  FaultBy fault scalars.fits = fault ≡ None
  FaultBy fault scalars.differs = fault ≡ Some (scalars.mismatch asked)
  FaultBy fault (scalars.refers text) = Next names met (λ more next. scalars.FirstFault asked names more next fault) (λ why. fault ≡ Some (scalars.unresolved why)) (follow names met text)
  FaultBy fault (scalars.has_members members) = scalars.FirstFaultAmong asked names met members fault

  fault_found : {schema : Schema} {fault : Option scalars.Fault} → scalars.FirstFault asked names met schema fault → FaultBy fault (scalars.finding asked schema)
  fault_found (scalars.accepted e) = rw e refl
  fault_found (scalars.rejected e) = rw e refl
  fault_found (scalars.breaks text why e f) = rw (e, f) refl
  fault_found (scalars.goes_on text name next fault e f more) = rw (e, f) more
  fault_found (scalars.of_members members fault e all) = rw e all

mutual
  pub first_fault_once : (asked : Asked) (names : Names) {met : List (List ℕ)} {schema : Schema} {one other : Option scalars.Fault}
      → scalars.FirstFault asked names met schema one → scalars.FirstFault asked names met schema other → one ≡ other
  first_fault_once asked names {met} (scalars.accepted e) second = sym (rw e at (fault_found asked names met second))
  first_fault_once asked names {met} (scalars.rejected e) second = sym (rw e at (fault_found asked names met second))
  first_fault_once asked names {met} (scalars.breaks text why e f) second = sym (rw (e, f) at (fault_found asked names met second))
  first_fault_once asked names {met} (scalars.goes_on text name next fault e f more) second = first_fault_once asked names more (rw (e, f) at (fault_found asked names met second))
  first_fault_once asked names {met} (scalars.of_members members fault e all) second = first_fault_among_once asked names all (rw e at (fault_found asked names met second))

  first_fault_among_once : (asked : Asked) (names : Names) {met : List (List ℕ)} {members : List Schema} {one other : Option scalars.Fault}
      → scalars.FirstFaultAmong asked names met members one → scalars.FirstFaultAmong asked names met members other → one ≡ other
  first_fault_among_once asked names scalars.none_left scalars.none_left = refl
  first_fault_among_once asked names (scalars.at_first fault first) (scalars.at_first other second) = first_fault_once asked names first second
  first_fault_among_once asked names (scalars.at_first fault first) (scalars.at_rest other second rest) = let q = first_fault_once asked names first second in absurd (cc q)
  first_fault_among_once asked names (scalars.at_rest fault first rest) (scalars.at_first other second) = let q = first_fault_once asked names first second in absurd (cc q)
  first_fault_among_once asked names (scalars.at_rest fault first rest) (scalars.at_rest other second more) = first_fault_among_once asked names rest more

-- a list's fault
pub list_fault_once : (names : Names) {schema : Schema} {one other : Option scalars.Fault}
    → scalars.FirstFaultOfList names schema one → scalars.FirstFaultOfList names schema other → one ≡ other
list_fault_once names (scalars.is_unresolved why end) (scalars.is_unresolved why2 end2) =
    let q = comes_to_once names end end2 in cc q
list_fault_once names (scalars.is_unresolved why end) (scalars.no_list found end2 none) = let q = comes_to_once names end end2 in absurd (cc q)
list_fault_once names (scalars.is_unresolved why end) (scalars.of_items found item fault end2 is told) = let q = comes_to_once names end end2 in absurd (cc q)
list_fault_once names (scalars.no_list found end none) (scalars.is_unresolved why end2) = let q = comes_to_once names end end2 in absurd (cc q)
list_fault_once names (scalars.no_list found end none) (scalars.no_list found2 end2 none2) = refl
list_fault_once names (scalars.no_list found end none) (scalars.of_items found2 item fault end2 is told) =
    let q = comes_to_once names end end2 in absurd (cc (q, none, is))
list_fault_once names (scalars.of_items found item fault end is told) (scalars.is_unresolved why end2) = let q = comes_to_once names end end2 in absurd (cc q)
list_fault_once names (scalars.of_items found item fault end is told) (scalars.no_list found2 end2 none) =
    let q = comes_to_once names end end2 in absurd (cc (q, none, is))
list_fault_once names (scalars.of_items found item fault end is told) (scalars.of_items found2 item2 fault2 end2 is2 told2) =
    let q = comes_to_once names end end2 in
    let same : item2 ≡ item = cc (q, is, is2) in
    first_fault_once texts names told (subst (λ i. scalars.FirstFault texts names [] i fault2) same told2)
