use Rattle.std.proofs.Common.{◌≡◌, ℕ, ◌+◌, ◌<◌, List, ◌∷◌, length, drop, fold, [], arith, get_or, map, filter, suc}
use Rattle.std.proofs.Common.{Bool, true, false, cond, refl, sym, ◌∙◌, ap, add-one}
use Rattle.std.proofs.Math.ListN.{drop_of_length-le}
use Rattle.std.proofs.Math.Seq.{drop-cons}
use Rattle.schema_values.specs.declared.json_value.Json.{Json}
use Rattle.descriptors.specs.declared.table.Definition.{Definition}
use Rattle.api_documents.specs.Components.{schema_entries, schema_entry}
use Rattle.api_documents.specs.Ordered.{is_among, with_entry}
use Rattle.api_documents.proofs.components.add_schemas.Goals as goal
use Rattle.api_documents.proofs.components.add_schemas.Goals.{then-contains+in_ok-add_schema, else-contains}

abbrev Entries : Type 0
Entries = List (List ℕ × Json)

-- of one more definition the schema is added where it is to be
module _ (schema : Definition → List ℕ × Json) (is_added : Definition → Bool) where
  abbrev with_all : Entries → List Definition → Entries
  with_all entries ds = fold with_entry entries (map schema (filter is_added ds))

  abbrev if_added : Bool → Entries → Definition → Entries
  if_added b entries d = cond b (with_entry entries (schema d)) entries

  by_test : (b : Bool) (entries : Entries) (d : Definition) (ds : List Definition)
      → fold with_entry entries (map schema (cond b (d ∷ filter is_added ds) (filter is_added ds)))
      ≡ with_all (if_added b entries d) ds
  by_test true entries d ds = refl
  by_test false entries d ds = refl

  with_next : (entries later : Entries) (ds : List Definition) (i : ℕ) (d : Definition) → i < length ds
      → d ≡ get_or ds i d → later ≡ if_added (is_added d) entries d
      → with_all entries (drop i ds) ≡ with_all later (drop (i + 1) ds)
  with_next entries later ds i d inside at is =
      ap (with_all entries)
      (drop-cons ds i d inside ∙ ap (λ (first : Definition). first ∷ drop (suc i) ds) (sym at))
      ∙ by_test (is_added d) entries d (drop (suc i) ds)
      ∙ rw (is, add-one) refl

pub loop-definition-preserved : goal.loop-definition-preserved
loop-definition-preserved c =
    let loop = c.loop-definition in
    let item = c.definition-item in
    let d = item.result in
    let schema = schema_entry c.declaration.inside.shape.now.table in
    let is_added : Definition → Bool = λ x. is_among x.name c.in_ok-names.names.keys in
    let added = λ (b : Bool). if_added schema is_added b loop.schemas.entries d in
    let later : c.if-contains.schemas.entries ≡ added (is_added d) = elim c.if-contains.branch [
      | then-contains+in_ok-add_schema w ↦
          let named : is_added d ≡ true = sym c.contains.ensures ∙ w.if-contains.true in
          rw (w.schemas-is, w.in_ok-add_schema.ensures) (sym (ap added named))
      | else-contains w ↦
          let other : is_added d ≡ false = sym c.contains.ensures ∙ w.if-contains.false in
          rw w.schemas-is (sym (ap added other))
    ] in
    loop.invariant
    ∙ with_next schema is_added loop.schemas.entries c.if-contains.schemas.entries
    c.definitions-definition-items.result.now loop.definition-index d c.loop-definition-test.true item.is later

pub returns : goal.returns
returns c =
    let loop = c.loop-definition in
    let before = c.args.schemas.now.entries in
    let items = c.definitions-definition-items in
    let ds = items.result.now in
    let schema = schema_entry c.declaration.inside.shape.now.table in
    let is_added : Definition → Bool = λ x. is_among x.name c.in_ok-names.names.keys in
    let ended : drop loop.definition-index ds ≡ [] =
    drop_of_length-le ds (omega (arith, c.loop-definition-test.false)) in
    let all = loop.invariant ∙ ap (with_all schema is_added loop.schemas.entries) ended in
    let same : with_all schema is_added before ds ≡ fold with_entry before (schema_entries c.args.declaration.now) =
    rw (c.in_ok-names.ensures, items.ensures.items, ← c.declaration.view_is) refl in
    sym all ∙ same
