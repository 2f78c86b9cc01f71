use Rattle.std.proofs.Common.{◌≡◌, ℕ, ◌+◌, ◌<◌, get_or, length, List, [], ◌∷◌, ◌++◌, map, take, sym, ap, ◌∙◌}
use Rattle.std.proofs.Common.{append_assoc}
use Rattle.std.proofs.lemmas.List.{map-append, take_more}
use Rattle.openapi_values.specs.declared.parameter.Parameter.{Parameter}
use Rattle.descriptors.specs.declared.desc.Field.{Field}
use Rattle.written_texts.specs.PageParameters.{scan_parameter}
use Rattle.api_documents.specs.declared.parameters.NamedParameter.{NamedParameter}
use Rattle.api_documents.proofs.parameters.page_parameters.Goals as goal

-- one more parameter shows one more field
one_more : (shown : Field → Parameter) (fields : List Field) (index : ℕ) (field : Field)
    → index < length fields → field ≡ get_or fields index field
    → (before named : List NamedParameter) (parameter : Parameter) → parameter ≡ shown field
    → map (λ n. n.parameter) named ≡ map (λ n. n.parameter) before ++ map shown (take index fields)
    → map (λ n. n.parameter) (named ++ (record { parameter = parameter }) ∷ [])
    ≡ map (λ n. n.parameter) before ++ map shown (take (index + 1) fields)
one_more shown fields index field inside at before named parameter is so_far =
    let here = take index fields in
    let last = ap (λ (f : Field). map shown (here ++ f ∷ [])) (sym at) in
    let next = ap (map shown) (take_more fields index field inside) ∙ last ∙ map-append shown here (field ∷ []) in
    let front = map (λ n. n.parameter) before in
    map-append (λ n. n.parameter) named ((record { parameter = parameter }) ∷ [])
    ∙ ap (λ (ps : List Parameter). ps ++ parameter ∷ []) so_far
    ∙ append_assoc front (map shown here) (parameter ∷ [])
    ∙ ap (λ (p : Parameter). front ++ (map shown here ++ p ∷ [])) is
    ∙ ap (λ (ps : List Parameter). front ++ ps) (sym next)

pub loop-field-preserved : goal.loop-field-preserved
loop-field-preserved c =
    let loop = c.loop-field in
    let field = c.field-item in
    let made = c.in_ok-parameter-3 in
    let shown = scan_parameter c.args.table.now in
    let inside = c.loop-field-test.true in
    ap (map (λ n. n.parameter)) c.in_ok-push-3.ensures.items
    ∙ one_more shown c.args.fields.now loop.field-index field.result inside field.is c.push-2.new.self.items
    loop.parameters.items made.parameter made.ensures loop.invariant
