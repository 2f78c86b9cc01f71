use Rattle.std.proofs.Common.{◌≡◌, ℕ, List, [], Option, sym, subst, ◌∙◌, ap}
use Rattle.std.proofs.lemmas.Str.{encodes-chars}
use Rattle.std.specs.Prelude.{IfOk, unwrap_or}
use Rattle.std.specs.Str.{chars, encode_utf8_all}
use Rattle.http_uri.specs.Uri.{uri_query}
use Rattle.request_parts.specs.Requests.{Request}
use Rattle.request_words.specs.declared.pairs.NamedText.{NamedText}
use Rattle.request_words.specs.Pairs.{form_pairs}
use Rattle.api_extract.proofs.NamedPairs.{or_else}
use Rattle.api_extract.proofs.queries.pairs_of.Goals as goal

pub returns : goal.returns
returns c =
    let text = c.unwrap_or-query.result.now in
    let query = ap (λ t. t.now) c.unwrap_or-query.ensures ∙ or_else c.query.result _ ∙ ap (λ (o : Option (List ℕ)). unwrap_or o []) (c.query.ensures.value ∙ ap uri_query (c.uri.ensures ∙ ap (λ (request : Request). request.info.uri) c.request.view_is)) in
    let bytes = c.as_bytes.ensures.value ∙ sym (encodes-chars text c.unwrap_or-query.utf8) ∙ ap (λ (bytes : List ℕ). encode_utf8_all (chars bytes)) query in
    subst (λ (pairs : List NamedText). IfOk c.form_pairs.result (λ p. p ≡ pairs)) (ap form_pairs bytes) c.form_pairs.ensures
