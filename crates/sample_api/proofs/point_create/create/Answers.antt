use Rattle.std.proofs.Common.{◌≡◌, ◌∷◌, [], ℕ, List, sym, ◌∙◌, ap, codes}
use Rattle.std.proofs.lemmas.Str.{encodes-chars}
use Rattle.std.specs.Str.{encode_utf8_all}
use Rattle.descriptors.specs.declared.tree.Tree.{Tree}
use Rattle.handler_shapes.specs.declared.arguments.Arg.TheVariants as arguments
use Rattle.tree_store.specs.Tables.{changed, pairs_with}
use Rattle.sample_types.specs.Types.{point_tree}
use Rattle.sample_api.specs.Handlers.{gives}
use Rattle.sample_api.proofs.point_create.create.Goals as goal

pub returns-clause-creates : goal.returns-clause-creates
returns-clause-creates c =
    let label = c.label_in-label.result.now in
    let point = c.label_in-label.ensures in
    let tree = point_tree label point.n point.on in
    let before = c.args.store.now in
    let key : encode_utf8_all label ≡ c.as_str.result.now =
    ap encode_utf8_all c.as_str.ensures ∙ encodes-chars c.as_str.result.now c.as_str.utf8 in
    record {
      label = label;
      n = point.n;
      on = point.on;
      given = ap (λ (t : Tree). arguments.Tree t ∷ []) point.is;
      reply_is = c.replied.ensures ∙ ap (gives 201) (c.in_ok-shown.ensures ∙ point.is);
      stored = c.in_ok-insert.ensures.ok
          ∙ ap (λ (t : Tree). changed (codes "points") (pairs_with c.as_str.result.now t) before)
          (c.in_ok-stored.ensures ∙ point.is)
          ∙ ap (λ (bytes : List ℕ). changed (codes "points") (pairs_with bytes tree) before) (sym key);
    }
