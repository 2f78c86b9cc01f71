use Rattle.std.proofs.Common.{◌≡◌, ◌∷◌, [], ℕ, List, sym, ◌∙◌, ap, subst, inl, inr, codes}
use Rattle.std.proofs.lemmas.Str.{encodes-chars}
use Rattle.std.specs.Option.{is_some}
use Rattle.std.specs.Prelude.{IsSome, None}
use Rattle.std.specs.Str.{encode_utf8_all}
use Rattle.descriptors.specs.declared.tree.Tree.{Tree}
use Rattle.http_status.specs.declared.error.HttpError.{HttpError}
use Rattle.handler_shapes.specs.declared.arguments.Arg.TheVariants as arguments
use Rattle.tree_store.specs.Tables.{changed, pairs_without, stored}
use Rattle.api_respond.specs.declared.reply.ErrorReply.TheVariants.{Http}
use Rattle.api_respond.specs.declared.reply.Reply.TheVariants.{Failure}
use Rattle.sample_api.proofs.point_drop.drop_at.Goals as goal

pub returns-in-Some-clause-drops : goal.returns-in-Some-clause-drops
returns-in-Some-clause-drops c =
    let label = c.in_ok-label.field-0.label in
    let before = c.args.store.now in
    let key : encode_utf8_all label ≡ c.as_str.result.now =
    ap encode_utf8_all c.as_str.ensures ∙ encodes-chars c.as_str.result.now c.as_str.utf8 in
    record {
      label = label;
      given = ap (λ (tree : Tree). arguments.Tree tree ∷ []) (sym c.in_ok-label.ensures);
      outcome = inl (record {
        there = subst (λ (bytes : List ℕ). IsSome (stored (codes "points") bytes before)) (sym key)
            (ap is_some (sym c.remove.ensures.removed ∙ c.in-Some.is));
        reply_is = c.replied.ensures;
        dropped = c.remove.ensures.left (ap is_some c.in-Some.is)
            ∙ ap (λ (bytes : List ℕ). changed (codes "points") (pairs_without bytes) before) (sym key);
      });
    }

pub returns-clause-drops : goal.returns-clause-drops
returns-clause-drops c =
    let label = c.in_ok-label.field-0.label in
    let before = c.args.store.now in
    let key : encode_utf8_all label ≡ c.as_str.result.now =
    ap encode_utf8_all c.as_str.ensures ∙ encodes-chars c.as_str.result.now c.as_str.utf8 in
    record {
      label = label;
      given = ap (λ (tree : Tree). arguments.Tree tree ∷ []) (sym c.in_ok-label.ensures);
      outcome = inr (record {
        absent = subst (λ (bytes : List ℕ). stored (codes "points") bytes before ≡ None) (sym key)
            (sym c.remove.ensures.removed ∙ c.in-None.is);
        reply_is = ap (λ (error : HttpError). Failure (Http error)) c.in_ok-absent-in-None.ensures;
        stays = c.remove.ensures.absent c.in-None.is;
      });
    }
