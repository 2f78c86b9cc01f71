use Rattle.std.proofs.Common.{[], ◌∷◌, ◌++◌, codes, pos, refl}
use Rattle.std.proofs.lemmas.Result.{on_ok_weaker}
use Rattle.schema_values.specs.declared.json_value.Json.{Int as Number, List as Items, Object}
use Rattle.schema_values.specs.declared.json_value.Member.{Member}
use Rattle.schema_values.specs.Member.{member}
use Rattle.schema_values.proofs.CallerLemmas.{member_written, object_written}
use Rattle.reply_lines.specs.ReplyLines.{outcome_member}
use Rattle.reply_lines.proofs.writing.write_response.Goals as goal

-- each call writes its member behind the earlier ones
pub returns : goal.returns
returns c =
    let start = c.args.out.now ++ 123 ∷ [] in
    let pairs = c.in_ok-write_headers.ensures.0 in
    let outcome = outcome_member c.args.outcome.now in
    let status : Member = member (codes "status") (Number (pos c.args.status)) in
    let headers : Member = member (codes "headers") (Items pairs) in
    let body = c.in_ok-write_body.ensures.0 in
    let two =
    member_written
    (outcome ∷ []) status start _ c.write_status.new.out c.in_ok-write_outcome.ensures
    c.in_ok-write_status.ensures in
    let three =
    member_written
    (outcome ∷ status ∷ []) headers start _ c.write_headers.new.out two c.in_ok-write_headers.ensures.2 in
    let four =
    member_written
    (outcome ∷ status ∷ headers ∷ []) body start _ c.write_body.new.out three c.in_ok-write_body.ensures.2 in
    on_ok_weaker c.push.result (λ is. (
      Object (outcome ∷ status ∷ headers ∷ body ∷ []),
      record {
        pairs = pairs;
        body = body;
        are_pairs = c.in_ok-write_headers.ensures.1;
        is_body = c.in_ok-write_body.ensures.1;
        object = refl;
      },
      object_written (outcome ∷ status ∷ headers ∷ body ∷ []) c.args.out.now _ c.push.new.self four is,
    )) c.push.ensures.ok
