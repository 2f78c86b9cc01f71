-- What a handler may reply, by what it was told besides its arguments.
use Rattle.std.proofs.Common.{◌≡◌, ◌⊎◌, inl, inr, List, subst}
use Rattle.tree_store.specs.Tables.{Tables}
use Rattle.handler_shapes.specs.declared.arguments.Arg.{Arg}
use Rattle.api_respond.specs.Replies.{ReplyFits}
use Rattle.api_respond.specs.declared.context.RequestContext.{RequestContext}
use Rattle.api_respond.specs.declared.reply.Reply.{Reply}
use Rattle.api_endpoints.specs.Endpoints.{Meanings, shape_at}
use Rattle.api_endpoints.specs.declared.endpoint.ApiEndpoint.{ApiEndpoint}
use Rattle.endpoint_answers.specs.Exchanges.{Call, MayReply, context_of}

module _ {X : Type 0} {F : X → Type 0} (m : Meanings X F) (e : ApiEndpoint X F) (call : Call)
    (context : RequestContext) (is : context ≡ context_of e call.config call.request) (args : List Arg) (after : Tables)
  where
    -- the handler may reply so to what it was told
    abbrev Allows : Reply → Type 0
    Allows reply = (m e).allows e.handler.value context call.store args reply after

    pub may_reply : (reply : Reply) → Allows reply → ReplyFits (shape_at m e) reply → MayReply m e call args reply after
    may_reply reply allowed fits = record {
      allowed =
          subst
          (λ (context : RequestContext). (m e).allows e.handler.value context call.store args reply after) is allowed;
      fits = fits;
    }

    -- memory ran out in the handler: the store is as before, or as after a reply that it may make
    pub lost_reply : (after ≡ call.store) ⊎ ((reply : Reply) × ReplyFits (shape_at m e) reply × Allows reply)
        → (after ≡ call.store) ⊎ ((reply : Reply) × MayReply m e call args reply after)
    lost_reply (inl kept) = inl kept
    lost_reply (inr lost) = inr (lost.0, may_reply lost.0 lost.2 lost.1)
