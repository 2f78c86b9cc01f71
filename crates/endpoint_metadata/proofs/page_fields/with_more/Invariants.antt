use Rattle.std.proofs.Common.{◌≡◌, ◌∷◌, map, take}
use Rattle.endpoint_metadata.proofs.page_fields.with_more.Given as goal

-- the two fields and those of the others so far
abbrev pub invariant-loop-field : goal.invariant-loop-field
invariant-loop-field l =
    map (λ f. f.now) l.fields.items ≡ l.limit ∷ l.token ∷ take l.field-index l.more
