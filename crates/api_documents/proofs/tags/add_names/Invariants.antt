use Rattle.std.proofs.Common.{◌≡◌, take}
use Rattle.api_documents.specs.Ordered.{with_texts}
use Rattle.api_documents.proofs.tags.add_names.Given as goal

-- the names so far
abbrev pub invariant-loop-tag : goal.invariant-loop-tag
invariant-loop-tag l =
    l.names.keys ≡ with_texts l.initial.names.keys (take l.tag-index l.tags)
