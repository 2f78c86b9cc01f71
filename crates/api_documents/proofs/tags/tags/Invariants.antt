use Rattle.std.proofs.Common.{◌≡◌, map}
use Rattle.api_documents.specs.Tags.{tag_of}
use Rattle.api_documents.proofs.tags.tags.Given as goal

-- the tags so far
abbrev pub invariant-loop-name : goal.invariant-loop-name
invariant-loop-name l =
    l.tags ≡ map (tag_of l.configured.entries) l.yielded
