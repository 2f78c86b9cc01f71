use Rattle.std.proofs.Common.{◌≡◌, map}
use Rattle.std.specs.Map.Iter.{deref_pair}
use Rattle.api_documents.specs.Ordered.{in_text_order}
use Rattle.api_documents.proofs.tags.configured_names.Given as goal

-- the names so far
abbrev pub invariant-loop-name : goal.invariant-loop-name
invariant-loop-name l =
    l.names.keys ≡ in_text_order (map (λ entry. entry.0) (map deref_pair l.yielded))
