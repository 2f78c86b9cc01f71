use Rattle.std.proofs.Common.{◌≡◌, map}
use Rattle.api_documents.specs.Responses.{header_of}
use Rattle.api_documents.proofs.responses.as_headers.Given as goal

-- the headers so far
abbrev pub invariant-loop-parameter : goal.invariant-loop-parameter
invariant-loop-parameter l =
    l.headers ≡ map header_of l.yielded
