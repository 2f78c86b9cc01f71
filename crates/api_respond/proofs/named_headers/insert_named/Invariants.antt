use Rattle.api_respond.proofs.Inserted.{AreInserted}
use Rattle.api_respond.proofs.named_headers.insert_named.Given as goal

-- the headers so far are inserted
abbrev pub invariant-loop-name : goal.invariant-loop-name
invariant-loop-name l = AreInserted l.named.entries l.name-iterator l.fn.lines l.all
