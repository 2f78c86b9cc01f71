use Rattle.std.proofs.Common.{ℕ, ◌+◌, ◌<◌, ◌^◌, length, arith}
use Rattle.api_documents.proofs.DistinctNames.{names_differ}
use Rattle.api_documents.proofs.FreeNames.{free_found, free_itself, least_found}
use Rattle.api_documents.proofs.laws.error_names_differ.Goals as goal

-- two more than a number of 64 bits has 64 digits at most
wide : (n : ℕ) → n < 2 ^ 64 → n + 2 < 10 ^ 64
wide n small = omega (arith, small)

pub returns-clause-free : goal.returns-clause-free
returns-clause-free c = λ names name small. free_found names name (wide (length names) small)

pub returns-clause-own : goal.returns-clause-own
returns-clause-own c = free_itself

pub returns-clause-least : goal.returns-clause-least
returns-clause-least c = λ names name small. least_found names name (wide (length names) small)

pub returns-clause-once : goal.returns-clause-once
returns-clause-once c = λ es small. names_differ es (wide (length es) small)
