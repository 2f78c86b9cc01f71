-- Texts that begin with what stood there before a call.
use Rattle.std.proofs.Common.{◌≡◌, ℕ, List, ◌++◌}
use Rattle.std.proofs.Transfers.{starts_with_of_append, starts_with_trans}
use Rattle.std.specs.Io.{StartsWith}

-- more was appended to a text that begins so
pub begins_more : (old mid more new : List ℕ) → new ≡ mid ++ more → StartsWith mid old → StartsWith new old
begins_more old mid more new appended begins = starts_with_trans new mid old (starts_with_of_append new mid more appended) begins

-- a text begins with one to which something was appended
pub begins_behind : (old more mid new : List ℕ) → mid ≡ old ++ more → StartsWith new mid → StartsWith new old
begins_behind old more mid new appended begins = starts_with_trans new mid old begins (starts_with_of_append mid old more appended)
