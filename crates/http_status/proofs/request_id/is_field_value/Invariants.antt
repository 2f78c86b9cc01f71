use Rattle.std.proofs.Common.{take}
use Rattle.http_header.specs.Token.{AllPass, is_value_byte}
use Rattle.http_status.proofs.request_id.is_field_value.Given as goal

abbrev pub invariant-loop-byte : goal.invariant-loop-byte
invariant-loop-byte l = AllPass is_value_byte (take l.byte-index l.bytes)
