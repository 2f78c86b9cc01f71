use Rattle.std.proofs.Common.{◌≡◌, ◌++◌, take}
use Rattle.std.specs.List.{flat_map}
use Rattle.hex.specs.Hex.{encode_lower}
use Rattle.schema_values.specs.Print.{escape}
use Rattle.reply_lines.proofs.writing.write_digits.Given as goal

-- the digits of the bytes so far
abbrev pub invariant-loop-byte : goal.invariant-loop-byte
invariant-loop-byte l = l.out ≡ l.initial.out ++ flat_map escape (encode_lower (take l.byte-index l.bytes))
