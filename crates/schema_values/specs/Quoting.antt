-- The bytes of a text that stand as they are between quotation marks.
use Rattle.std.specs.Prelude.{ℕ, ◌≤◌, ◌≢◌}

-- no control character, quotation mark or backslash
abbrev pub IsUnescaped : ℕ → Type 0
IsUnescaped byte = (32 ≤ byte) × (byte ≢ 34) × (byte ≢ 92)
