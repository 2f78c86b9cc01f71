-- Ranges of numbers and of lengths.
use Rattle.std.specs.Prelude.{ℕ, ℤ, pos, negsuc, Bool, true, ◌&&◌, nat_le, int_le, Option, Some, None}
use Rattle.descriptors.specs.declared.desc.IntKind.{IntKind}
use Rattle.descriptors.specs.declared.desc.IntKind.TheVariants.{I8, I16, I32, I64, U8, U16, U32, U64}

-- the least number of a kind
abbrev pub least_of : IntKind → ℤ
least_of I8 = negsuc 127
least_of I16 = negsuc 32767
least_of I32 = negsuc 2147483647
least_of I64 = negsuc 9223372036854775807
least_of U8 = pos 0
least_of U16 = pos 0
least_of U32 = pos 0
least_of U64 = pos 0

-- the greatest number of a kind
abbrev pub greatest_of : IntKind → ℤ
greatest_of I8 = pos 127
greatest_of I16 = pos 32767
greatest_of I32 = pos 2147483647
greatest_of I64 = pos 9223372036854775807
greatest_of U8 = pos 255
greatest_of U16 = pos 65535
greatest_of U32 = pos 4294967295
greatest_of U64 = pos 18446744073709551615

-- a number is not below a least bound, where one is given
abbrev pub is_at_least : Option ℤ → ℤ → Bool
is_at_least None n = true
is_at_least (Some least) n = int_le least n

-- a number is not above a greatest bound, where one is given
abbrev pub is_at_most : Option ℤ → ℤ → Bool
is_at_most None n = true
is_at_most (Some greatest) n = int_le n greatest

-- a number of the kind, within the bounds
abbrev pub is_number_of : IntKind → Option ℤ → Option ℤ → ℤ → Bool
is_number_of kind min max n = (int_le (least_of kind) n && int_le n (greatest_of kind)) && (is_at_least min n && is_at_most max n)

-- a length is not below a least bound, where one is given
abbrev pub is_long_enough : Option ℕ → ℕ → Bool
is_long_enough None n = true
is_long_enough (Some least) n = nat_le least n

-- a length is not above a greatest bound, where one is given
abbrev pub is_short_enough : Option ℕ → ℕ → Bool
is_short_enough None n = true
is_short_enough (Some greatest) n = nat_le n greatest

-- a length within both bounds
abbrev pub is_length_within : Option ℕ → Option ℕ → ℕ → Bool
is_length_within min max n = is_long_enough min n && is_short_enough max n
