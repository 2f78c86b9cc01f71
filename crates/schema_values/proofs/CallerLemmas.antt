-- What the crates above cite of this one's proofs. Other files of proofs are its own.

-- ---- texts: their characters, their bytes and the order of both
pub use Rattle.schema_values.proofs.TextLemmas.{IsAscii-from_test, chars-all_ascii}
pub use Rattle.schema_values.proofs.Characters.{chars-encoded}
pub use Rattle.schema_values.proofs.Utf8Order.{Bytes, one, two, three, four, bytes_of, cmp-encodes}
-- ---- lists: what they contain, and what holds of each item
pub use Rattle.schema_values.proofs.Contained.{contains_first, contains_later, contains_cases}
pub use Rattle.schema_values.proofs.SoundLemmas.{all-push}
-- ---- names in order
pub use Rattle.schema_values.proofs.DistinctLemmas.{Below, below_all, AreDistinct-sorted}
pub use Rattle.schema_values.proofs.Entries.{IsBelow, inserted_last, one_more}
pub use Rattle.schema_values.proofs.SortedLemmas.{map_sorted, all_inserted, all_sorted}
pub use Rattle.schema_values.proofs.Stable.{less, kept_sorted, none_before_at, sorted_is_sorted}
-- ---- JSON values, level by level
pub use Rattle.schema_values.proofs.JsonParts.{OfParts, by_parts}
pub use Rattle.schema_values.proofs.Besides.{made-out}
pub use Rattle.schema_values.proofs.SoundLemmas.{IsSound-List, IsSound-Object, items_sound, members_sound}
-- ---- derived comparisons, and that of JSON values
pub use Rattle.schema_values.proofs.Comparisons.{IsSameBy, SameFields, ◌⨾◌, both, same_each, same_value}
pub use Rattle.schema_values.proofs.EqualValues.{json_eq, json_eq-tells}
-- ---- the tests of values, and what is read
pub use Rattle.schema_values.proofs.SameLemmas.{same_told}
pub use Rattle.schema_values.proofs.SoundTests.{sound-decides}
pub use Rattle.schema_values.proofs.OneReading.{one_reading}
pub use Rattle.schema_values.proofs.SoundReadings.{reading_sound}
-- ---- lists of texts with commas between them, and what is printed of lists
pub use Rattle.schema_values.proofs.PrintLemmas.{compact-List, joined_from-push}
-- ---- objects that are written member by member
pub use Rattle.schema_values.proofs.MemberLemmas.{value_written, no_member_written, member_written, object_written}
-- the children of a JSON value as a list
pub use Rattle.schema_values.proofs.Rows.{members_of_row, members_row}
-- a value printed over lines, level by level
pub use Rattle.schema_values.proofs.PrettyLemmas.{pretty-Object}
-- a value with its members in ascending order stays as it is
pub use Rattle.schema_values.proofs.AscendingLemmas.{sorted-List, sorted-Object}
