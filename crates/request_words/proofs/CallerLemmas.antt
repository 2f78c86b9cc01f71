-- What the crates above cite of this one's proofs. Other files of proofs are its own.

-- ---- texts behind a prefix
pub use Rattle.request_words.proofs.After.{after_prefix}
-- ---- words as characters and as bytes
pub use Rattle.request_words.proofs.WordLemmas.{chars-word, same_test, word_in_bytes}
-- ---- media types
pub use Rattle.request_words.proofs.OneMediaType.{json_or_form}
-- the last line of a name, where the lines are gone through from the end
pub use Rattle.request_words.proofs.LastLine.{last_line-here, last_line-other}
