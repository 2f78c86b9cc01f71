-- What proofs of the crates above take from here: lemmas over the words of specs/, and the notions that they are stated in.

-- names, and what they are defined as
pub use Rattle.descriptors.proofs.Found.{eq_false, other_name, same_name, same_or_not, IsEntry, entry_found, definition_found, definition_is, entry_name}
-- the order of names
pub use Rattle.descriptors.proofs.NameOrder.{same_text, same_unless}
-- loops that copy items in their order
pub use Rattle.descriptors.proofs.Copied.{all_copied, one_more_copied}
