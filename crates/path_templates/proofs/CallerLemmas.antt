-- What proofs of the crates above take from here: lemmas over the words of specs/.

-- an index of places by keys
pub use Rattle.path_templates.proofs.IndexLemmas.{index-push, index-keyless, index-kept, found_by_index, found_here, found_later}
-- a path is the template of the segments that are read from it
pub use Rattle.path_templates.proofs.Spelled.{spelled}
-- what was added last at each of some keys is taken back
pub use Rattle.path_templates.proofs.TakenBack.{lasts_back}
