-- What the crates above cite of this one's proofs. Other files of proofs are its own.

-- ---- frames that are taken one by one, and the calls that took them
pub use Rattle.http_bodies.proofs.Taken.{all_data-more, called_behind, called_for, called_never}
