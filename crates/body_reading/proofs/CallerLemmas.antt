-- What the crates above cite of this one's proofs. Other files of proofs are its own.

-- ---- what a whole body gives, and its cause in the frames
pub use Rattle.body_reading.proofs.Outcomes.{cause_whole, whole_cause, whole_read}
