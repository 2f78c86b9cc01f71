-- What proofs of the crates above take from here.
pub use Rattle.command_line.proofs.WordLemmas.{asked_once, command_is, not_both}
pub use Rattle.command_line.proofs.ServingLemmas.{no_usage}
