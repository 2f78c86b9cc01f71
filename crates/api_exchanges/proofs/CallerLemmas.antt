-- What proofs of the crates above take from here: lemmas over the words of specs/.

-- a valid request is handled exactly where it denotes arguments, and else refused, by what each outcome says
pub use Rattle.api_exchanges.proofs.Causes.{AnswersHaveCauses}
pub use Rattle.api_exchanges.proofs.Denoted.{handled_as_denoted}
pub use Rattle.api_exchanges.proofs.Told.{handled_or_refused}
