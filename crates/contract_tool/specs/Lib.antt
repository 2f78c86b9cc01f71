pub mod Outcomes
pub mod LineAnswers
pub mod Sessions
pub mod Ends
