pub mod Orders
pub mod Bounds
pub mod Pairs
pub mod Equal
pub mod HeaderAnswers
pub mod CallerLemmas
