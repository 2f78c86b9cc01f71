pub mod CallerLemmas
mod FirstAbove
mod Gathering
mod Outcomes
mod Passing
mod Reading
mod Taking
