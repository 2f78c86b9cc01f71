pub mod Steps
pub mod TextSteps
pub mod Passing
pub mod CutLemmas
pub mod Listed
pub mod ScalarFits
pub mod TextFits
pub mod CallerLemmas
