pub mod Policies
pub mod Passing
pub mod Trees
pub mod Told
pub mod ReadBack
pub mod OneConfiguration
