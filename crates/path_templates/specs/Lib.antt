pub mod Templates
pub mod Segments
pub mod Shapes
pub mod Variables
pub mod Places
