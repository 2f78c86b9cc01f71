pub mod Codeless
