pub mod Tables
pub mod TableView
