pub mod LineTypes
