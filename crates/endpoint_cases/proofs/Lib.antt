pub mod LibraryErrors
