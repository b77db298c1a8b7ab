pub mod Codes
pub mod Book
pub mod Rows
pub mod Held
pub mod Lawful
pub mod Postings
