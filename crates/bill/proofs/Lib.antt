pub mod Listed
pub mod Argued
pub mod Bought
pub mod Digits
