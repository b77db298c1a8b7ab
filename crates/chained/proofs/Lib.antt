pub mod Whole
pub mod Keeping
pub mod Filling
