pub mod Tables
pub mod Splits
pub mod Published
pub mod Figures
pub mod Tabled
pub mod Climbing
