pub mod Answered
pub mod Bounds
